use Rattle.std.proofs.Common.{rules, inl, inr, refl}
use Rattle.kfs_c.proofs.slot.take_desk.Goals as goal

pub returns-in-View-clause-untaken : goal.returns-in-View-clause-untaken
returns-in-View-clause-untaken c = inr (refl, inl (c.in-View.field-0, search rules))

pub returns-in-Verdict-clause-untaken : goal.returns-in-Verdict-clause-untaken
returns-in-Verdict-clause-untaken c = inr (refl, inr (c.in-Verdict.field-0, search rules))
