use Rattle.std.proofs.Common.{arith, length-append}
use Rattle.kfs_kept.proofs.UnderWay.{step_more}
use Rattle.kfs_kept.proofs.renewal.Renewal.write.Goals as goal

pub extend-requires-clause-draft : goal.extend-requires-clause-draft
extend-requires-clause-draft g c = (_, c.requires.under_way.1.written)

pub next_part-part-requires : goal.next_part-part-requires
next_part-part-requires g c =
    let r = c.args.self.now in
    omega (arith, c.requires.under_way.1.within, length-append r.state.items r.records.items)

pub returns-clause-under_way : goal.returns-clause-under_way
returns-clause-under_way g c = λ s u.
    step_more _ _ c.args.self.now c.extend.new.self _ s c.deref.result.now c.deref-2.result.now c.next_part-part.result.now _ c.deref.ensures.value c.deref-2.ensures.value u
    c.next_part-part.ensures.parts c.next_part-part.ensures.within c.in_ok-extend.ensures.draft c.extend.ensures.len
