use Rattle.std.proofs.Common.{◌+◌, ◌∷◌, [], inl, Some, refl, arith}
use Rattle.kfs_journal.specs.Disk.{Files}
use Rattle.kfs_journal.specs.Format.{meaning}
use Rattle.kfs_journal.specs.Journal.{IsOneOf}
use Rattle.kfs_journal.proofs.Drafts.{behind_means, longer, draft_is, draft_size, finish_moment, finish_means, finish_settled}
use Rattle.kfs_journal.proofs.Moments.{and_then, weaker}
use Rattle.kfs_journal.proofs.journal.draft.Draft.finish.Goals as goal

pub write_through-requires-clause-at : goal.write_through-requires-clause-at
write_through-requires-clause-at g c =
    let w = c.requires.whole.2 in
    let size = draft_size _ _ c.args.journal.now c.requires.settled c.other-file.result c.other-file.ensures _ c.args.self _ w.stands in
    omega (arith, size)

pub returns-in_err-write_through-clause-any_moment : goal.returns-in_err-write_through-clause-any_moment
returns-in_err-write_through-clause-any_moment g c = λ state groups w.
    let was = draft_is _ _ c.args.journal.now c.requires.settled c.other-file.result c.other-file.ensures _ c.args.self _ w.stands in
    weaker g.D.Disk.moment g.D.Disk.left_since c.args.disk.now c.write_through.new.disk _ _ (λ f torn. inl (behind_means _ _ c.args.journal.now c.requires.settled c.other-file.result c.other-file.ensures (c.args.journal.now.number + 1) _ _ was refl c.args.self.end _ f (omega (arith, w.stands.end)) torn)) c.write_through.ensures.any_moment

pub returns-in_err-write_through-2-clause-any_moment : goal.returns-in_err-write_through-2-clause-any_moment
returns-in_err-write_through-2-clause-any_moment g c = λ state groups w.
    let P : Files → Type 0 = IsOneOf (meaning (g.D.Disk.seen c.args.disk.now)) (Some (state, groups)) in
    let was = draft_is _ _ c.args.journal.now c.requires.settled c.other-file.result c.other-file.ensures _ c.args.self _ w.stands in
    let size = draft_size _ _ c.args.journal.now c.requires.settled c.other-file.result c.other-file.ensures _ c.args.self _ w.stands in
    let written = c.in_ok-write_through.ensures.written in
    let mid = longer _ _ c.args.journal.now c.requires.settled c.other-file.result c.other-file.ensures (c.args.journal.now.number + 1) _ _ was refl c.args.self.end (0 ∷ []) _ size written in
    let first = weaker g.D.Disk.moment g.D.Disk.left_since c.args.disk.now c.write_through.new.disk _ P (λ f torn. inl (behind_means _ _ c.args.journal.now c.requires.settled c.other-file.result c.other-file.ensures (c.args.journal.now.number + 1) _ _ was refl c.args.self.end _ f (omega (arith, w.stands.end)) torn)) c.write_through.ensures.any_moment in
    let second = weaker g.D.Disk.moment g.D.Disk.left_since c.write_through.new.disk c.write_through-2.new.disk _ P (λ f torn. finish_moment _ _ c.args.journal.now c.requires.settled c.other-file.result c.other-file.ensures (c.args.journal.now.number + 1) w.stands.number refl state groups c.args.self.state_len w.state_len w.state_fits w.groups_fit _ mid written.stays f torn) c.write_through-2.ensures.any_moment in
    and_then g.D.Disk.moment g.D.Disk.left_since c.args.disk.now c.write_through.new.disk c.write_through-2.new.disk P first second

pub returns-clause-any_moment : goal.returns-clause-any_moment
returns-clause-any_moment g c = λ state groups w.
    let P : Files → Type 0 = IsOneOf (meaning (g.D.Disk.seen c.args.disk.now)) (Some (state, groups)) in
    let was = draft_is _ _ c.args.journal.now c.requires.settled c.other-file.result c.other-file.ensures _ c.args.self _ w.stands in
    let size = draft_size _ _ c.args.journal.now c.requires.settled c.other-file.result c.other-file.ensures _ c.args.self _ w.stands in
    let written = c.in_ok-write_through.ensures.written in
    let mid = longer _ _ c.args.journal.now c.requires.settled c.other-file.result c.other-file.ensures (c.args.journal.now.number + 1) _ _ was refl c.args.self.end (0 ∷ []) _ size written in
    let first = weaker g.D.Disk.moment g.D.Disk.left_since c.args.disk.now c.write_through.new.disk _ P (λ f torn. inl (behind_means _ _ c.args.journal.now c.requires.settled c.other-file.result c.other-file.ensures (c.args.journal.now.number + 1) _ _ was refl c.args.self.end _ f (omega (arith, w.stands.end)) torn)) c.write_through.ensures.any_moment in
    let second = weaker g.D.Disk.moment g.D.Disk.left_since c.write_through.new.disk c.write_through-2.new.disk _ P (λ f torn. finish_moment _ _ c.args.journal.now c.requires.settled c.other-file.result c.other-file.ensures (c.args.journal.now.number + 1) w.stands.number refl state groups c.args.self.state_len w.state_len w.state_fits w.groups_fit _ mid written.stays f torn) c.write_through-2.ensures.any_moment in
    and_then g.D.Disk.moment g.D.Disk.left_since c.args.disk.now c.write_through.new.disk c.write_through-2.new.disk P first second

pub returns-clause-settled : goal.returns-clause-settled
returns-clause-settled g c =
    let w = c.requires.whole.2 in
    let was = draft_is _ _ c.args.journal.now c.requires.settled c.other-file.result c.other-file.ensures _ c.args.self _ w.stands in
    let size = draft_size _ _ c.args.journal.now c.requires.settled c.other-file.result c.other-file.ensures _ c.args.self _ w.stands in
    let written = c.in_ok-write_through.ensures.written in
    let mid = longer _ _ c.args.journal.now c.requires.settled c.other-file.result c.other-file.ensures (c.args.journal.now.number + 1) _ _ was refl c.args.self.end (0 ∷ []) _ size written in
    finish_settled _ _ c.args.journal.now c.requires.settled c.other-file.result c.other-file.ensures (c.args.journal.now.number + 1) w.stands.number refl c.requires.whole.0 c.requires.whole.1 c.args.self.state_len w.state_len w.state_fits w.groups_fit _ mid written.stays _ c.in_ok-write_through-2.ensures.written c.args.self.end _ w.stands.end c.in_ok-write_through-2.ensures.durable

pub returns-clause-changed : goal.returns-clause-changed
returns-clause-changed g c = λ state groups w.
    let was = draft_is _ _ c.args.journal.now c.requires.settled c.other-file.result c.other-file.ensures _ c.args.self _ w.stands in
    let size = draft_size _ _ c.args.journal.now c.requires.settled c.other-file.result c.other-file.ensures _ c.args.self _ w.stands in
    let written = c.in_ok-write_through.ensures.written in
    let mid = longer _ _ c.args.journal.now c.requires.settled c.other-file.result c.other-file.ensures (c.args.journal.now.number + 1) _ _ was refl c.args.self.end (0 ∷ []) _ size written in
    finish_means _ _ c.args.journal.now c.requires.settled c.other-file.result c.other-file.ensures (c.args.journal.now.number + 1) w.stands.number refl state groups c.args.self.state_len w.state_len w.state_fits w.groups_fit _ mid written.stays _ c.in_ok-write_through-2.ensures.written
