use Rattle.std.proofs.Common.{◌+◌, ◌++◌, refl, arith, append_assoc, length-append}
use Rattle.std.specs.Int.{w64, to_be_bytes}
use Rattle.kfs_journal.proofs.Drafts.{behind_means, longer, longer_means, longer_settled, draft_is, draft_size, has_draft}
use Rattle.kfs_journal.proofs.Moments.{weaker}
use Rattle.kfs_journal.proofs.journal.draft.Draft.extend.Goals as goal

pub write_through-requires-clause-at : goal.write_through-requires-clause-at
write_through-requires-clause-at g c =
    let size = draft_size _ _ c.args.journal.now c.requires.settled c.other.result c.other.ensures _ c.args.self.now _ c.requires.draft.1 in
    omega (arith, size)

pub returns-in_err-write_through-clause-any_moment : goal.returns-in_err-write_through-clause-any_moment
returns-in_err-write_through-clause-any_moment g c =
    let draft = c.requires.draft.1 in
    let was = draft_is _ _ c.args.journal.now c.requires.settled c.other.result c.other.ensures _ c.args.self.now _ draft in
    weaker g.D.Disk.moment g.D.Disk.left_since c.args.disk.now c.write_through.new.disk _ _ (λ f torn. behind_means _ _ c.args.journal.now c.requires.settled c.other.result c.other.ensures (c.args.journal.now.number + 1) _ _ was refl c.args.self.now.end _ f (omega (arith, draft.end)) torn) c.write_through.ensures.any_moment

pub returns-clause-any_moment : goal.returns-clause-any_moment
returns-clause-any_moment g c =
    let draft = c.requires.draft.1 in
    let was = draft_is _ _ c.args.journal.now c.requires.settled c.other.result c.other.ensures _ c.args.self.now _ draft in
    weaker g.D.Disk.moment g.D.Disk.left_since c.args.disk.now c.write_through.new.disk _ _ (λ f torn. behind_means _ _ c.args.journal.now c.requires.settled c.other.result c.other.ensures (c.args.journal.now.number + 1) _ _ was refl c.args.self.now.end _ f (omega (arith, draft.end)) torn) c.write_through.ensures.any_moment

pub returns-clause-settled : goal.returns-clause-settled
returns-clause-settled g c =
    let draft = c.requires.draft.1 in
    let was = draft_is _ _ c.args.journal.now c.requires.settled c.other.result c.other.ensures _ c.args.self.now _ draft in
    let size = draft_size _ _ c.args.journal.now c.requires.settled c.other.result c.other.ensures _ c.args.self.now _ draft in
    longer_settled _ _ c.args.journal.now c.requires.settled c.other.result c.other.ensures (c.args.journal.now.number + 1) _ _ was refl c.args.self.now.end _ _ size c.in_ok-write_through.ensures.written _ c.in_ok-write_through.ensures.durable

pub returns-clause-same : goal.returns-clause-same
returns-clause-same g c =
    let draft = c.requires.draft.1 in
    let was = draft_is _ _ c.args.journal.now c.requires.settled c.other.result c.other.ensures _ c.args.self.now _ draft in
    let size = draft_size _ _ c.args.journal.now c.requires.settled c.other.result c.other.ensures _ c.args.self.now _ draft in
    longer_means _ _ c.args.journal.now c.requires.settled c.other.result c.other.ensures (c.args.journal.now.number + 1) _ _ was refl c.args.self.now.end _ _ size c.in_ok-write_through.ensures.written

pub returns-clause-draft : goal.returns-clause-draft
returns-clause-draft g c = λ body draft.
    let len8 = to_be_bytes w64 c.args.self.now.state_len in
    let was = draft_is _ _ c.args.journal.now c.requires.settled c.other.result c.other.ensures _ c.args.self.now body draft in
    let size = draft_size _ _ c.args.journal.now c.requires.settled c.other.result c.other.ensures _ c.args.self.now body draft in
    let file = longer _ _ c.args.journal.now c.requires.settled c.other.result c.other.ensures (c.args.journal.now.number + 1) (len8 ++ body) _ was refl c.args.self.now.end c.args.bytes.now _ size c.in_ok-write_through.ensures.written in
    has_draft _ _ c.args.journal.now c.requires.settled c.other.result c.other.ensures _ (body ++ c.args.bytes.now) _ _ draft.number file (append_assoc len8 body c.args.bytes.now) (omega (arith, draft.end, length-append body c.args.bytes.now))
