use Rattle.std.proofs.Common.{◌≡◌, ◌+◌, ◌∙◌, [], refl, sym, arith, append-nil}
use Rattle.std.specs.Int.{w64, to_be_bytes}
use Rattle.kfs_journal.specs.Disk.{Files}
use Rattle.kfs_journal.specs.Format.{meaning}
use Rattle.kfs_journal.proofs.Drafts.{closed_size, less_means, behind_means, longer, longer_means, longer_settled, has_draft}
use Rattle.kfs_journal.proofs.Moments.{and_then, weaker}
use Rattle.kfs_journal.proofs.journal.draft.Draft.begin.Goals as goal

pub returns-in_err-close_head-clause-any_moment : goal.returns-in_err-close_head-clause-any_moment
returns-in_err-close_head-clause-any_moment g c =
    weaker g.D.Disk.moment g.D.Disk.left_since c.args.disk.now c.close_head.new.disk _ _ (λ f less. less_means _ _ c.args.journal.now c.requires c.other-file.result c.other-file.ensures f less) c.close_head.ensures.any_moment

pub write_through-requires-clause-at : goal.write_through-requires-clause-at
write_through-requires-clause-at g c =
    let size = closed_size (c.args.journal.now.number + 1) _ c.in_ok-close_head.ensures.written.changed in
    omega (arith, size)

pub returns-in_err-write_through-clause-any_moment : goal.returns-in_err-write_through-clause-any_moment
returns-in_err-write_through-clause-any_moment g c =
    let P : Files → Type 0 = λ f. meaning f ≡ meaning (g.D.Disk.seen c.args.disk.now) in
    let closed = c.in_ok-close_head.ensures.written in
    let head = weaker g.D.Disk.moment g.D.Disk.left_since c.args.disk.now c.close_head.new.disk _ P (λ f less. less_means _ _ c.args.journal.now c.requires c.other-file.result c.other-file.ensures f less) c.close_head.ensures.any_moment in
    let len = weaker g.D.Disk.moment g.D.Disk.left_since c.close_head.new.disk c.write_through.new.disk _ P (λ f torn. behind_means _ _ c.args.journal.now c.requires c.other-file.result c.other-file.ensures (c.args.journal.now.number + 1) [] _ closed.changed closed.stays 13 _ f (omega arith) torn) c.write_through.ensures.any_moment in
    and_then g.D.Disk.moment g.D.Disk.left_since c.args.disk.now c.close_head.new.disk c.write_through.new.disk P head len

pub returns-clause-any_moment : goal.returns-clause-any_moment
returns-clause-any_moment g c =
    let P : Files → Type 0 = λ f. meaning f ≡ meaning (g.D.Disk.seen c.args.disk.now) in
    let closed = c.in_ok-close_head.ensures.written in
    let head = weaker g.D.Disk.moment g.D.Disk.left_since c.args.disk.now c.close_head.new.disk _ P (λ f less. less_means _ _ c.args.journal.now c.requires c.other-file.result c.other-file.ensures f less) c.close_head.ensures.any_moment in
    let len = weaker g.D.Disk.moment g.D.Disk.left_since c.close_head.new.disk c.write_through.new.disk _ P (λ f torn. behind_means _ _ c.args.journal.now c.requires c.other-file.result c.other-file.ensures (c.args.journal.now.number + 1) [] _ closed.changed closed.stays 13 _ f (omega arith) torn) c.write_through.ensures.any_moment in
    and_then g.D.Disk.moment g.D.Disk.left_since c.args.disk.now c.close_head.new.disk c.write_through.new.disk P head len

pub returns-clause-settled : goal.returns-clause-settled
returns-clause-settled g c =
    let closed = c.in_ok-close_head.ensures.written in
    let number = c.args.journal.now.number + 1 in
    let size = closed_size number _ closed.changed in
    longer_settled _ _ c.args.journal.now c.requires c.other-file.result c.other-file.ensures number [] _ closed.changed closed.stays 13 _ _ size c.in_ok-write_through.ensures.written _ c.in_ok-write_through.ensures.durable

pub returns-clause-same : goal.returns-clause-same
returns-clause-same g c =
    let closed = c.in_ok-close_head.ensures.written in
    let number = c.args.journal.now.number + 1 in
    let size = closed_size number _ closed.changed in
    longer_means _ _ c.args.journal.now c.requires c.other-file.result c.other-file.ensures number [] _ closed.changed closed.stays 13 _ _ size c.in_ok-write_through.ensures.written

pub returns-clause-draft : goal.returns-clause-draft
returns-clause-draft g c =
    let closed = c.in_ok-close_head.ensures.written in
    let number = c.args.journal.now.number + 1 in
    let size = closed_size number _ closed.changed in
    let file = longer _ _ c.args.journal.now c.requires c.other-file.result c.other-file.ensures number [] _ closed.changed closed.stays 13 _ _ size c.in_ok-write_through.ensures.written in
    (has_draft _ _ c.args.journal.now c.requires c.other-file.result c.other-file.ensures (record { state_len = c.args.state_len; end = 21 }) [] _ _ (omega arith) file (c.to_be_bytes-len.ensures ∙ sym (append-nil (to_be_bytes w64 c.args.state_len))) refl, refl)
