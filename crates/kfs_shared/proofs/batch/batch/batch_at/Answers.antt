use Rattle.std.proofs.Common.{◌≡◌, ◌/◌, ◌<◌, inl, inr, length, slice_index_or, vec_capacity, refl, sym, ap, subst, arith, rules}
use Rattle.std.proofs.lemmas.Bool.{both_ways}
use denote.Exit.{yes}
use denote.Param.Send.{param_send, arg_send}
use Rattle.kfs_desk.specs.Beginning.{beginning_of}
use Rattle.kfs_shared.proofs.TurnsLemmas.Lists.{starts_longer, starts_trans}
use Rattle.kfs_shared.specs.Passes.{seen, started}
use Rattle.kfs_shared.proofs.CrewLemmas.Crews.{pairs_length}
use Rattle.kfs_shared.specs.Crew.Tasks.{all_of}
use Rattle.kfs_shared.specs.Batch.Batch.{AreTheRows, AscendInShares, position_in}
use Rattle.kfs_shared.proofs.BatchLemmas.Batches.{as_many, goes_on, in_shares, settled_all, settled_count, the_rows}
use Rattle.kfs_desk.proofs.Sent.{desk_send}
use Rattle.kfs_shared.proofs.batch.batch.batch_at.Goals as goal

pub work-met-requires-send-D : goal.work-met-requires-send-D
work-met-requires-send-D g c κs within =
    param_send _ _ (arg_send _ yes _ (desk_send _ g.A.Allocator c.type_bounds.send-A c.type_bounds.sync-A c.type_bounds.frees-A-Allocator))

pub work-met-requires-clause-room : goal.work-met-requires-clause-room
work-met-requires-clause-room g c κs within = λ k d low.
    subst (λ n. n / length c.args.room.crew.shares.items < vec_capacity (slice_index_or c.args.room.crew.shares.items k d)) (sym (as_many (λ j. j.number) (λ j. j.hand) c.jobs_of-jobs.result.items c.args.submissions.items c.jobs_of-jobs.ensures.jobs)) (c.requires.rooms k d low)

pub returns-in_default-clause-back : goal.returns-in_default-clause-back
returns-in_default-clause-back g c = inl (c.args.shared.table.shared.key.value, refl, c.work-met.result.seat.id, c.work-met.result.seat.me.0, c.in_default.ensures.unreturned)

pub settle-requires-clause-replies : goal.settle-requires-clause-replies
settle-requires-clause-replies g c =
    let jobs = as_many (λ j. j.number) (λ j. j.hand) c.jobs_of-jobs.result.items c.args.submissions.items c.jobs_of-jobs.ensures.jobs in
    let tasks = pairs_length _ c.jobs_of-jobs.result.items c.work-met.new.tasks.items c.work-met.ensures.done.done in
    let room = c.requires.replies.1 in
    (c.requires.replies.0, omega arith)

pub settle-requires-clause-left : goal.settle-requires-clause-left
settle-requires-clause-left g c =
    let jobs = as_many (λ j. j.number) (λ j. j.hand) c.jobs_of-jobs.result.items c.args.submissions.items c.jobs_of-jobs.ensures.jobs in
    let tasks = pairs_length _ c.jobs_of-jobs.result.items c.work-met.new.tasks.items c.work-met.ensures.done.done in
    let room = c.requires.left.1 in
    (c.requires.left.0, omega arith)

pub returns-clause-desk : goal.returns-clause-desk
returns-clause-desk g c =
    let end = c.in-Ok.ensures.ok in
    goes_on (started beginning_of c.args.shared) (seen c.args.pass) (seen c.work-met.result) c.in-Ok.desk end.begun end.begins c.work-met.ensures.seen.0 end.led end.lawful

pub returns-clause-settled : goal.returns-clause-settled
returns-clause-settled g c =
    let end = c.in-Ok.ensures.ok in
    settled_all (λ j. j.number) (λ j. j.hand) (started beginning_of c.args.shared) c.in-Ok.desk.docket (seen c.work-met.result) c.args.submissions.items c.jobs_of-jobs.result.items c.work-met.new.tasks.items
    c.settle.new.replies.items c.settle.new.left.items end.begins end.lawful c.jobs_of-jobs.ensures.jobs c.work-met.ensures.done.done c.settle.ensures.replies c.settle.ensures.left

pub returns-then-not-has_a_row_for_each-clause-back : goal.returns-then-not-has_a_row_for_each-clause-back
returns-then-not-has_a_row_for_each-clause-back g c =
    let end = c.in-Ok.ensures.ok in
    let b = started beginning_of c.args.shared in
    let replies = c.settle.new.replies.items in
    let left = c.settle.new.left.items in
    let all = settled_all (λ j. j.number) (λ j. j.hand) b c.in-Ok.desk.docket (seen c.work-met.result) c.args.submissions.items c.jobs_of-jobs.result.items c.work-met.new.tasks.items
    replies left end.begins end.lawful c.jobs_of-jobs.ensures.jobs c.work-met.ensures.done.done c.settle.ensures.replies c.settle.ensures.left in
    let count = settled_count b c.in-Ok.desk.docket 0 c.args.submissions.items replies left all in
    let before : c.seen-rows.result ≡ length (seen c.args.pass) = search rules in
    let now : c.len.result ≡ length c.in-Ok.desk.docket = search rules in
    let answered : c.len-2.result ≡ length replies = search rules in
    let others : c.len-3.result ≡ length left = search rules in
    inr (
      c.in-Ok.desk,
      replies,
      left,
      goes_on b (seen c.args.pass) (seen c.work-met.result) c.in-Ok.desk end.begun end.begins c.work-met.ensures.seen.0 end.led end.lawful,
      all,
      λ same. both_ways c.has_a_row_for_each.result c.if-not-has_a_row_for_each.true (c.has_a_row_for_each.ensures.1 (omega arith)),
    )

pub returns-clause-rows : goal.returns-clause-rows
returns-clause-rows g c =
    let end = c.in-Ok.ensures.ok in
    let b = started beginning_of c.args.shared in
    let from = seen c.args.pass in
    let docket = c.in-Ok.desk.docket in
    let replies = c.settle.new.replies.items in
    let left = c.settle.new.left.items in
    let all = settled_all (λ j. j.number) (λ j. j.hand) b docket (seen c.work-met.result) c.args.submissions.items c.jobs_of-jobs.result.items c.work-met.new.tasks.items
    replies left end.begins end.lawful c.jobs_of-jobs.ensures.jobs c.work-met.ensures.done.done c.settle.ensures.replies c.settle.ensures.left in
    let count = settled_count b docket 0 c.args.submissions.items replies left all in
    let before : c.seen-rows.result ≡ length from = search rules in
    let now : c.len.result ≡ length docket = search rules in
    let answered : c.len-2.result ≡ length replies = search rules in
    let others : c.len-3.result ≡ length left = search rules in
    let one_each = c.has_a_row_for_each.ensures.0 c.if-not-has_a_row_for_each.false in
    let same = ap (λ rs. length (all_of position_in rs)) c.settle.ensures.replies in
    let less = starts_longer docket from (starts_trans docket (seen c.work-met.result) from end.begins c.work-met.ensures.seen.0) in
    subst (AreTheRows (length from) (length docket)) (sym c.settle.ensures.replies)
    (the_rows (λ j. j.hand) _ _ from (seen c.work-met.result) docket end.begins c.jobs_of-jobs.result.items c.work-met.new.tasks.items c.work-met.ensures.done less (omega arith))

pub returns-clause-shares : goal.returns-clause-shares
returns-clause-shares g c =
    subst (AscendInShares (length c.args.room.crew.shares.items) (length (seen c.args.pass)) (length c.in-Ok.desk.docket)) (sym c.settle.ensures.replies)
    (in_shares (λ j. j.hand) _ _ (seen c.args.pass) (seen c.work-met.result) c.in-Ok.desk.docket c.in-Ok.ensures.ok.begins c.jobs_of-jobs.result.items c.work-met.new.tasks.items c.work-met.ensures.done)
