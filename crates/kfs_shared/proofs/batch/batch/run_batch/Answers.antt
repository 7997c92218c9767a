use Rattle.std.proofs.Common.{◌≡◌, ◌/◌, ◌<◌, [], length, replicate, slice_index_or, vec_capacity, IfOk, sym, ap, subst, ◌∙◌, arith, rules}
use Rattle.std.proofs.lemmas.List.{length-map, length-replicate}
use Rattle.kfs_desk.specs.Beginning.{beginning_of}
use Rattle.kfs_shared.specs.Passes.{seen, started}
use Rattle.kfs_shared.specs.Batch.Batch.{AscendInShares}
use Rattle.kfs_shared.proofs.BatchLemmas.Batches.{lost_back}
use Rattle.kfs_shared.proofs.batch.batch.run_batch.Goals as goal

pub batch_at-requires-clause-shares : goal.batch_at-requires-clause-shares
batch_at-requires-clause-shares g c κs within =
    let shares = c.in-Ok.room.crew.shares.items in
    let many : length shares ≡ c.args.workers = sym (length-map shares (λ s. s.items)) ∙ (ap length c.in-Ok.ensures.shares ∙ length-replicate c.args.workers []) in
    let some : 0 < c.args.workers = search rules in
    (omega arith, c.in-Ok.ensures.shares ∙ ap (λ n. replicate n []) (sym many))

pub batch_at-requires-clause-rooms : goal.batch_at-requires-clause-rooms
batch_at-requires-clause-rooms g c κs within = λ k d low.
    let shares = c.in-Ok.room.crew.shares.items in
    let many : length shares ≡ c.args.workers = sym (length-map shares (λ s. s.items)) ∙ (ap length c.in-Ok.ensures.shares ∙ length-replicate c.args.workers []) in
    let long : c.len.result ≡ length c.args.submissions.items = search rules in
    subst (λ n. length c.args.submissions.items / n < vec_capacity (slice_index_or shares k d)) (sym many)
    (subst (λ n. n / c.args.workers < vec_capacity (slice_index_or shares k d)) long (c.in-Ok.ensures.rooms k d low))

pub batch_at-requires-clause-workers : goal.batch_at-requires-clause-workers
batch_at-requires-clause-workers g c κs within =
    let shares = c.in-Ok.room.crew.shares.items in
    let many : length shares ≡ c.args.workers = sym (length-map shares (λ s. s.items)) ∙ (ap length c.in-Ok.ensures.shares ∙ length-replicate c.args.workers []) in
    let room = c.in-Ok.ensures.workers.1 in
    (c.in-Ok.ensures.workers.0, omega arith)

pub returns-in-Ok-new-clause-shares : goal.returns-in-Ok-new-clause-shares
returns-in-Ok-new-clause-shares g c =
    let shares = c.in-Ok.room.crew.shares.items in
    let many : length shares ≡ c.args.workers = sym (length-map shares (λ s. s.items)) ∙ (ap length c.in-Ok.ensures.shares ∙ length-replicate c.args.workers []) in
    subst (λ n. IfOk c.batch_at.result (λ end. AscendInShares n (length c.args.desk.docket) (length end.desk.docket) end.replies.items)) many
    (subst (λ rows. IfOk c.batch_at.result (λ end. AscendInShares (length shares) (length rows) (length end.desk.docket) end.replies.items)) c.in-Ok-new.ensures.seen c.batch_at.ensures.shares)

pub returns-in-Ok-new-clause-back : goal.returns-in-Ok-new-clause-back
returns-in-Ok-new-clause-back g c =
    lost_back c.args.desk c.args.submissions (started beginning_of c.in-Ok-new.shared) (seen c.in-Ok-new.pass) c.batch_at.result c.in-Ok-new.ensures.opening c.in-Ok-new.ensures.seen c.batch_at.ensures.back
