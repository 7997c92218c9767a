use Rattle.std.proofs.Common.{◌≡◌, true, None, sym, subst, Bor}
use Rattle.std.specs.Prelude.{IfNone}
use Rattle.std.specs.Range.Bound.{bound_map}
use Rattle.std.specs.FinMap.Entries.{find}
use Rattle.kfs_maps.specs.Chunks.Starts.{is_from}
use Rattle.kfs_maps.proofs.ChunksLemmas.Runs.{run_begins, run_ends}
use Rattle.kfs_maps.proofs.chunks.chunks.Chunks.next.Goals as goal

pub returns-in_err-key-clause-none : goal.returns-in_err-key-clause-none
returns-in_err-key-clause-none g c =
    let start = bound_map (λ (x : Bor g.row.K.Denot). x.now) c.args.start in
    subst (λ r. IfNone r ((q : g.row.K.Denot) → is_from g.K.Key.order.compare start q ≡ true → find g.K.Key.order.compare q c.args.self.now ≡ None)) (sym c.from_residual.ensures)
    (run_ends g.K.Key.order start c.args.self.now c.run_from.result.now c.run_from.ensures.next c.in_err-key.ensures.value)

pub returns-clause-some : goal.returns-clause-some
returns-clause-some g c =
    let start = bound_map (λ (x : Bor g.row.K.Denot). x.now) c.args.start in
    run_begins g.K.Key.order start c.args.self.now c.run_from.result.now c.in_ok-key.field-0.now c.run_from.ensures.sorted c.run_from.ensures.next c.in_ok-key.ensures.value
