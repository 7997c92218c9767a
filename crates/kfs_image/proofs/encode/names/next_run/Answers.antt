use Rattle.std.proofs.Common.{Bor}
use Rattle.std.specs.Range.Bound.{bound_map}
use Rattle.kfs_model.specs.Tree.{name_order}
use Rattle.kfs_image.proofs.EncodeLemmas.Walks.{run_next}
use Rattle.kfs_image.proofs.encode.names.next_run.Goals as goal

pub returns-clause-next : goal.returns-clause-next
returns-clause-next g c =
    run_next name_order (bound_map (λ (x : Bor _). x.now) c.args.start) c.args.image.now.names c.names_from-names.result.now c.in_ok-last.field-0.now c.names_from-names.ensures c.in_ok-last.ensures.value
