use Rattle.std.proofs.Common.{length, ap, arith}
use Rattle.std.proofs.lemmas.List.{length-append}
use Rattle.std.specs.declared.ops.Bound.TheVariants.{Excluded}
use Rattle.kfs_model.specs.Tree.{name_order}
use Rattle.kfs_image.specs.Encode.Rows.{entries_from}
use Rattle.kfs_image.proofs.EncodeLemmas.Walks.{all_from}
use Rattle.kfs_image.proofs.encode.names.count_names.Goals as goal

pub loop-run-init : goal.loop-run-init
loop-run-init g c = omega (arith, c.none-rows.ensures, ap length (all_from name_order c.args.image.now.names))

pub loop-run-smaller : goal.loop-run-smaller
loop-run-smaller g c =
    let run = c.in-Some.run' in
    omega (arith, c.in-Some.ensures.some, ap length c.in-Some.ensures.next, length-append run.names.now (entries_from (Excluded run.last.now) c.args.image.now.names))

pub loop-run-preserved : goal.loop-run-preserved
loop-run-preserved g c =
    let run = c.in-Some.run' in
    omega (arith, c.loop-run.invariant, c.in_ok-rows.ensures, ap length c.in-Some.ensures.next, length-append run.names.now (entries_from (Excluded run.last.now) c.args.image.now.names))

pub returns : goal.returns
returns g c = omega (arith, c.loop-run.invariant, ap length c.in_default.ensures.none)
