use Rattle.std.proofs.Common.{◌++◌, length, ap, arith, Bor}
use Rattle.std.proofs.lemmas.List.{length-append}
use Rattle.std.specs.List.{flat_map}
use Rattle.std.specs.Range.Bound.{bound_map}
use Rattle.std.specs.declared.ops.Bound.TheVariants.{Excluded}
use Rattle.kfs_model.specs.Tree.{name_order}
use Rattle.kfs_image.specs.Encode.Rows.{entries_from, name_spelling}
use Rattle.kfs_image.proofs.EncodeLemmas.Walks.{all_from}
use Rattle.kfs_image.proofs.EncodeLemmas.Spelled.{written_run, written_all}
use Rattle.kfs_image.proofs.encode.names.write_names.Goals as goal

pub loop-run-init : goal.loop-run-init
loop-run-init g c = ap (λ es. c.args.out.now.items ++ flat_map name_spelling es) (all_from name_order c.args.image.now.names)

pub loop-run-smaller : goal.loop-run-smaller
loop-run-smaller g c =
    let run = c.in-Some.run' in
    omega (arith, c.in-Some.ensures.some, ap length c.in-Some.ensures.next, length-append run.names.now (entries_from (Excluded run.last.now) c.args.image.now.names))

pub loop-run-preserved : goal.loop-run-preserved
loop-run-preserved g c =
    let names = c.args.image.now.names in
    let run = c.in-Some.run' in
    written_run name_spelling c.loop-run.out.items c.write_run.new.out.items _ run.names.now (entries_from (bound_map (λ (x : Bor _). x.now) c.loop-run.start) names) (entries_from (Excluded run.last.now) names)
    c.in-Some.ensures.next c.in_ok-write_run.ensures c.loop-run.invariant

pub returns : goal.returns
returns g c = written_all name_spelling c.loop-run.out.items _ _ c.in_default.ensures.none c.loop-run.invariant
