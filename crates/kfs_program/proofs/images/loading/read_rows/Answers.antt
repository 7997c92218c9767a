use Rattle.std.proofs.Common.{rules, ◌≡◌}
use Rattle.kfs_image.specs.declared.codec.fault.ImageFault.TheVariants.{OutOfMemory}
use Rattle.kfs_program.proofs.ImagesLemmas.Loads.{unspelled}
use Rattle.kfs_program.proofs.images.loading.read_rows.Goals as goal

pub returns-in_ok-image_line-in-Err : goal.returns-in_ok-image_line-in-Err
returns-in_ok-image_line-in-Err g c =
    let other : c.in-Err.fault ≡ OutOfMemory → ⊥ = search rules in
    unspelled c.args.bytes.now c.args.out.now.items c.image_line.new.out.items c.in-Err.fault other c.in-Err.ensures.found c.in_ok-image_line-in-Err.ensures.ok
