use Rattle.std.proofs.Common.{subst, Some}
use Rattle.kfs_image.specs.Codec.RawImages.{raw_of}
use Rattle.kfs_fsck.specs.Faults.{Tells}
use Rattle.kfs_program.specs.Images.Loading.{AreRead}
use Rattle.kfs_program.proofs.ImagesLemmas.Loads.{broken}
use Rattle.kfs_program.proofs.images.loading.load.Goals as goal

pub returns-in-Err-Found : goal.returns-in-Err-Found
returns-in-Err-Found g c =
    let read : AreRead c.args.bytes.now c.args.out.now.items c.read_rows.new.out.items (Some c.in-Some.raw) =
    subst (AreRead c.args.bytes.now c.args.out.now.items c.read_rows.new.out.items) c.in-Some.is c.in_ok-raw.ensures in
    let found = subst (Tells c.in-Some.raw) c.in-Err-Found.field-0-is c.in-Err-Found.ensures.fault in
    let ok = c.in_ok-finding_line-in-Err-Found.ensures.ok in
    broken c.args.bytes.now c.args.out.now.items c.finding_line.new.out.items c.read_rows.new.out.items (raw_of c.in-Some.raw) c.in-Err-Found.finding read.0 read.1 found ok
