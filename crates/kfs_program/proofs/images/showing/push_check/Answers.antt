use Rattle.std.proofs.Common.{rules, ◌≡◌, sym, subst, Some}
use Rattle.std.specs.Prelude.{is_some}
use Rattle.kfs_program.specs.Images.Showing.{AppendsAnswer, Passes, bytes_said}
use Rattle.kfs_program.proofs.ImagesLemmas.Loads.{checked}
use Rattle.kfs_program.proofs.images.showing.push_check.Goals as goal

pub returns : goal.returns
returns g c =
    let said : bytes_said c.args.line.now ≡ Some c.deref.result.now = search rules in
    let is : c.is_some.result ≡ is_some c.in_ok-image.image = search rules in
    subst (AppendsAnswer Passes c.args.line.now c.args.out.now.items c.load.new.out.items) (sym is)
    (checked c.args.line.now c.args.out.now.items c.deref.result.now said c.load.new.out.items c.in_ok-image.image c.in_ok-image.ensures)
