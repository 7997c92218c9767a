use Rattle.std.proofs.Common.{rules, ◌≡◌, Some, None}
use Rattle.kfs_program.specs.Images.Showing.{bytes_said}
use Rattle.kfs_program.proofs.ImagesLemmas.Loads.{shown, unshown}
use Rattle.kfs_program.proofs.images.showing.push_rows.Goals as goal

pub returns-in_default-2 : goal.returns-in_default-2
returns-in_default-2 g c =
    let said : bytes_said c.args.line.now ≡ Some c.deref.result.now = search rules in
    let none : c.in_ok-raw.field-0 ≡ None = search rules in
    unshown c.args.line.now c.args.out.now.items c.deref.result.now said c.sound_rows.new.out.items c.in_ok-raw.field-0 c.in_ok-raw.ensures none

pub returns : goal.returns
returns g c =
    let said : bytes_said c.args.line.now ≡ Some c.deref.result.now = search rules in
    let some : c.in_ok-raw.field-0 ≡ Some c.in-Some-2.raw = search rules in
    shown c.args.line.now c.args.out.now.items c.deref.result.now said c.sound_rows.new.out.items c.in_ok-raw.field-0 c.in_ok-raw.ensures c.in-Some-2.raw c.push_nodes_and_names.new.out.items some c.in_ok-push_nodes_and_names.ensures
