use Rattle.std.proofs.Common.{◌≡◌, ◌++◌, length, take, drop, subst, arith}
use Rattle.kfs_model.specs.Limits.{block_size}
use Rattle.kfs_model.specs.Migration.{Move}
use Rattle.kfs_migrate.specs.Applied.{AreBytesOf}
use Rattle.kfs_migrate.proofs.MoveTests.{bytes_are}
use Rattle.kfs_migrate.proofs.apply.bytes_of.Goals as goal

pub returns : goal.returns
returns g c =
    let bytes = c.in_ok-bytes.bytes in
    let buffer = c.read_block.new.buffer in
    let m : Move = record { number = c.m.inside.number; block = c.m.inside.block; target = record { tier = c.m.inside.tier; place = c.m.inside.place } } in
    let long : length buffer ≡ block_size = omega (arith, c.in_ok-bytes.ensures.len, c.deref_mut.ensures.len, bytes.ok.0, c.read_block.auto.buffer) in
    subst (λ (x : Move). AreBytesOf c.args.image.now x (take bytes.len (buffer ++ drop (length buffer) bytes.items))) c.m.view_is (bytes_are c.args.image.now m bytes.len buffer bytes.items long (omega (arith, c.in_ok-bytes.ensures.len, bytes.ok.0)) c.read_block.ensures)
