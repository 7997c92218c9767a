-- The row of a client is the definition's, of the groups that are kept.
use Rattle.std.proofs.Common.{◌≡◌, ◌==◌, refl}
use Rattle.kfs_program_text.specs.Command.{client_row}
use Rattle.kfs_program_text.proofs.Readings.{client_steps}
use Rattle.kfs_program_text.proofs.Rows.{row_is}
use Rattle.kfs_program_text.proofs.command.read_client.Goals as goal

pub returns : goal.returns
returns c =
    let client = c.new-client.ensures in
    let row : client_row c.in_ok-number.number c.in_ok-uid.uid c.in_ok-gid.gid c.as_slice.result.now (c.in_ok-privileged.field-0 == 1) c.in_ok-first.first c.in_ok-last.last ≡ c.new-client.result =
    row_is _ _ _ _ _ _ _ c.new-client.result client.groups.0 client.groups.1 client.grant.0 client.grant.1 client.row in
    rw (client_steps, c.in_ok-number.ensures, c.in_ok-uid.ensures, c.in_ok-gid.ensures, c.in_ok-privileged.ensures.read, c.in_ok-first.ensures, c.in_ok-last.ensures, c.in_ok-groups.ensures, ← c.as_slice.ensures.value, row) refl
