use Rattle.std.proofs.Common.{append_assoc}
use Rattle.kfs_program.proofs.sessions.listing.push_name.Goals as goal

pub returns : goal.returns
returns g c =
    rw (c.number.ensures.items, c.from.ensures, c.text.ensures.items, c.in_ok-try_reserve.ensures.items, c.in_ok-extend_from_slice-2.ensures.items, c.in_ok-extend_from_slice.ensures.items, c.as_bytes-2.ensures.value, c.in_ok-digits.ensures, c.as_bytes.ensures.value)
    (simp append_assoc)
