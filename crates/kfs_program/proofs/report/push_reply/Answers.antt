use Rattle.std.proofs.Common.{append_assoc, arith}
use Rattle.kfs_program.proofs.report.push_reply.Goals as goal

pub returns-in-Yes : goal.returns-in-Yes
returns-in-Yes g c = record {
  spare = omega (arith, c.push_head.ensures.spare, c.text.ensures.spare, c.number.ensures.spare);
  items = rw (c.in-Yes.is, c.number.ensures.items, c.text.ensures.items, c.push_head.ensures.items) (simp append_assoc);
}

pub returns-in-NoRoom : goal.returns-in-NoRoom
returns-in-NoRoom g c = record {
  spare = omega (arith, c.push_head-in-NoRoom.ensures.spare, c.text-in-NoRoom.ensures.spare, c.number-in-NoRoom.ensures.spare, c.text-in-NoRoom-2.ensures.spare, c.number-in-NoRoom-2.ensures.spare);
  items = rw (
    c.in-NoRoom.is,
    c.number-in-NoRoom-2.ensures.items,
    c.text-in-NoRoom-2.ensures.items,
    c.number-in-NoRoom.ensures.items,
    c.text-in-NoRoom.ensures.items,
    c.push_head-in-NoRoom.ensures.items,
    c.from.ensures,
  ) (simp append_assoc);
}
