use Rattle.std.proofs.Common.{append_assoc, arith}
use Rattle.kfs_program.proofs.report.push_done.Goals as goal

pub returns-in-Leased : goal.returns-in-Leased
returns-in-Leased g c = record {
  spare = omega (arith, c.text.ensures.spare, c.number.ensures.spare);
  items = rw (c.in-Leased.is, c.number.ensures.items, c.from.ensures, c.text.ensures.items) (simp append_assoc);
}

pub returns-in-Dropped : goal.returns-in-Dropped
returns-in-Dropped g c = record {
  spare = omega (arith, c.text-in-Dropped.ensures.spare, c.number-in-Dropped.ensures.spare);
  items = rw (c.in-Dropped.is, c.number-in-Dropped.ensures.items, c.from-in-Dropped.ensures, c.text-in-Dropped.ensures.items) (simp append_assoc);
}

pub returns-in-Ticked : goal.returns-in-Ticked
returns-in-Ticked g c = record {
  spare = omega (arith, c.text-in-Ticked.ensures.spare, c.number-in-Ticked.ensures.spare);
  items = rw (c.in-Ticked.is, c.number-in-Ticked.ensures.items, c.text-in-Ticked.ensures.items) (simp append_assoc);
}

pub returns-in-Moved : goal.returns-in-Moved
returns-in-Moved g c = record {
  spare = omega (arith, c.text-in-Moved.ensures.spare, c.number-in-Moved.ensures.spare);
  items = rw (c.in-Moved.is, c.number-in-Moved.ensures.items, c.from-in-Moved.ensures, c.text-in-Moved.ensures.items) (simp append_assoc);
}
