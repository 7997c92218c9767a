use Rattle.std.proofs.Common.{append_assoc, arith}
use Rattle.kfs_program.proofs.report.push_head.Goals as goal

pub returns : goal.returns
returns g c = record {
  spare = omega (arith, c.number.ensures.spare, c.text.ensures.spare, c.flag.ensures.spare);
  items = rw (c.flag.ensures.items, c.text.ensures.items, c.number.ensures.items, c.from.ensures) (simp append_assoc);
}
