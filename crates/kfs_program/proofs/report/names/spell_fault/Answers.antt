use Rattle.std.proofs.Common.{append_assoc, arith}
use Rattle.kfs_program.proofs.report.names.spell_fault.Goals as goal

pub returns-in-BadRow : goal.returns-in-BadRow
returns-in-BadRow g c = record {
  spare = omega (arith, c.text-in-BadRow.ensures.spare, c.number.ensures.spare, c.text-in-BadRow-2.ensures.spare, c.number-in-BadRow.ensures.spare, c.text-in-BadRow-3.ensures.spare);
  items =
      rw (c.in-BadRow.is, c.text-in-BadRow-3.ensures.items, c.number-in-BadRow.ensures.items, c.text-in-BadRow-2.ensures.items, c.number.ensures.items, c.text-in-BadRow.ensures.items, c.from-in-BadRow.ensures, c.from-in-BadRow-2.ensures)
      (simp append_assoc);
}
