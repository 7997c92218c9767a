use Rattle.std.proofs.Common.{◌+◌, ◌-◌, ◌≤◌, length}
use Rattle.kfs_program_text.proofs.Hexadecimals.{ArePairsRead}
use Rattle.kfs_program_text.proofs.digits.decode_into.Given as goal

abbrev pub invariant-turns : goal.invariant-turns
invariant-turns l = record {
  within : l.done ≤ length l.out;
  read : ArePairsRead l.digits l.out l.done l.all;
}

abbrev pub decreases-turns : goal.decreases-turns
decreases-turns l = length l.out - l.done

abbrev pub invariant-turn : goal.invariant-turn
invariant-turn l = record {
  room : l.done + 8 ≤ length l.out;
  read : ArePairsRead l.digits l.out (l.done + l.place) l.all;
}

abbrev pub invariant-rest : goal.invariant-rest
invariant-rest l = ArePairsRead l.digits l.out l.index l.all
