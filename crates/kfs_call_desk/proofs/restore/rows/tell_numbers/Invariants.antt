use Rattle.std.proofs.Common.{◌<◌, ◌^◌, All, take}
use Rattle.kfs_call_desk.proofs.restore.rows.tell_numbers.Given as goal

abbrev pub invariant-loop-number : goal.invariant-loop-number
invariant-loop-number l = All (λ number. number < 2 ^ 32) (take l.number-index l.numbers)
