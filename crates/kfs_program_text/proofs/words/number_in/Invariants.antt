use Rattle.std.proofs.Common.{◌≡◌, true, take}
use Rattle.std.specs.List.{list_all}
use Rattle.std.specs.Str.Parse.{digits_value}
use Rattle.kfs_program_text.specs.Decimals.{is_digit}
use Rattle.kfs_program_text.proofs.words.number_in.Given as goal

abbrev pub invariant-loop-byte : goal.invariant-loop-byte
invariant-loop-byte l = (list_all is_digit (take l.byte-index l.word) ≡ true) × (l.number ≡ digits_value 10 (take l.byte-index l.word))
