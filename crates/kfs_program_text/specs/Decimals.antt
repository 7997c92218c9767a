-- Words as numbers and as bytes.
use Rattle.std.specs.Prelude.{ℕ, ◌-◌, ◌^◌, ◌&&◌, nat_le, nat_lt, Bool, List, [], ◌∷◌, length, codes, bytes_eq, Option, Some, None, option_map, Ok, Err, if◌then◌else◌}
use Rattle.std.specs.List.{list_all}
use Rattle.std.specs.Str.Parse.{digits_value}
use Rattle.hex.specs.Hex.{decode_of}
use Rattle.kfs_model.specs.Steps.{◌>>=◌}

abbrev pub is_digit : ℕ → Bool
is_digit byte = nat_le 48 byte && nat_le byte 57

-- the decimal number that the word encodes, if it is at most `most`; the word is digits alone, at least
-- one, and may begin with zeros
abbrev pub decimal_within : (most : ℕ) → List ℕ → Option ℕ
decimal_within most word =
    if nat_lt 0 (length word) && (list_all is_digit word && nat_le (digits_value 10 word) most) then Some (digits_value 10 word)
    else None

abbrev pub decimal32 : List ℕ → Option ℕ
decimal32 = decimal_within (2 ^ 32 - 1)

abbrev pub decimal64 : List ℕ → Option ℕ
decimal64 = decimal_within (2 ^ 64 - 1)

-- the numbers that the words stand for, none where one of them is no number
unfoldable pub decimals32 : List (List ℕ) → Option (List ℕ)
decimals32 [] = Some []
decimals32 (word ∷ words) = elim (decimal32 word) [
  | None ↦ None
  | Some n ↦ option_map (λ ns. n ∷ ns) (decimals32 words)
]

-- the bytes that the word encodes, two hexadecimal digits for each; a minus alone encodes no bytes
abbrev pub hexadecimal : List ℕ → Option (List ℕ)
hexadecimal word = if bytes_eq word (codes "-") then Some [] else elim (decode_of word) [ Ok bytes ↦ Some bytes | Err fault ↦ None ]

-- the bytes that two words encode
abbrev pub both_of : (front back : List ℕ) → Option (List ℕ × List ℕ)
both_of front back = hexadecimal front >>= λ first. hexadecimal back >>= λ second. Some (first, second)
