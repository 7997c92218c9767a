-- The bytes of a name that is kept.
use Rattle.std.specs.Prelude.{ℕ, ◌≤◌, List, take}
use Rattle.kfs_types.specs.declared.kept_name.Place.{Place}
use Rattle.kfs_types.specs.declared.kept_name.Place.TheVariants as places

-- the name's bytes, wherever they lie
abbrev pub bytes_in : {A : Type 0} → Place A → List ℕ
bytes_in (places.Here len bytes) = take len bytes
bytes_in (places.There bytes) = bytes.items

-- what lies in the value itself is no longer than its room
abbrev pub IsPlaced : {A : Type 0} → Place A → Type 0
IsPlaced (places.Here len bytes) = len ≤ 30
IsPlaced (places.There bytes) = Unit {0}
