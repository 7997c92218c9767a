-- The reply to `save`.
use Rattle.std.specs.Prelude.{ℕ, List, ◌++◌, codes}
use Rattle.hex.specs.Hex.{encode_lower}
use Rattle.kfs_model.specs.Tree.{Tree}
use Rattle.kfs_model.specs.Placement.{TierSizes, Placement}
use Rattle.kfs_model.specs.Device.Canonical.{canonical_bytes}

-- the encoding of a state in hexadecimal
abbrev pub save_text : TierSizes → Tree ℕ → Placement → List ℕ
save_text sizes tree placement = codes "image " ++ encode_lower (canonical_bytes sizes tree placement)
