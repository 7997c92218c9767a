use Rattle.std.proofs.Common.{◌≡◌, ℕ, ◌<◌, length}
use Rattle.kfs_model.specs.Table.{option_or}
use Rattle.kfs_shape.specs.Climbs.{ancestor_at}
use Rattle.kfs_image.specs.Codec.RawImages.{raw_of}
use Rattle.kfs_shape.proofs.Parents.{left_to, wanted}
use Rattle.kfs_shape.proofs.climbs.parents.Given as goal

abbrev pub invariant-loop-link : goal.invariant-loop-link
invariant-loop-link g l = record {
  many : length l.ancestors.items ≡ l.many;
  leads : (n : ℕ) → n < l.many → option_or (ancestor_at l.ancestors.items n) (left_to (raw_of l.raw) l.links l.link-index n) ≡ wanted (raw_of l.raw) n;
}
