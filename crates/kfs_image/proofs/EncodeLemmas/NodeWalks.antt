-- A walk over the nodes of an image, by their numbers.
use Rattle.std.proofs.Common.{◌≡◌, ℕ, ◌<◌, true, false, [], ◌∷◌, Some, None, refl, sym, ap, ◌∙◌, arith}
use Rattle.std.specs.Prelude.{IsSome, is_some}
use Rattle.std.specs.declared.cmp.Ordering.{Ordering}
use Rattle.std.specs.declared.cmp.Ordering.TheVariants.{Less, Equal, Greater}
use Rattle.std.specs.declared.ops.Bound.TheVariants.{Excluded}
use Rattle.std.specs.Ordering.{is_lt, is_gt, nat_cmp}
use Rattle.std.specs.Cmp.{nat_cmp_is}
use Rattle.std.proofs.lemmas.Cmp.{ranked}
use Rattle.kfs_model.specs.Header.{Header}
use Rattle.kfs_model.specs.Table.{Table, numbers, get}
use Rattle.kfs_image_nodes.specs.Look.{IsNextNode}
use Rattle.kfs_maps.specs.Chunks.Starts.{IsNextEntry}
use Rattle.kfs_model.specs.Device.ShownTree.{DeviceImage, IsLawful}
use Rattle.kfs_image.specs.Encode.Rows.{entries_from}
use Rattle.kfs_image.proofs.EncodeLemmas.Walks.{nothing_from, next_from, each_from}

-- a number behind another is above it
above : (after number : ℕ) → is_gt (nat_cmp number after) ≡ true → after < number
above after number from = at (nat_cmp number after) refl from
  where
    at : (o : Ordering) → o ≡ nat_cmp number after → is_gt o ≡ true → after < number
    at Less is e = cc
    at Equal is e = cc
    at Greater is e = ranked number after Greater is

behind : (after number : ℕ) → after < number → is_gt (nat_cmp number after) ≡ true
behind after number less = sym (ap is_gt (nat_cmp_is number after Greater less))

module _ (heads : Table numbers Header) (after : ℕ) where
  -- no node is left
  pub no_node : ((m : ℕ) → after < m → get heads m ≡ None) → entries_from (Excluded after) heads ≡ []
  no_node none = nothing_from numbers (Excluded after) heads (λ m from. none m (above after m from))

  module _ (number : ℕ) (next : IsNextNode heads after number) where
    -- a node that comes next has a header
    pub never_none : get heads number ≡ None → ⊥
    never_none none = let never : false ≡ true = sym (ap is_some none) ∙ next.node in cc

    -- the node that comes next, and those behind it
    pub node_next : (header : Header) → get heads number ≡ Some header → entries_from (Excluded after) heads ≡ (number, header) ∷ entries_from (Excluded number) heads
    unfolding get
    node_next header is = next_from numbers (Excluded after) heads number header (entry is)
      where
        least : (m : ℕ) → after < m → IsSome (get heads m) → (o : Ordering) → o ≡ nat_cmp m number → is_lt o ≡ false
        least m later some Less below = let never : false ≡ true = sym (ap is_some (next.least m later (ranked m number Less below))) ∙ some in cc
        least m later some Equal below = refl
        least m later some Greater below = refl

        entry : get heads number ≡ Some header → IsNextEntry nat_cmp (Excluded after) heads.entries number header
        entry is = record {
          found = is;
          within = behind after number next.later;
          least = λ m from some. least m (above after m from) some (nat_cmp m number) refl;
        }

-- the nodes of a lawful image are all above 0
pub all_nodes : (image : DeviceImage) → IsLawful image → entries_from (Excluded 0) image.heads ≡ image.heads.entries
all_nodes image lawful = each_from numbers (Excluded 0) image.heads (λ number header is.
    let range = lawful.tree.sound.ranges number header (ap (λ (t : Table numbers Header). get t number) lawful.tree.counted ∙ is) in
    behind 0 number (omega (arith, range.least)))
