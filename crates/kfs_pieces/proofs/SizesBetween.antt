-- Sizes that the headers before and after a log show are those of its run over marks.
use Rattle.std.proofs.Common.{◌≡◌, ℕ, ◌≤◌, min, List, [], ◌∷◌, Option, Some, None, refl, ap, ◌∙◌, arith}
use Rattle.std.specs.List.{AllByRecursion}
use Rattle.kfs_model.specs.Entry.{Entry}
use Rattle.kfs_model.specs.Header.{Header}
use Rattle.kfs_model.specs.LastCover.{file_size}
use Rattle.kfs_model.specs.Limits.{size_limit}
use Rattle.kfs_model.specs.Run.{Mark}
use Rattle.kfs_model.specs.Sight.{sight}
use Rattle.kfs_model.specs.Soundness.{IsSound}
use Rattle.kfs_model.specs.Table.{get}
use Rattle.kfs_model.specs.Tree.{Tree, headers}
use Rattle.kfs_model.proofs.Heads.{size_said, size_is_extent}
use Rattle.kfs_pieces.specs.declared.log.FileSize.{FileSize}
use Rattle.kfs_pieces.specs.Sizes.{AreSizes, AreSizesBetween, size_in}
use Rattle.kfs_pieces.proofs.Listed.{own_size}

module _ {B : Type 0} where
  sound_size : (t : Tree B) (n : ℕ) → IsSound t → size_in (sight t) n ≤ size_limit
  sound_size t n sound = by (get (headers t) n) refl
    where
      by : (found : Option Header) → get (headers t) n ≡ found → size_said found ≤ size_limit
      by None is = let none : 0 ≤ size_limit = omega arith in none
      by (Some header) is = (sound.ranges n header is).size

module _ (tree after : Tree ℕ) (marked_after : Tree Mark) (sound : IsSound after) (heads : headers after ≡ headers marked_after) where
  size_marked : (n : ℕ) → size_in (sight after) n ≡ file_size marked_after n
  size_marked n = ap (λ table. size_said (get table n)) heads ∙ size_is_extent marked_after n

  size_after : (n : ℕ) → min (size_in (sight after) n) size_limit ≡ file_size marked_after n
  size_after n =
      let short = sound_size after n sound in
      let same : min (size_in (sight after) n) size_limit ≡ size_in (sight after) n = omega (arith, short) in
      same ∙ size_marked n

  own_sizes : (sizes : List FileSize) → AllByRecursion (λ (s : FileSize). (s.before ≡ size_in (sight tree) s.number) × (s.after ≡ min (size_in (sight after) s.number) size_limit)) sizes
      → AllByRecursion (λ (s : FileSize). (s.before ≡ file_size tree s.number) × (s.after ≡ file_size marked_after s.number)) sizes
  own_sizes [] own = tt
  own_sizes (s ∷ ss) own = ((own.0.0 ∙ size_is_extent tree s.number, own.0.1 ∙ size_after s.number), own_sizes ss own.1)

  -- what the headers show of the tree before and of the sound tree after is so of the marked tree after
  pub sizes_between : (entries : List Entry) (sizes : List FileSize) → AreSizesBetween (sight tree) (sight after) entries sizes → AreSizes tree entries marked_after sizes
  sizes_between entries sizes all =
      let own = own_sizes sizes all.own in
      record {
        own = own;
        grew = λ n grows. all.grew n (let before = size_is_extent tree n in let end = size_marked n in omega arith);
        reached = λ n is. own_size (file_size tree) (file_size marked_after) n sizes own (all.reached n is);
      }
