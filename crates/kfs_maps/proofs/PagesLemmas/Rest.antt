-- A change of some pages, or of the groups behind some, as one of all.
use Rattle.std.proofs.Common.{◌≡◌, ◌≤◌, ℕ, ◌+◌, ◌*◌, All, List, ◌++◌, length, Option, sym, ap, subst, ◌∙◌, arith}
use Rattle.std.proofs.lemmas.List.{append_assoc}
use Rattle.std.specs.declared.sync.Arc.{Arc}
use Rattle.kfs_maps.specs.declared.pages.change.NumberEdit.{NumberEdit}
use Rattle.kfs_maps.specs.declared.pages.page.Group.{Group}
use Rattle.kfs_maps.specs.Pages.Values.{Sheet}
use Rattle.kfs_maps.specs.Pages.Edits.{page_of}
use Rattle.kfs_maps.specs.Pages.Groups.{all_held, flat, GroupsAreWhole}
use Rattle.kfs_maps.specs.Pages.Shown.{Edited, AreIndexedFrom}
use Rattle.kfs_maps.proofs.PagesLemmas.Tables.{edited_behind, placed_front, placed_again}
use Rattle.kfs_maps.proofs.PagesLemmas.Groups.{held_append, length-held, flat_both, length-flat}

module _ {V A : Type 0} where
  past : (front : List (Option (Arc (Group V A) A))) (first index : ℕ) → GroupsAreWhole (all_held front) → first + length front ≡ index → 32 * first + length (flat (all_held front)) ≡ 32 * index
  past front first index whole here = omega (arith, length-flat (all_held front) whole, length-held front, here)

  pub placed_groups : (front back : List (Option (Arc (Group V A) A))) (first index : ℕ) → GroupsAreWhole (all_held front) → first + length front ≡ index → AreIndexedFrom (32 * first) (flat (all_held (front ++ back))) → AreIndexedFrom (32 * index) (flat (all_held back))
  placed_groups front back first index whole here placed =
      subst (λ k. AreIndexedFrom k (flat (all_held back))) (past front first index whole here) (placed_front (flat (all_held front)) (flat (all_held back)) (32 * first) (subst (AreIndexedFrom (32 * first)) (flat_both front back) placed))

  pub groups_again : (front olds news : List (Option (Arc (Group V A) A))) (first index : ℕ) → GroupsAreWhole (all_held front) → first + length front ≡ index → AreIndexedFrom (32 * first) (flat (all_held (front ++ olds))) → AreIndexedFrom (32 * index) (flat (all_held news))
      → AreIndexedFrom (32 * first) (flat (all_held (front ++ news)))
  groups_again front olds news first index whole here placed again =
      subst (AreIndexedFrom (32 * first)) (sym (flat_both front news))
      (placed_again (flat (all_held front)) (flat (all_held olds)) (flat (all_held news)) (32 * first) (subst (AreIndexedFrom (32 * first)) (flat_both front olds) placed) (subst (λ k. AreIndexedFrom k (flat (all_held news))) (sym (past front first index whole here)) again))

  -- edits of the groups behind some are edits of all
  pub edited_groups : (front olds news : List (Option (Arc (Group V A) A))) (first index : ℕ) (es : List (NumberEdit V)) → GroupsAreWhole (all_held front) → first + length front ≡ index → All (λ e. 32 * index ≤ page_of e.number) es → Edited (32 * index) es (flat (all_held olds)) (flat (all_held news))
      → Edited (32 * first) es (flat (all_held (front ++ olds))) (flat (all_held (front ++ news)))
  edited_groups front olds news first index es whole here away made =
      let at = past front first index whole here in
      subst (λ pages. Edited (32 * first) es pages (flat (all_held (front ++ news)))) (sym (flat_both front olds))
      (subst (λ pages. Edited (32 * first) es (flat (all_held front) ++ flat (all_held olds)) pages) (sym (flat_both front news))
      (edited_behind (flat (all_held front)) (flat (all_held olds)) (flat (all_held news)) (32 * first) es (λ k d below. omega (arith, at, away k d below))
      (subst (λ k. Edited k es (flat (all_held olds)) (flat (all_held news))) (sym at) made)))

module _ {V A : Type 0} where
  pub held_both : (front back : List (Option (Arc (Sheet V) A))) (behind : List (Option (Sheet V))) → all_held (front ++ back) ++ behind ≡ all_held front ++ (all_held back ++ behind)
  held_both front back behind = ap (λ pages. pages ++ behind) (held_append front back) ∙ append_assoc (all_held front) (all_held back) behind

  pub placed_pages : (front back : List (Option (Arc (Sheet V) A))) (behind : List (Option (Sheet V))) (first index : ℕ) → first + length front ≡ index → AreIndexedFrom first (all_held (front ++ back) ++ behind) → AreIndexedFrom index (all_held back ++ behind)
  placed_pages front back behind first index here placed =
      subst (λ k. AreIndexedFrom k (all_held back ++ behind)) (omega (arith, here, length-held front)) (placed_front (all_held front) (all_held back ++ behind) first (subst (AreIndexedFrom first) (held_both front back behind) placed))

  pub pages_again : (front olds news : List (Option (Arc (Sheet V) A))) (behind after : List (Option (Sheet V))) (first index : ℕ) → first + length front ≡ index → AreIndexedFrom first (all_held (front ++ olds) ++ behind) → AreIndexedFrom index (all_held news ++ after)
      → AreIndexedFrom first (all_held (front ++ news) ++ after)
  pages_again front olds news behind after first index here placed again =
      subst (AreIndexedFrom first) (sym (held_both front news after))
      (placed_again (all_held front) (all_held olds ++ behind) (all_held news ++ after) first (subst (AreIndexedFrom first) (held_both front olds behind) placed) (subst (λ k. AreIndexedFrom k (all_held news ++ after)) (omega (arith, here, length-held front)) again))

  -- edits of the pages behind some are edits of all
  pub edited_pages : (front olds news : List (Option (Arc (Sheet V) A))) (behind after : List (Option (Sheet V))) (first index : ℕ) (es : List (NumberEdit V)) → first + length front ≡ index → All (λ e. index ≤ page_of e.number) es → Edited index es (all_held olds ++ behind) (all_held news ++ after)
      → Edited first es (all_held (front ++ olds) ++ behind) (all_held (front ++ news) ++ after)
  edited_pages front olds news behind after first index es here away made =
      let at : first + length (all_held front) ≡ index = omega (arith, here, length-held front) in
      subst (λ pages. Edited first es pages (all_held (front ++ news) ++ after)) (sym (held_both front olds behind))
      (subst (λ pages. Edited first es (all_held front ++ (all_held olds ++ behind)) pages) (sym (held_both front news after))
      (edited_behind (all_held front) (all_held olds ++ behind) (all_held news ++ after) first es (λ k d below. omega (arith, at, away k d below)) (subst (λ k. Edited k es (all_held olds ++ behind) (all_held news ++ after)) (sym at) made)))
