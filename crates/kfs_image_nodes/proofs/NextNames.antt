-- Which name of a directory comes next: the first from where its later names begin, if it stands there.
use Rattle.std.proofs.Common.{◌≡◌, ℕ, ◌≤◌, true, false, List, Option, Some, None, sym, ap, subst, ◌∙◌, arith}
use Rattle.std.specs.Prelude.{is_some}
use Rattle.std.specs.Borrow.{Bor}
use Rattle.std.specs.Ordering.{is_lt}
use Rattle.std.specs.FinMap.Entries.{find}
use Rattle.std.specs.declared.ops.Bound.{Bound}
use Rattle.kfs_model.specs.Spelling.{IsName}
use Rattle.kfs_model.specs.Tree.{name_order, target}
use Rattle.kfs_maps.specs.Chunks.Starts.{is_from, IsNextEntry}
use Rattle.kfs_maps.specs.Chunks.Tables.{table}
use Rattle.kfs_maps.proofs.ChunksLemmas.Tables.{get-table}
use Rattle.kfs_image_nodes.specs.Indexes.{AreNames}
use Rattle.kfs_image_nodes.specs.Look.{IsAfter, IsNext}
use Rattle.kfs_image_nodes.proofs.NameOrder.{in_directory, earlier_directory}

module _ (names : List ((ℕ × List ℕ) × ℕ)) (named : AreNames (table name_order names)) (start : Bound (ℕ × List ℕ)) (dir : ℕ) (after : Option (Bor (List ℕ)))
    (within : (m : List ℕ) → IsName m → IsAfter after m → is_from name_order.compare start (dir, m) ≡ true) where
  -- the directory has no later name where no entry stands from the start on
  pub no_later : ((q : ℕ × List ℕ) → is_from name_order.compare start q ≡ true → find name_order.compare q names ≡ None)
      → (m : List ℕ) (n : ℕ) → target (table name_order names) dir m ≡ Some n → IsAfter after m → ⊥
  no_later none m n leads later = let found : None ≡ Some n = sym (get-table name_order names (dir, m) ∙ none (dir, m) (within m (named (dir, m) n leads) later)) ∙ leads in cc

  module _ (key : ℕ × List ℕ) (number : ℕ) (next : IsNextEntry name_order.compare start names key number) where
    not_before : (m : List ℕ) (n : ℕ) → target (table name_order names) dir m ≡ Some n → IsAfter after m → is_lt (name_order.compare (dir, m) key) ≡ false
    not_before m n leads later =
        next.least (dir, m) (within m (named (dir, m) n leads) later) (ap is_some (sym (get-table name_order names (dir, m)) ∙ leads))

    -- an entry of the directory is its next name
    pub next_here : key.0 ≡ dir → ((m : List ℕ) → is_from name_order.compare start (dir, m) ≡ true → IsAfter after m) → IsNext (table name_order names) dir after key.1 number
    next_here is later =
        let here : key ≡ (dir, key.1) = λ i. (is i, key.1) in
        record {
          leads = get-table name_order names (dir, key.1) ∙ subst (λ k. find name_order.compare k names ≡ Some number) here next.found;
          later = later key.1 (subst (λ k. is_from name_order.compare start k ≡ true) here next.within);
          least = λ m n leads after. sym (ap is_lt (in_directory dir m key.1)) ∙ subst (λ k. is_lt (name_order.compare (dir, m) k) ≡ false) here (not_before m n leads after);
        }

    -- where it is of a later directory, this one has no later name
    pub next_beyond : dir ≤ key.0 → (key.0 ≡ dir → ⊥) → (m : List ℕ) (n : ℕ) → target (table name_order names) dir m ≡ Some n → IsAfter after m → ⊥
    next_beyond least other m n leads after =
        let differ : true ≡ false = ap is_lt (sym (earlier_directory dir key.0 m key.1 (omega (arith, least, other)))) ∙ not_before m n leads after in
        cc
