-- Two states that answer alike at the cells that a log looks at have the same names and headers changed by it.
use Rattle.std.proofs.Common.{◌≡◌, ℕ, ◌+◌, List, [], ◌∷◌, ◌++◌, Option, Some, None, Result, Ok, Err, refl, sym, subst, ◌⊎◌, inl, inr, ⊎_elim}
use Rattle.kfs_model.specs.Access.{Client}
use Rattle.kfs_model.specs.Entry.{Entry}
use Rattle.kfs_model.specs.Tree.{Tree}
use Rattle.kfs_model.specs.CleanStep.{Fits}
use Rattle.kfs_model.specs.Sight.{Sight, Cell, HeaderOf, NameIn, ClientSight, answer, client_sight}
use Rattle.kfs_model.specs.Check.{Reason, checks_of, first_fault, looked}
use Rattle.kfs_model.specs.Run.{EntryFault, entry_context, created_by}
use Rattle.kfs_model.specs.SeenAfter.{seen_after, seen_run_from}
use Rattle.kfs_model.specs.Looked.{looked_from, looked_cells, seen_run, AgreeAt, AgreeWhereLooked, EndInAgreement, IsSameChange, HaveSameNet, HaveSameRun, TreesHaveSameNet}
use Rattle.kfs_model.proofs.SameLooked.{same_looked}
use Rattle.kfs_model.proofs.SeenRun.{of_two_trees}
use Rattle.kfs_model.proofs.Unlooked.{Among, among_front, among_back, Touches, touches_nothing, touches_then, touches_wider, entry_touches}

module _ (client : Client) (before : ClientSight) where
  -- a run without a fault changes only what it looks at
  pub run_touches : (index : ℕ) (created : List ℕ) (now : Sight) (entries : List Entry) (after : Sight) → seen_run_from client before index created now entries ≡ Ok after → Touches (looked_from client before created now entries) now after
  unfolding looked_from seen_run_from
  run_touches index created now [] after is = let same : now ≡ after = cc in subst (Touches [] now) same (touches_nothing [] now)
  run_touches index created now (entry ∷ entries) after is =
      at (first_fault (entry_context client before now created) entry) refl (run_touches (index + 1) (created_by entry created) (seen_after client now entry) entries after) is
    where
      next : Sight
      next = seen_after client now entry

      front : List Cell
      front = looked (entry_context client before now created) (checks_of (entry_context client before now created) entry)

      back : List Cell
      back = looked_from client before (created_by entry created) next entries

      at : (o : Option Reason) → first_fault (entry_context client before now created) entry ≡ o → (seen_run_from client before (index + 1) (created_by entry created) next entries ≡ Ok after → Touches back next after)
          → ◌≡◌ {A = Result Sight EntryFault} (elim o [ None ↦ seen_run_from client before (index + 1) (created_by entry created) next entries | Some reason ↦ Err (record { entry = index; reason = reason }) ]) (Ok after)
          → Touches (front ++ elim o [ None ↦ back | Some reason ↦ [] ]) now after
      at None clean rest is =
          touches_then (front ++ back) now next after
          (touches_wider front (front ++ back) now next (λ cell h. among_front cell front back h) (entry_touches (entry_context client before now created) entry clean))
          (touches_wider back (front ++ back) next after (λ cell h. among_back cell front back h) (rest is))
      at (Some reason) clean rest is = cc

module _ (client : Client) (s u : ClientSight) (entries : List Entry) (alike : AgreeAt s u (looked_cells client s entries)) where
  pub alike_at : (cell : Cell) (cells : List Cell) → Among cell cells → AgreeAt s u cells → answer s cell ≡ answer u cell
  alike_at cell [] h alike = absurd h
  alike_at cell (c ∷ cells) h alike = ⊎_elim (λ same. subst (λ c. answer s c ≡ answer u c) (sym same) alike.0) (λ later. alike_at cell cells later alike.1) h

  -- changed on neither side, or looked at and so alike before and after
  change_alike : {X : Type 0} (cell : Cell) (before after other_before other_after : X) → (answer s cell ≡ answer u cell → (before ≡ other_before) × (after ≡ other_after))
      → Among cell (looked_cells client s entries) ⊎ (after ≡ before) → Among cell (looked_cells client u entries) ⊎ (other_after ≡ other_before) → IsSameChange before after other_before other_after
  change_alike cell before after other_before other_after same here there =
      ⊎_elim
      (λ looks. inl (same (alike_at cell (looked_cells client s entries) looks alike)))
      (λ stays. ⊎_elim
      (λ looks. inl (same (alike_at cell (looked_cells client s entries) (subst (Among cell) (sym (same_looked client s u entries alike).1) looks) alike)))
      (λ stays_there. inr (stays, stays_there))
      there)
      here

  pub same_net : HaveSameNet s u (seen_run client s entries) (seen_run client u entries)
  same_net = at (seen_run client s entries) (seen_run client u entries) refl refl (same_looked client s u entries alike).0
    where
      at : (end other : Result Sight EntryFault) → seen_run client s entries ≡ end → seen_run client u entries ≡ other → EndInAgreement s u end other → HaveSameNet s u end other
      at (Ok now) (Ok other) is also ends =
          let here = run_touches client s 0 [] s.sight entries now is in
          let there = run_touches client u 0 [] u.sight entries other also in
          record {
            heads = λ n. change_alike (HeaderOf n) (s.sight.head n) (now.head n) (u.sight.head n) (other.head n) (λ same. let after = ends (HeaderOf n) same in (cc, cc)) (here.heads n) (there.heads n);
            names = λ d m. change_alike (NameIn d m) (s.sight.name d m) (now.name d m) (u.sight.name d m) (other.name d m) (λ same. let after = ends (NameIn d m) same in (cc, cc)) (here.names d m) (there.names d m);
          }
      at (Ok now) (Err fault) is also ends = ends
      at (Err fault) end is also ends = tt

pub same_net_of_trees : (client : Client) (one other : Tree ℕ) (entries : List Entry) → Fits client one entries → Fits client other entries → TreesHaveSameNet client one other entries
same_net_of_trees client one other entries fits also held other_held alike =
    let s = client_sight one held in
    let u = client_sight other other_held in
    of_two_trees client one other entries fits also held other_held (HaveSameNet s u) (same_net client s u entries alike)

pub goes_alike : (client : Client) (s u : ClientSight) (entries : List Entry) → AgreeWhereLooked client s u entries → HaveSameRun client s u entries
goes_alike client s u entries alike =
    let run = same_looked client s u entries alike in
    record { ends = run.0; changes = same_net client s u entries alike; looks = run.1 }
