-- The run over trees is the run over what their cells show, and it keeps a sound tree sound.
use Rattle.std.proofs.Common.{◌≡◌, ℕ, suc, ◌+◌, Bool, List, [], ◌∷◌, length, Option, Some, None, Result, Ok, Err, refl, sym, ap, subst, ◌∙◌}
use Rattle.std.specs.List.{AllByRecursion}
use Rattle.kfs_model.specs.Tree.{Tree}
use Rattle.kfs_model.specs.Entry.{Entry, Create, Write, Truncate, Link, Unlink, Rename, Chmod, Regroup}
use Rattle.kfs_model.specs.Sight.{Sight, ClientSight, client_sight, sight}
use Rattle.kfs_model.specs.Check.{EntryContext, Reason, first_fault}
use Rattle.kfs_model.specs.Effect.{Filling, effect}
use Rattle.kfs_model.specs.Run.{EntryFault, Mark, entry_context, created_by, run_from, run, over_bytes, over_marks, places_from}
use Rattle.kfs_model.specs.Soundness.{IsSound}
use Rattle.kfs_model.specs.Spelling.{IsEntry}
use Rattle.kfs_model.specs.SeenAfter.{seen_after, seen_run_from, shown_run}
use Rattle.kfs_model.specs.CleanStep.{IsClient, IsClean, StaysSound, Fits}
use Rattle.kfs_model.specs.Access.{Client}
use Rattle.kfs_model.specs.Looked.{seen_run, EndInAgreement, TreesEndInAgreement}
use Rattle.kfs_model.proofs.SameLooked.{same_looked}
use Rattle.kfs_model.proofs.CreateStep.{create_kept}
use Rattle.kfs_model.proofs.CellSteps.{IsFaithful, chmod_kept, regroup_kept, truncate_kept, write_kept}
use Rattle.kfs_model.proofs.LinkStep.{link_kept}
use Rattle.kfs_model.proofs.RenameStep.{unlink_kept, rename_kept}

pub bytes_faithful : IsFaithful over_bytes
bytes_faithful = record { long = λ index payload. refl }

places_long : {X : Type 0} (at : ℕ → X) (place : ℕ) (payload : List ℕ) → length (places_from at place payload) ≡ length payload
places_long at place [] = refl
places_long at place (b ∷ bs) = ap suc (places_long at (place + 1) bs)

pub marks_faithful : IsFaithful over_marks
marks_faithful = record { long = λ index payload. places_long (Mark.Payload index) 0 payload }

module _ {B : Type 0} (filling : Filling B) (faithful : IsFaithful filling) where
  -- a clean entry keeps a sound tree sound, and moves what its cells show
  pub clean_step : (context : EntryContext) (index : ℕ) (t : Tree B) (entry : Entry) → IsClean context t entry → StaysSound filling context.client index t entry
  clean_step context index t (Create d m n kind mode) h = create_kept filling context index t d m n kind mode h
  clean_step context index t (Write n offset payload) h = write_kept filling context index t faithful n offset payload h
  clean_step context index t (Truncate n size) h = truncate_kept filling context index t n size h
  clean_step context index t (Link n d m) h = link_kept filling context index t n d m h
  clean_step context index t (Unlink d m kind) h = unlink_kept filling context index t d m kind h
  clean_step context index t (Rename d m e k) h = rename_kept filling context index t d m e k h
  clean_step context index t (Chmod n mode) h = chmod_kept filling context index t n mode h
  clean_step context index t (Regroup n group) h = regroup_kept filling context index t n group h

module _ {B : Type 0} (filling : Filling B) (faithful : IsFaithful filling) (client : Client) (before : ClientSight) where
  pub run_is_seen : IsClient client → (index : ℕ) (created : List ℕ) (t : Tree B) (version : ℕ) (entries : List Entry) → IsSound t → AllByRecursion (IsEntry version) entries
      → shown_run (run_from filling client before index created t entries) ≡ seen_run_from client before index created (sight t) entries
  unfolding run_from seen_run_from
  run_is_seen in_range index created t version [] sound fit = refl
  run_is_seen in_range index created t version (entry ∷ entries) sound fit =
      at (first_fault (entry_context client before (sight t) created) entry) (λ clean.
      let kept = clean_step filling faithful (entry_context client before (sight t) created) index t entry (record { sound = sound; client = in_range; version = version; entry_fits = fit.0; shown = refl; clean = clean }) in
      run_is_seen in_range (index + 1) (created_by entry created) (effect filling client index entry t) version entries kept.sound fit.1
      ∙ ap (λ now. seen_run_from client before (index + 1) (created_by entry created) now entries) kept.seen) refl
    where
      at : (o : Option Reason)
          → (first_fault (entry_context client before (sight t) created) entry ≡ None → shown_run (run_from filling client before (index + 1) (created_by entry created) (effect filling client index entry t) entries) ≡ seen_run_from client before (index + 1) (created_by entry created) (seen_after client (sight t) entry) entries)
          → first_fault (entry_context client before (sight t) created) entry ≡ o
          → shown_run (elim o [ None ↦ run_from filling client before (index + 1) (created_by entry created) (effect filling client index entry t) entries | Some reason ↦ Err (record { entry = index; reason = reason }) ])
          ≡ elim o [ None ↦ seen_run_from client before (index + 1) (created_by entry created) (seen_after client (sight t) entry) entries | Some reason ↦ Err (record { entry = index; reason = reason }) ]
      at None rest is = rest is
      at (Some reason) rest is = refl

  pub run_keeps_sound : IsClient client → (index : ℕ) (created : List ℕ) (t : Tree B) (version : ℕ) (entries : List Entry) → IsSound t → AllByRecursion (IsEntry version) entries → (after : Tree B) → run_from filling client before index created t entries ≡ Ok after → IsSound after
  unfolding run_from
  run_keeps_sound in_range index created t version [] sound fit after is = let same : t ≡ after = cc in subst IsSound same sound
  run_keeps_sound in_range index created t version (entry ∷ entries) sound fit after is =
      at (first_fault (entry_context client before (sight t) created) entry) (λ clean.
      let kept = clean_step filling faithful (entry_context client before (sight t) created) index t entry (record { sound = sound; client = in_range; version = version; entry_fits = fit.0; shown = refl; clean = clean }) in
      run_keeps_sound in_range (index + 1) (created_by entry created) (effect filling client index entry t) version entries kept.sound fit.1 after) refl is
    where
      at : (o : Option Reason)
          → (first_fault (entry_context client before (sight t) created) entry ≡ None → run_from filling client before (index + 1) (created_by entry created) (effect filling client index entry t) entries ≡ Ok after → IsSound after)
          → first_fault (entry_context client before (sight t) created) entry ≡ o
          → ◌≡◌ {A = Result (Tree B) EntryFault} (elim o [ None ↦ run_from filling client before (index + 1) (created_by entry created) (effect filling client index entry t) entries | Some reason ↦ Err (record { entry = index; reason = reason }) ]) (Ok after)
          → IsSound after
      at None rest clean is = rest clean is
      at (Some reason) rest clean is = cc

-- ---- two sound trees that answer alike at the looked cells

module _ (client : Client) (one other : Tree ℕ) (entries : List Entry) (fits : Fits client one entries) (also : Fits client other entries) (held other_held : ℕ → Bool) where
  abbrev s : ClientSight
  s = client_sight one held

  abbrev u : ClientSight
  u = client_sight other other_held

  -- what the runs over the cells have in common, the runs over the trees have
  pub of_two_trees : (P : Result Sight EntryFault → Result Sight EntryFault → Type 0) → P (seen_run client s entries) (seen_run client u entries)
      → P (shown_run (run over_bytes client s one entries)) (shown_run (run over_bytes client u other entries))
  of_two_trees P seen =
      let here = run_is_seen over_bytes bytes_faithful client s fits.in_range 0 [] one fits.version entries fits.sound fits.fitting in
      let there = run_is_seen over_bytes bytes_faithful client u also.in_range 0 [] other also.version entries also.sound also.fitting in
      subst (λ end. P end (shown_run (run over_bytes client u other entries))) (sym here) (subst (P (seen_run client s entries)) (sym there) seen)

pub same_looked_trees : (client : Client) (one other : Tree ℕ) (entries : List Entry) → Fits client one entries → Fits client other entries → TreesEndInAgreement client one other entries
same_looked_trees client one other entries fits also held other_held alike =
    let s = client_sight one held in
    let u = client_sight other other_held in
    of_two_trees client one other entries fits also held other_held (EndInAgreement s u) (same_looked client s u entries alike).0
