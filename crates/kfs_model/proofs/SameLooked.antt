-- Two states that answer alike at the cells that a log looks at have the same first fault of the log.
use Rattle.std.proofs.Common.{◌≡◌, ℕ, ◌+◌, Bool, List, [], ◌∷◌, ◌++◌, Option, Some, None, Result, Err, refl, ap, ap₂}
use Rattle.kfs_model.specs.Access.{Client}
use Rattle.kfs_model.specs.Entry.{Entry}
use Rattle.kfs_model.specs.Sight.{Sight, Cell, ClientSight, answer}
use Rattle.kfs_model.specs.Check.{EntryContext, Reason, checks_of, first_fault, looked}
use Rattle.kfs_model.specs.Run.{EntryFault, entry_context, created_by}
use Rattle.kfs_model.specs.SeenAfter.{seen_after, seen_run_from}
use Rattle.kfs_model.specs.Looked.{looked_from, looked_cells, seen_run, AgreeAt, EndInAgreement}
use Rattle.kfs_model.proofs.SameChecks.{SameAtAll, same_end, reads_alike}
use Rattle.kfs_model.proofs.SameSteps.{follows_cells, entry_follows}

module _ (client : Client) (s u : ClientSight) where
  -- the sights still answer alike wherever the states did
  StillAlike : Sight → Sight → Type 0
  StillAlike now other = (cell : Cell) → answer s cell ≡ answer u cell → answer (record s { sight = now }) cell ≡ answer (record u { sight = other }) cell

  record RunAlike (index : ℕ) (created : List ℕ) (now other : Sight) (entries : List Entry) : Type 0 where
    ends : EndInAgreement s u (seen_run_from client s index created now entries) (seen_run_from client u index created other entries)
    looks : looked_from client s created now entries ≡ looked_from client u created other entries

  abbrev here : Sight → List ℕ → EntryContext
  here now created = entry_context client s now created

  abbrev there : Sight → List ℕ → EntryContext
  there other created = entry_context client u other created

  parts : (front back : List Cell) → AgreeAt s u (front ++ back) → AgreeAt s u front × AgreeAt s u back
  parts [] back same = (tt, same)
  parts (cell ∷ front) back same = let rest = parts front back same.1 in ((same.0, rest.0), rest.1)

  same_at : (created : ℕ → Bool) (now other : Sight) → StillAlike now other → (cells : List Cell) → AgreeAt s u cells → SameAtAll client created s now u other cells
  unfolding StillAlike
  same_at created now other still [] alike = tt
  same_at created now other still (cell ∷ cells) alike = (record { at_now = still cell alike.0; at_first = alike.0 }, same_at created now other still cells alike.1)

  run_alike : (index : ℕ) (created : List ℕ) (now other : Sight) (entries : List Entry) → StillAlike now other → AgreeAt s u (looked_from client s created now entries) → RunAlike index created now other entries
  unfolding looked_from seen_run_from StillAlike
  run_alike index created now other [] still alike = record { ends = still; looks = refl }
  run_alike index created now other (entry ∷ entries) still alike =
      let front = parts (looked (here now created) (checks_of (here now created) entry)) (rest_looked (first_fault (here now created) entry)) alike in
      let same = same_at (here now created).created now other still (looked (here now created) (checks_of (here now created) entry)) front.0 in
      let end = same_end client (here now created).created s now u other entry same in
      let both = at (first_fault (here now created) entry) (first_fault (there other created) entry) end.fault_same end.looked_same front.1 (λ clean.
      let reads = reads_alike client (here now created).created s now u other entry clean same in
      let next = entry_follows client now other entry reads in
      run_alike (index + 1) (created_by entry created) (seen_after client now entry) (seen_after client other entry) entries
      (λ cell first. follows_cells s.held u.held now other (seen_after client now entry) (seen_after client other entry) next cell (still cell first))) refl in
      record { ends = both.0; looks = both.1 }
    where
      rest_looked : Option Reason → List Cell
      rest_looked o = elim o [ None ↦ looked_from client s (created_by entry created) (seen_after client now entry) entries | Some reason ↦ [] ]

      other_looked : Option Reason → List Cell
      other_looked o = elim o [ None ↦ looked_from client u (created_by entry created) (seen_after client other entry) entries | Some reason ↦ [] ]

      ran : Option Reason → Result Sight EntryFault
      ran o = elim o [ None ↦ seen_run_from client s (index + 1) (created_by entry created) (seen_after client now entry) entries | Some reason ↦ Err (record { entry = index; reason = reason }) ]

      other_ran : Option Reason → Result Sight EntryFault
      other_ran o = elim o [ None ↦ seen_run_from client u (index + 1) (created_by entry created) (seen_after client other entry) entries | Some reason ↦ Err (record { entry = index; reason = reason }) ]

      front_looked : List Cell
      front_looked = looked (here now created) (checks_of (here now created) entry)

      other_front : List Cell
      other_front = looked (there other created) (checks_of (there other created) entry)

      at : (o o' : Option Reason) → o ≡ o' → front_looked ≡ other_front → AgreeAt s u (rest_looked o)
          → (first_fault (here now created) entry ≡ None → AgreeAt s u (rest_looked None) → RunAlike (index + 1) (created_by entry created) (seen_after client now entry) (seen_after client other entry) entries)
          → first_fault (here now created) entry ≡ o
          → EndInAgreement s u (ran o) (other_ran o') × (front_looked ++ rest_looked o ≡ other_front ++ other_looked o')
      at None None same fronts alike rest is = let run = rest is alike in (run.ends, ap₂ (λ front back. front ++ back) fronts run.looks)
      at None (Some reason) same fronts alike rest is = cc
      at (Some reason) None same fronts alike rest is = cc
      at (Some reason) (Some other) same fronts alike rest is =
          let same_reason : reason ≡ other = cc in
          (ap (λ reason. record { entry = index; reason = reason }) same_reason, ap (λ front. front ++ []) fronts)

-- the first fault, and the cells that are looked at
pub same_looked : (client : Client) (s u : ClientSight) (entries : List Entry) → AgreeAt s u (looked_cells client s entries)
    → EndInAgreement s u (seen_run client s entries) (seen_run client u entries) × (looked_cells client s entries ≡ looked_cells client u entries)
unfolding StillAlike
same_looked client s u entries alike =
    let run = run_alike client s u 0 [] s.sight u.sight entries (λ cell same. same) alike in
    (run.ends, run.looks)
