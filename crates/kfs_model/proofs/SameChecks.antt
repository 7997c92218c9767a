-- Spots whose looked cells answer alike have the same first fault.
use Rattle.std.proofs.Common.{◌≡◌, ℕ, zero, suc, Bool, true, false, not, ◌==◌, if◌then◌else◌, List, [], ◌∷◌, ◌++◌, map, Option, Some, None, refl, ap, ap₂, subst, ◌∙◌}
use Rattle.std.specs.List.{AllByRecursion}
use Rattle.kfs_model.specs.Header.{Kind, Header}
use Rattle.kfs_model.specs.Access.{Client}
use Rattle.kfs_model.specs.Entry.{Entry, Create, Write, Truncate, Link, Unlink, Rename, Chmod, Regroup}
use Rattle.kfs_model.specs.Sight.{Sight, ClientSight, Cell, HeaderOf, NameIn, ParentOf, answer, kind_shown, climb_limit, climb_meets, climbed}
use Rattle.kfs_model.specs.Check
use Rattle.kfs_model.proofs.CleanIsAllowed.{AllPass, all_pass}
use Rattle.kfs_model.proofs.SameSteps.{MovedAlike, ReadsAlike}
use Rattle.kfs_model.specs.Check.{EntryContext, Reason, Check, fault, cells, unless, may_remove, first_failing, first_fault, looked, checks_of, may_go, on_number, arrival_checks, move_checks, rename_checks}

-- one client at two spots, with the same numbers created
module _ (client : Client) (created : ℕ → Bool) (before : ClientSight) (now : Sight) (other_before : ClientSight) (other_now : Sight) where
  abbrev p : EntryContext
  p = record { client = client; before = before; now = now; created = created }

  abbrev q : EntryContext
  q = record { client = client; before = other_before; now = other_now; created = created }

  -- the cell answers alike at both, before the log and now
  pub record SameAt (cell : Cell) : Type 0 where
    pub at_now : answer (record before { sight = now }) cell ≡ answer (record other_before { sight = other_now }) cell
    pub at_first : answer before cell ≡ answer other_before cell

  abbrev pub SameAtAll : List Cell → Type 0
  SameAtAll cells = AllByRecursion SameAt cells

  same_head : (n : ℕ) → SameAt (HeaderOf n) → now.head n ≡ other_now.head n
  same_head n same = let e = same.at_now in cc

  same_head_before : (n : ℕ) → SameAt (HeaderOf n) → before.sight.head n ≡ other_before.sight.head n
  same_head_before n same = let e = same.at_first in cc

  same_name : (d : ℕ) (m : List ℕ) → SameAt (NameIn d m) → now.name d m ≡ other_now.name d m
  same_name d m same = let e = same.at_now in cc

  -- ---- one check

  -- climbs pass the same nodes, and meet the same
  same_parent : (n : ℕ) → SameAt (ParentOf n) → now.parent n ≡ other_now.parent n
  same_parent n same = let e = same.at_now in cc

  same_passes : (fuel from : ℕ) → SameAtAll (map ParentOf (climbed now.parent fuel from)) → climbed now.parent fuel from ≡ climbed other_now.parent fuel from
  unfolding climbed
  same_passes zero from same = refl
  same_passes (suc fuel) from same = ap (λ above. from ∷ above) (at (now.parent from) (other_now.parent from) (same_parent from same.0) (same_passes fuel) same.1)
    where
      at : (o other : Option ℕ) → o ≡ other → ((up : ℕ) → SameAtAll (map ParentOf (climbed now.parent fuel up)) → climbed now.parent fuel up ≡ climbed other_now.parent fuel up)
          → SameAtAll (map ParentOf (elim o [ None ↦ [] | Some up ↦ climbed now.parent fuel up ]))
          → ◌≡◌ {A = List ℕ} (elim o [ None ↦ [] | Some up ↦ climbed now.parent fuel up ]) (elim other [ None ↦ [] | Some up ↦ climbed other_now.parent fuel up ])
      at None None is rest same = refl
      at None (Some other) is rest same = cc
      at (Some up) None is rest same = cc
      at (Some up) (Some other) is rest same = let same_up : up ≡ other = cc in rest up same ∙ ap (climbed other_now.parent fuel) same_up

  same_meets : (n fuel from : ℕ) → SameAtAll (map ParentOf (climbed now.parent fuel from)) → climb_meets now.parent fuel n from ≡ climb_meets other_now.parent fuel n from
  unfolding climbed climb_meets
  same_meets n zero from same = refl
  same_meets n (suc fuel) from same =
      ap (λ above. elim (from == n) as (λ b. Bool) [ true ↦ true | false ↦ above ]) (at (now.parent from) (other_now.parent from) (same_parent from same.0) (same_meets n fuel) same.1)
    where
      at : (o other : Option ℕ) → o ≡ other → ((up : ℕ) → SameAtAll (map ParentOf (climbed now.parent fuel up)) → climb_meets now.parent fuel n up ≡ climb_meets other_now.parent fuel n up)
          → SameAtAll (map ParentOf (elim o [ None ↦ [] | Some up ↦ climbed now.parent fuel up ]))
          → ◌≡◌ {A = Bool} (elim o [ None ↦ false | Some up ↦ climb_meets now.parent fuel n up ]) (elim other [ None ↦ false | Some up ↦ climb_meets other_now.parent fuel n up ])
      at None None is rest same = refl
      at None (Some other) is rest same = cc
      at (Some up) None is rest same = cc
      at (Some up) (Some other) is rest same = let same_up : up ≡ other = cc in rest up same ∙ ap (climb_meets other_now.parent fuel n) same_up

  same_fault : (check : Check) → SameAtAll (cells p check) → fault p check ≡ fault q check
  unfolding fault cells
  same_fault (Check.Exists n) same = let e = same_head n same.0 in cc
  same_fault (Check.IsADirectory n) same = let e = same_head n same.0 in cc
  same_fault (Check.IsAFile n) same = let e = same_head n same.0 in cc
  same_fault (Check.MaySearch n) same = let e = same_head n same.0 in cc
  same_fault (Check.MayWrite n) same = let e = same_head n same.0 in cc
  same_fault (Check.IsOwned n) same = let e = same_head n same.0 in cc
  same_fault (Check.IsLeased n) same = let same_held : before.held n ≡ other_before.held n = (let e = same.0.at_now in cc) in cc
  same_fault (Check.HasNoNames n) same = let same_count : now.count n ≡ other_now.count n = (let e = same.0.at_now in cc) in cc
  same_fault (Check.HasRoomForLink n) same = let e = same_head n same.0 in cc
  same_fault (Check.NumberIsGranted n) same = refl
  same_fault (Check.NumberIsFree n) same = let e = same_head n same.0 in let first = same_head_before n same.0 in cc
  same_fault (Check.NameIsThere d m) same = let e = same_name d m same.0 in cc
  same_fault (Check.NameIsFree d m) same = let e = same_name d m same.0 in cc
  same_fault (Check.MayRemove d n) same = ap₂ (λ directory node. unless (may_remove client directory node) Check.Sticky) (same_head d same.0) (same_head n same.1.0)
  same_fault (Check.MaySetGroup group) same = refl
  same_fault (Check.EndIsInRange end) same = refl
  same_fault (Check.IsNotAbove n d) same = ap (λ b. unless (not b) Check.BelowItself) (same_meets n climb_limit d same)
  same_fault (Check.Sees cell) same = refl

  same_cells : (check : Check) → SameAtAll (cells p check) → cells p check ≡ cells q check
  unfolding cells
  same_cells (Check.Exists n) same = refl
  same_cells (Check.IsADirectory n) same = refl
  same_cells (Check.IsAFile n) same = refl
  same_cells (Check.MaySearch n) same = refl
  same_cells (Check.MayWrite n) same = refl
  same_cells (Check.IsOwned n) same = refl
  same_cells (Check.IsLeased n) same = refl
  same_cells (Check.HasNoNames n) same = refl
  same_cells (Check.HasRoomForLink n) same = refl
  same_cells (Check.NumberIsGranted n) same = refl
  same_cells (Check.NumberIsFree n) same = refl
  same_cells (Check.NameIsThere d m) same = refl
  same_cells (Check.NameIsFree d m) same = refl
  same_cells (Check.MayRemove d n) same = refl
  same_cells (Check.MaySetGroup group) same = refl
  same_cells (Check.EndIsInRange end) same = refl
  same_cells (Check.IsNotAbove n d) same = ap (map ParentOf) (same_passes climb_limit d same)
  same_cells (Check.Sees cell) same = refl

  -- ---- lists of checks

  -- where the cells looked at are the same, so are the first fault and the cells
  pub record SameEnd (checks others : List Check) : Type 0 where
    pub fault_same : first_failing p checks ≡ first_failing q others
    pub looked_same : looked p checks ≡ looked q others

  Alike : List Check → List Check → Type 0
  Alike checks others = SameAtAll (looked p checks) → SameEnd checks others

  parts : (front back : List Cell) → SameAtAll (front ++ back) → SameAtAll front × SameAtAll back
  parts [] back same = (tt, same)
  parts (cell ∷ front) back same = let rest = parts front back same.1 in ((same.0, rest.0), rest.1)

  alike_none : Alike [] []
  unfolding Alike first_failing looked
  alike_none same = record { fault_same = refl; looked_same = refl }

  -- a check more, whose cells tell that the others are alike
  alike_more : (check : Check) (checks others : List Check) → (SameAtAll (cells p check) → Alike checks others) → Alike (check ∷ checks) (check ∷ others)
  unfolding Alike first_failing looked
  alike_more check checks others rest same =
      let front = parts (cells p check) (elim (fault p check) [ None ↦ looked p checks | Some reason ↦ [] ]) same in
      let both = at (fault p check) (fault q check) (same_fault check front.0) (same_cells check front.0) front.1 (rest front.0) in
      record { fault_same = both.0; looked_same = both.1 }
    where
      at : (o other : Option Reason) → o ≡ other → cells p check ≡ cells q check → SameAtAll (elim o [ None ↦ looked p checks | Some reason ↦ [] ]) → (SameAtAll (looked p checks) → SameEnd checks others)
          → ◌≡◌ {A = Option Reason} (elim o [ None ↦ first_failing p checks | Some reason ↦ Some reason ]) (elim other [ None ↦ first_failing q others | Some reason ↦ Some reason ])
          × (◌≡◌ {A = List Cell} (cells p check ++ elim o [ None ↦ looked p checks | Some reason ↦ [] ]) (cells q check ++ elim other [ None ↦ looked q others | Some reason ↦ [] ]))
      at None None is alike same rest = let end = rest same in (end.fault_same, ap₂ (λ front back. front ++ back) alike end.looked_same)
      at None (Some reason) is alike same rest = cc
      at (Some reason) None is alike same rest = cc
      at (Some reason) (Some other) is alike same rest = (is, ap (λ front. front ++ []) alike)

  alike_itself : (checks : List Check) → Alike checks checks
  alike_itself [] = alike_none
  alike_itself (check ∷ checks) = alike_more check checks checks (λ same. alike_itself checks)

  alike_behind : (front checks others : List Check) → Alike checks others → Alike (front ++ checks) (front ++ others)
  alike_behind [] checks others alike = alike
  alike_behind (check ∷ front) checks others alike = alike_more check (front ++ checks) (front ++ others) (λ same. alike_behind front checks others alike)

  -- ---- the checks of an entry

  unlink_alike : (d : ℕ) (m : List ℕ) (kind : Kind) → Alike (checks_of p (Unlink d m kind)) (checks_of q (Unlink d m kind))
  unfolding checks_of cells
  unlink_alike d m kind =
      alike_behind (Check.Exists d ∷ Check.IsADirectory d ∷ Check.MaySearch d ∷ Check.MayWrite d ∷ Check.IsLeased d ∷ []) _ _
      (alike_more (Check.NameIsThere d m) (on_number (now.name d m) (may_go kind d)) (on_number (other_now.name d m) (may_go kind d)) (λ same.
      subst (λ o. Alike (on_number (now.name d m) (may_go kind d)) (on_number o (may_go kind d))) (same_name d m same.0) (alike_itself (on_number (now.name d m) (may_go kind d)))))

  -- what is checked of the nodes that a Rename moves and replaces, by what the header of the one shows
  moved_by : (e n : ℕ) → Option ℕ → Option Header → List Check
  moved_by e n there h = arrival_checks (kind_shown h) n e there

  move_alike : (d e n : ℕ) (there : Option ℕ) → Alike (move_checks p d e n there) (move_checks q d e n there)
  unfolding cells moved_by
  move_alike d e n there =
      alike_behind (Check.MayWrite d ∷ Check.MayWrite e ∷ Check.MayRemove d n ∷ Check.IsLeased d ∷ Check.IsLeased e ∷ Check.IsLeased n ∷ []) _ _
      (alike_more (Check.Sees (HeaderOf n)) (moved_by e n there (now.head n)) (moved_by e n there (other_now.head n)) (λ same.
      subst (λ h. Alike (moved_by e n there (now.head n)) (moved_by e n there h)) (same_head n same.0) (alike_itself (moved_by e n there (now.head n)))))

  -- of the node that the old name leads to, and what the new one does
  renamed_alike : (d e : ℕ) (o there : Option ℕ) → Alike (rename_checks p d e o there) (rename_checks q d e o there)
  renamed_alike d e None there = alike_none
  renamed_alike d e (Some n) None = move_alike d e n None
  renamed_alike d e (Some n) (Some t) = at (t == n)
    where
      at : (b : Bool) → Alike (if b then [] else move_checks p d e n (Some t)) (if b then [] else move_checks q d e n (Some t))
      at true = alike_none
      at false = move_alike d e n (Some t)

  rename_alike : (d : ℕ) (m : List ℕ) (e : ℕ) (k : List ℕ) → Alike (checks_of p (Rename d m e k)) (checks_of q (Rename d m e k))
  unfolding checks_of cells
  rename_alike d m e k =
      alike_behind (Check.Exists d ∷ Check.IsADirectory d ∷ Check.Exists e ∷ Check.IsADirectory e ∷ Check.MaySearch d ∷ Check.MaySearch e ∷ []) _ _
      (alike_more (Check.NameIsThere d m) (Check.Sees (NameIn e k) ∷ rename_checks p d e (now.name d m) (now.name e k)) (Check.Sees (NameIn e k) ∷ rename_checks q d e (other_now.name d m) (other_now.name e k)) (λ same.
      alike_more (Check.Sees (NameIn e k)) (rename_checks p d e (now.name d m) (now.name e k)) (rename_checks q d e (other_now.name d m) (other_now.name e k)) (λ also.
      subst (λ o. Alike (rename_checks p d e (now.name d m) (now.name e k)) (rename_checks q d e o (other_now.name e k))) (same_name d m same.0)
      (subst (λ there. Alike (rename_checks p d e (now.name d m) (now.name e k)) (rename_checks q d e (now.name d m) there)) (same_name e k also.0) (renamed_alike d e (now.name d m) (now.name e k))))))

  checks_alike : (entry : Entry) → Alike (checks_of p entry) (checks_of q entry)
  unfolding checks_of
  checks_alike (Create d m n kind mode) = alike_itself (checks_of p (Create d m n kind mode))
  checks_alike (Write n offset payload) = alike_itself (checks_of p (Write n offset payload))
  checks_alike (Truncate n size) = alike_itself (checks_of p (Truncate n size))
  checks_alike (Link n d m) = alike_itself (checks_of p (Link n d m))
  checks_alike (Unlink d m kind) = unlink_alike d m kind
  checks_alike (Rename d m e k) = rename_alike d m e k
  checks_alike (Chmod n mode) = alike_itself (checks_of p (Chmod n mode))
  checks_alike (Regroup n group) = alike_itself (checks_of p (Regroup n group))

  pub same_end : (entry : Entry) → SameAtAll (looked p (checks_of p entry)) → SameEnd (checks_of p entry) (checks_of q entry)
  unfolding Alike
  same_end = checks_alike

  -- ---- what a clean entry's change reads is alike

  EachSame : List Check → Type 0
  EachSame checks = AllByRecursion (λ check. SameAtAll (cells p check)) checks

  each_same : (checks : List Check) → AllPass p checks → SameAtAll (looked p checks) → EachSame checks
  unfolding EachSame looked
  each_same [] pass same = tt
  each_same (check ∷ checks) pass same =
      let front = parts (cells p check) (elim (fault p check) [ None ↦ looked p checks | Some reason ↦ [] ]) same in
      (front.0, each_same checks pass.1 (subst (λ o. SameAtAll (elim o [ None ↦ looked p checks | Some reason ↦ [] ])) pass.0 front.1))

  moved_reads : (d e : ℕ) (o there : Option ℕ) → EachSame (rename_checks p d e o there) → MovedAlike now other_now o there
  unfolding EachSame cells
  moved_reads d e None there same = tt
  moved_reads d e (Some n) None same = same_head n same.1.1.1.1.1.1.0.0
  moved_reads d e (Some n) (Some t) same = at (t == n) same
    where
      at : (b : Bool) → EachSame (if b then [] else move_checks p d e n (Some t)) → b ≡ false → now.head n ≡ other_now.head n
      at true same apart = cc
      at false same apart = same_head n same.1.1.1.1.1.1.0.0

  pub reads_alike : (entry : Entry) → first_fault p entry ≡ None → SameAtAll (looked p (checks_of p entry)) → ReadsAlike client now other_now entry
  unfolding checks_of EachSame cells
  reads_alike (Create d m n kind mode) clean same = tt
  reads_alike (Write n offset payload) clean same = tt
  reads_alike (Truncate n size) clean same = tt
  reads_alike (Link n d m) clean same = tt
  reads_alike (Unlink d m kind) clean same = let each = each_same _ (all_pass p _ clean) same in same_name d m each.1.1.1.1.1.0.0
  reads_alike (Rename d m e k) clean same =
      let each = each_same _ (all_pass p _ clean) same in
      (same_name d m each.1.1.1.1.1.1.0.0, same_name e k each.1.1.1.1.1.1.1.0.0, moved_reads d e (now.name d m) (now.name e k) each.1.1.1.1.1.1.1.1)
  reads_alike (Chmod n mode) clean same = tt
  reads_alike (Regroup n group) clean same = tt
