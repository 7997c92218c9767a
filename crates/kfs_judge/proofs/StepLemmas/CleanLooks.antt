-- What a clean entry has looked at: the cells that it writes are among it.
use Rattle.std.specs.Prelude.{◌≡◌, ℕ, List, [], ◌∷◌, ◌++◌, ◌+◌, ◌^◌, ◌<◌, ◌==◌, length, Bool, true, false, Contains, Option, Some, None, nat_lt, if◌then◌else◌}
use Rattle.std.proofs.Common.{arith}
use Rattle.std.proofs.lemmas.Bool.{leb-true}
use Rattle.kfs_model.specs.Entry.{Create, Write, Truncate, Link, Unlink, Rename, Chmod, Regroup}
use Rattle.kfs_model.specs.Header.{Kind, File, Directory}
use Rattle.kfs_model.specs.Limits.{link_limit, size_limit}
use Rattle.kfs_model.specs.Sight.{HeaderOf, NameIn, kind_shown}
use Rattle.kfs_model.specs.Check.{EntryContext, Check, cells, checks_of, first_fault, looked, is_some_and, fault, may_go, on_number, arrival_checks, move_checks, rename_checks}
use Rattle.kfs_model.proofs.CleanIsAllowed.{AllPass, all_pass, passed}
use Rattle.kfs_judge.proofs.CheckLemmas.Looking.{looks_here, looks_at}
use Rattle.kfs_judge_reads.specs.Reads.{IsPart}
use Rattle.kfs_judge_reads.proofs.Recording.{first_is_in, both_are_part, none_is_part}
use Rattle.kfs_judge.specs.Step.Entered.{headers_renamed, headers_unlinked}

module _ (p : EntryContext) where
  -- a Create
  pub create_looks : (d : ℕ) (m : List ℕ) (n : ℕ) (kind : Kind) (mode : ℕ) → first_fault p (Create d m n kind mode) ≡ None → Contains (looked p (checks_of p (Create d m n kind mode))) (NameIn d m) × Contains (looked p (checks_of p (Create d m n kind mode))) (HeaderOf n)
  unfolding checks_of cells
  create_looks d m n kind mode clean =
      let pass = all_pass p _ clean in
      let front = Check.Exists d ∷ Check.IsADirectory d ∷ Check.MaySearch d ∷ Check.MayWrite d ∷ Check.IsLeased d ∷ [] in (
        looks_at p front (Check.NameIsFree d m) (Check.NumberIsGranted n ∷ Check.NumberIsFree n ∷ []) pass (NameIn d m) (first_is_in (NameIn d m) []),
        looks_at p (front ++ (Check.NameIsFree d m ∷ Check.NumberIsGranted n ∷ [])) (Check.NumberIsFree n) [] pass (HeaderOf n) (first_is_in (HeaderOf n) []),
      )

  -- a Chmod, whatever its checks find
  pub chmod_looks : (n mode : ℕ) → IsPart (HeaderOf n ∷ []) (looked p (checks_of p (Chmod n mode)))
  unfolding checks_of cells
  chmod_looks n mode = looks_here p (Check.Exists n) (Check.IsOwned n ∷ Check.IsLeased n ∷ [])

  -- a Regroup, whatever its checks find
  pub regroup_looks : (n group : ℕ) → IsPart (HeaderOf n ∷ []) (looked p (checks_of p (Regroup n group)))
  unfolding checks_of cells
  regroup_looks n group = looks_here p (Check.Exists n) (Check.IsOwned n ∷ Check.MaySetGroup group ∷ Check.IsLeased n ∷ [])

  -- a Write and a Truncate, whatever their checks find
  pub write_looks : (n offset : ℕ) (payload : List ℕ) → IsPart (HeaderOf n ∷ []) (looked p (checks_of p (Write n offset payload)))
  unfolding checks_of cells
  write_looks n offset payload = looks_here p (Check.Exists n) _

  pub truncate_looks : (n size : ℕ) → IsPart (HeaderOf n ∷ []) (looked p (checks_of p (Truncate n size)))
  unfolding checks_of cells
  truncate_looks n size = looks_here p (Check.Exists n) _

  -- the place behind what a clean Write puts fits into 64 bits, also where it puts nothing
  pub write_fits : (n offset : ℕ) (payload : List ℕ) → offset < 2 ^ 64 → first_fault p (Write n offset payload) ≡ None → offset + length payload < 2 ^ 64
  unfolding checks_of fault
  write_fits n offset [] below clean = omega (arith, below)
  write_fits n offset (b ∷ bs) below clean =
      let last = leb-true (offset + length (b ∷ bs)) size_limit (passed _ _ ((all_pass p _ clean).1.1.1.1.0)) in
      omega (arith, last)

  pub link_looks : (n d : ℕ) (m : List ℕ) → first_fault p (Link n d m) ≡ None → IsPart (NameIn d m ∷ HeaderOf n ∷ []) (looked p (checks_of p (Link n d m)))
  unfolding checks_of cells
  link_looks n d m clean =
      let front = Check.Exists n ∷ Check.IsAFile n ∷ Check.Exists d ∷ Check.IsADirectory d ∷ Check.MaySearch d ∷ Check.MayWrite d ∷ Check.IsLeased d ∷ Check.IsLeased n ∷ [] in
      both_are_part (NameIn d m ∷ []) (HeaderOf n ∷ []) _ (looks_at p front (Check.NameIsFree d m) (Check.HasRoomForLink n ∷ []) (all_pass p _ clean)) (looks_here p (Check.Exists n) _)

  pub link_has_room : (n d : ℕ) (m : List ℕ) → first_fault p (Link n d m) ≡ None → is_some_and (p.now.head n) (λ h. nat_lt h.links link_limit) ≡ true
  unfolding checks_of fault
  link_has_room n d m clean = passed _ _ ((all_pass p _ clean).1.1.1.1.1.1.1.1.1.0)

  going_looks : (front : List Check) (wanted : Kind) (d t : ℕ) → AllPass p (front ++ may_go wanted d t) → IsPart (HeaderOf t ∷ []) (looked p (front ++ may_go wanted d t))
  unfolding cells
  going_looks front File d t pass = looks_at p front (Check.IsAFile t) (Check.MayRemove d t ∷ Check.IsLeased t ∷ []) pass
  going_looks front Directory d t pass = looks_at p front (Check.IsADirectory t) (Check.MayRemove d t ∷ Check.IsLeased t ∷ Check.HasNoNames t ∷ []) pass

  module _ (d : ℕ) (m : List ℕ) (kind : Kind) (clean : first_fault p (Unlink d m kind) ≡ None) where
    abbrev by_directory : List Check
    by_directory = Check.Exists d ∷ Check.IsADirectory d ∷ Check.MaySearch d ∷ Check.MayWrite d ∷ Check.IsLeased d ∷ []

    pub unlink_looks_at_name : IsPart (NameIn d m ∷ []) (looked p (checks_of p (Unlink d m kind)))
    unfolding checks_of cells
    unlink_looks_at_name = looks_at p by_directory (Check.NameIsThere d m) (on_number (p.now.name d m) (may_go kind d)) (all_pass p _ clean)

    pub unlink_looks_at_header : IsPart (headers_unlinked (p.now.name d m)) (looked p (checks_of p (Unlink d m kind)))
    unfolding checks_of
    unlink_looks_at_header = by_target (p.now.name d m) (all_pass p _ clean)
      where
        by_target : (there : Option ℕ) → AllPass p (by_directory ++ (Check.NameIsThere d m ∷ on_number there (may_go kind d))) → IsPart (headers_unlinked there) (looked p (by_directory ++ (Check.NameIsThere d m ∷ on_number there (may_go kind d))))
        by_target None pass = none_is_part _
        by_target (Some t) pass = going_looks (by_directory ++ (Check.NameIsThere d m ∷ [])) kind d t pass

  module _ (d : ℕ) (m : List ℕ) (e : ℕ) (k : List ℕ) where
    abbrev by_names : List Check
    by_names = Check.Exists d ∷ Check.IsADirectory d ∷ Check.Exists e ∷ Check.IsADirectory e ∷ Check.MaySearch d ∷ Check.MaySearch e ∷ Check.NameIsThere d m ∷ Check.Sees (NameIn e k) ∷ []

    -- the checks of a move up to the kind of the node moved
    abbrev by_move : ℕ → List Check
    by_move s = by_names ++ (Check.MayWrite d ∷ Check.MayWrite e ∷ Check.MayRemove d s ∷ Check.IsLeased d ∷ Check.IsLeased e ∷ Check.IsLeased s ∷ [])

    at_moved : (s : ℕ) (back : List Check) → AllPass p (by_move s ++ (Check.Sees (HeaderOf s) ∷ back)) → IsPart (HeaderOf s ∷ []) (looked p (by_move s ++ (Check.Sees (HeaderOf s) ∷ back)))
    unfolding cells
    at_moved s back pass = looks_at p (by_move s) (Check.Sees (HeaderOf s)) back pass

    at_replaced : (s : ℕ) (wanted : Kind) (t : ℕ) → AllPass p (by_move s ++ (Check.Sees (HeaderOf s) ∷ arrival_checks wanted s e (Some t))) → IsPart (HeaderOf t ∷ []) (looked p (by_move s ++ (Check.Sees (HeaderOf s) ∷ arrival_checks wanted s e (Some t))))
    at_replaced s File t pass = going_looks (by_move s ++ (Check.Sees (HeaderOf s) ∷ [])) File e t pass
    at_replaced s Directory t pass = going_looks (by_move s ++ (Check.Sees (HeaderOf s) ∷ Check.IsNotAbove s e ∷ [])) Directory e t pass

    at_headers : (from to : Option ℕ) → AllPass p (by_names ++ rename_checks p d e from to) → IsPart (headers_renamed from to) (looked p (by_names ++ rename_checks p d e from to))
    at_headers None to pass = none_is_part _
    at_headers (Some s) None pass = at_moved s (arrival_checks (kind_shown (p.now.head s)) s e None) pass
    at_headers (Some s) (Some t) pass = by_same (t == s) pass
      where
        by_same : (same : Bool) → AllPass p (by_names ++ (if same then [] else move_checks p d e s (Some t))) → IsPart (if same then [] else HeaderOf s ∷ HeaderOf t ∷ []) (looked p (by_names ++ (if same then [] else move_checks p d e s (Some t))))
        by_same true pass' = none_is_part _
        by_same false pass' =
            let kind = kind_shown (p.now.head s) in
            both_are_part (HeaderOf s ∷ []) (HeaderOf t ∷ []) _ (at_moved s (arrival_checks kind s e (Some t)) pass') (at_replaced s kind t pass')

    module _ (clean : first_fault p (Rename d m e k) ≡ None) where
      pub rename_looks_at_names : IsPart (NameIn d m ∷ NameIn e k ∷ []) (looked p (checks_of p (Rename d m e k)))
      unfolding checks_of cells
      rename_looks_at_names =
          let pass = all_pass p _ clean in
          let front = Check.Exists d ∷ Check.IsADirectory d ∷ Check.Exists e ∷ Check.IsADirectory e ∷ Check.MaySearch d ∷ Check.MaySearch e ∷ [] in
          let back = rename_checks p d e (p.now.name d m) (p.now.name e k) in
          both_are_part (NameIn d m ∷ []) (NameIn e k ∷ []) _ (looks_at p front (Check.NameIsThere d m) (Check.Sees (NameIn e k) ∷ back) pass) (looks_at p (front ++ (Check.NameIsThere d m ∷ [])) (Check.Sees (NameIn e k)) back pass)

      pub rename_looks_at_headers : IsPart (headers_renamed (p.now.name d m) (p.now.name e k)) (looked p (checks_of p (Rename d m e k)))
      unfolding checks_of
      rename_looks_at_headers = at_headers (p.now.name d m) (p.now.name e k) (all_pass p _ clean)
