-- What a log doesn't look at stays as it was.
use Rattle.std.proofs.Common.{◌≡◌, ℕ, ◌+◌, ◌==◌, Bool, true, false, cond, List, [], ◌∷◌, ◌++◌, Option, Some, None, option_map, option_and_then, if◌then◌else◌, refl, sym, subst, ◌∙◌, ◌⊎◌, inl, inr, ⊎_elim, eqb-true}
use Rattle.kfs_model.specs.Header.{Kind, File, Directory, Header}
use Rattle.kfs_model.specs.Entry.{Entry, Create, Write, Truncate, Link, Unlink, Rename, Chmod, Regroup}
use Rattle.kfs_model.specs.Sight.{Sight, Cell, HeaderOf, NameIn, kind_shown}
use Rattle.kfs_model.specs.Check.{EntryContext, Check, fault, cells, first_fault, looked, checks_of, may_go, on_number, move_checks, arrival_checks, rename_checks}
use Rattle.kfs_model.specs.FirstWrong.{same_place}
use Rattle.kfs_model.specs.SeenAfter.{put_at, put_name, put_header, new_header, written_size, unlinked, seen_without, seen_moved, seen_renamed, seen_unlinked, seen_after}
use Rattle.kfs_model.proofs.CleanIsAllowed.{AllPass, all_pass}
use Rattle.kfs_model.proofs.Exact.{places-exact}

-- the cell is in the list
abbrev pub Among : Cell → List Cell → Type 0
Among cell [] = ⊥
Among cell (c ∷ cs) = (cell ≡ c) ⊎ Among cell cs

pub among_front : (cell : Cell) (front back : List Cell) → Among cell front → Among cell (front ++ back)
among_front cell [] back h = absurd h
among_front cell (c ∷ front) back h = ⊎_elim (λ here. inl here) (λ later. inr (among_front cell front back later)) h

pub among_back : (cell : Cell) (front back : List Cell) → Among cell back → Among cell (front ++ back)
among_back cell [] back h = h
among_back cell (c ∷ front) back h = inr (among_back cell front back h)

module _ (p : EntryContext) where
  -- of checks that pass, each one's cells are looked at
  among_rest : (check : Check) (rest : List Check) (cell : Cell) → fault p check ≡ None → Among cell (looked p rest) → Among cell (looked p (check ∷ rest))
  unfolding looked
  among_rest check rest cell pass h =
      among_back cell (cells p check) (elim (fault p check) [ None ↦ looked p rest | Some reason ↦ [] ]) (subst (λ o. Among cell (elim o [ None ↦ looked p rest | Some reason ↦ [] ])) (sym pass) h)

  pub among_at : (front : List Check) (check : Check) (back : List Check) (cell : Cell) → AllPass p (front ++ (check ∷ back)) → Among cell (cells p check) → Among cell (looked p (front ++ (check ∷ back)))
  unfolding looked
  among_at [] check back cell pass h = among_front cell (cells p check) (elim (fault p check) [ None ↦ looked p back | Some reason ↦ [] ]) h
  among_at (first ∷ front) check back cell pass h = among_rest first (front ++ (check ∷ back)) cell pass.0 (among_at front check back cell pass.1 h)

  among_behind : (front back : List Check) (cell : Cell) → AllPass p (front ++ back) → (AllPass p back → Among cell (looked p back)) → Among cell (looked p (front ++ back))
  among_behind [] back cell pass h = h pass
  among_behind (first ∷ front) back cell pass h = among_rest first (front ++ back) cell pass.0 (among_behind front back cell pass.1 h)

-- ---- what an entry changes

-- the headers and names that a change touches are among the cells, and the others stay
pub record Touches (seen : List Cell) (now next : Sight) : Type 0 where
  pub heads : (n : ℕ) → Among (HeaderOf n) seen ⊎ (next.head n ≡ now.head n)
  pub names : (d : ℕ) (m : List ℕ) → Among (NameIn d m) seen ⊎ (next.name d m ≡ now.name d m)

module _ (seen : List Cell) where
  put_at_touches : (n : ℕ) (h : Option Header) (f : ℕ → Option Header) → Among (HeaderOf n) seen → (k : ℕ) → Among (HeaderOf k) seen ⊎ (put_at n h f k ≡ f k)
  put_at_touches n h f looks k = at (k == n) refl
    where
      at : (b : Bool) → (k == n) ≡ b → Among (HeaderOf k) seen ⊎ (cond b h (f k) ≡ f k)
      at true same = inl (subst (λ k. Among (HeaderOf k) seen) (sym (eqb-true k n same)) looks)
      at false other = inr refl

  put_name_touches : (d : ℕ) (m : List ℕ) (x : Option ℕ) (f : ℕ → List ℕ → Option ℕ) → Among (NameIn d m) seen → (e : ℕ) (k : List ℕ) → Among (NameIn e k) seen ⊎ (put_name d m x f e k ≡ f e k)
  put_name_touches d m x f looks e k = at (same_place (e, k) (d, m)) refl
    where
      at : (b : Bool) → same_place (e, k) (d, m) ≡ b → Among (NameIn e k) seen ⊎ (cond b x (f e k) ≡ f e k)
      at true same = inl (subst (λ key. Among (NameIn key.0 key.1) seen) (sym ((places-exact.decides (e, k) (d, m)).0 same)) looks)
      at false other = inr refl

  pub touches_nothing : (now : Sight) → Touches seen now now
  touches_nothing now = record { heads = λ n. inr refl; names = λ d m. inr refl }

  pub touches_then : (now next last : Sight) → Touches seen now next → Touches seen next last → Touches seen now last
  touches_then now next last first second = record {
    heads = λ n. ⊎_elim (λ looks. inl looks) (λ same. ⊎_elim (λ looks. inl looks) (λ before. inr (same ∙ before)) (first.heads n)) (second.heads n);
    names = λ d m. ⊎_elim (λ looks. inl looks) (λ same. ⊎_elim (λ looks. inl looks) (λ before. inr (same ∙ before)) (first.names d m)) (second.names d m);
  }

  without_touches : (d : ℕ) (m : List ℕ) (t : ℕ) (now : Sight) → Among (NameIn d m) seen → Among (HeaderOf t) seen → Touches seen now (seen_without d m t now)
  without_touches d m t now name header = record {
    heads = put_at_touches t (option_and_then unlinked (now.head t)) now.head header;
    names = put_name_touches d m None now.name name;
  }

  moved_touches : (d : ℕ) (m : List ℕ) (e : ℕ) (k : List ℕ) (n : ℕ) (now : Sight) → Among (NameIn d m) seen → Among (NameIn e k) seen → Touches seen now (seen_moved d m e k n now)
  moved_touches d m e k n now from to = record {
    heads = λ x. inr refl;
    names = λ f l. ⊎_elim (λ looks. inl looks) (λ same. ⊎_elim (λ looks. inl looks) (λ before. inr (same ∙ before)) (put_name_touches d m None now.name from f l)) (put_name_touches e k (Some n) (put_name d m None now.name) to f l);
  }

pub touches_wider : (few many : List Cell) (now next : Sight) → ((cell : Cell) → Among cell few → Among cell many) → Touches few now next → Touches many now next
touches_wider few many now next wider touches = record {
  heads = λ n. ⊎_elim (λ looks. inl (wider (HeaderOf n) looks)) (λ same. inr same) (touches.heads n);
  names = λ d m. ⊎_elim (λ looks. inl (wider (NameIn d m) looks)) (λ same. inr same) (touches.names d m);
}

-- ---- the entries

module _ (p : EntryContext) where
  goes_among : (kind : Kind) (d t : ℕ) (front : List Check) → AllPass p (front ++ may_go kind d t) → Among (HeaderOf t) (looked p (front ++ may_go kind d t))
  unfolding cells
  goes_among File d t front pass = among_at p front (Check.IsAFile t) (Check.MayRemove d t ∷ Check.IsLeased t ∷ []) (HeaderOf t) pass (inl refl)
  goes_among Directory d t front pass = among_at p front (Check.IsADirectory t) (Check.MayRemove d t ∷ Check.IsLeased t ∷ Check.HasNoNames t ∷ []) (HeaderOf t) pass (inl refl)

  -- of an Unlink, by what the name leads to
  unlink_touches : (d : ℕ) (m : List ℕ) (kind : Kind) (front : List Check) (o : Option ℕ) → AllPass p (front ++ (Check.NameIsThere d m ∷ on_number o (may_go kind d)))
      → Touches (looked p (front ++ (Check.NameIsThere d m ∷ on_number o (may_go kind d)))) p.now (seen_unlinked d m o p.now)
  unfolding cells
  unlink_touches d m kind front None pass = touches_nothing (looked p (front ++ (Check.NameIsThere d m ∷ []))) p.now
  unlink_touches d m kind front (Some t) pass =
      without_touches (looked p (front ++ (Check.NameIsThere d m ∷ may_go kind d t))) d m t p.now
      (among_at p front (Check.NameIsThere d m) (may_go kind d t) (NameIn d m) pass (inl refl))
      (among_behind p front (Check.NameIsThere d m ∷ may_go kind d t) (HeaderOf t) pass (goes_among kind d t (Check.NameIsThere d m ∷ [])))

  -- the header of the node that a Rename replaces
  arrives_among : (kind : Kind) (e n t : ℕ) → AllPass p (arrival_checks kind n e (Some t)) → Among (HeaderOf t) (looked p (arrival_checks kind n e (Some t)))
  arrives_among File e n t = goes_among File e t []
  arrives_among Directory e n t = goes_among Directory e t (Check.IsNotAbove n e ∷ [])

  replaced_among : (d e n t : ℕ) → AllPass p (move_checks p d e n (Some t)) → Among (HeaderOf t) (looked p (move_checks p d e n (Some t)))
  replaced_among d e n t pass =
      among_behind p (Check.MayWrite d ∷ Check.MayWrite e ∷ Check.MayRemove d n ∷ Check.IsLeased d ∷ Check.IsLeased e ∷ Check.IsLeased n ∷ Check.Sees (HeaderOf n) ∷ []) _ (HeaderOf t) pass
      (arrives_among (kind_shown (p.now.head n)) e n t)

  -- of a Rename, by what the two names lead to
  rename_touches : (d : ℕ) (m : List ℕ) (e : ℕ) (k : List ℕ) (front : List Check) (o there : Option ℕ)
      → AllPass p (front ++ (Check.NameIsThere d m ∷ Check.Sees (NameIn e k) ∷ rename_checks p d e o there))
      → Touches (looked p (front ++ (Check.NameIsThere d m ∷ Check.Sees (NameIn e k) ∷ rename_checks p d e o there))) p.now (seen_renamed d m e k o there p.now)
  unfolding cells
  rename_touches d m e k front None there pass = touches_nothing (looked p (front ++ (Check.NameIsThere d m ∷ Check.Sees (NameIn e k) ∷ []))) p.now
  rename_touches d m e k front (Some n) None pass =
      moved_touches (looked p (front ++ (Check.NameIsThere d m ∷ Check.Sees (NameIn e k) ∷ move_checks p d e n None))) d m e k n p.now
      (among_at p front (Check.NameIsThere d m) (Check.Sees (NameIn e k) ∷ move_checks p d e n None) (NameIn d m) pass (inl refl))
      (among_behind p front (Check.NameIsThere d m ∷ Check.Sees (NameIn e k) ∷ move_checks p d e n None) (NameIn e k) pass
      (λ pass. among_at p (Check.NameIsThere d m ∷ []) (Check.Sees (NameIn e k)) (move_checks p d e n None) (NameIn e k) pass (inl refl)))
  rename_touches d m e k front (Some n) (Some t) pass = at (t == n) pass
    where
      moves : Bool → List Check
      moves b = Check.NameIsThere d m ∷ Check.Sees (NameIn e k) ∷ (if b then [] else move_checks p d e n (Some t))

      at : (b : Bool) → AllPass p (front ++ moves b) → Touches (looked p (front ++ moves b)) p.now (cond b p.now (seen_moved d m e k n (seen_without e k t p.now)))
      at true pass = touches_nothing (looked p (front ++ moves true)) p.now
      at false pass =
          let seen = looked p (front ++ moves false) in
          let from = among_at p front (Check.NameIsThere d m) (Check.Sees (NameIn e k) ∷ move_checks p d e n (Some t)) (NameIn d m) pass (inl refl) in
          let to = among_behind p front (moves false) (NameIn e k) pass (λ pass. among_at p (Check.NameIsThere d m ∷ []) (Check.Sees (NameIn e k)) (move_checks p d e n (Some t)) (NameIn e k) pass (inl refl)) in
          let header = among_behind p front (moves false) (HeaderOf t) pass (λ pass. among_behind p (Check.NameIsThere d m ∷ Check.Sees (NameIn e k) ∷ []) (move_checks p d e n (Some t)) (HeaderOf t) pass (replaced_among d e n t)) in
          touches_then seen p.now (seen_without e k t p.now) (seen_moved d m e k n (seen_without e k t p.now)) (without_touches seen e k t p.now to header) (moved_touches seen d m e k n (seen_without e k t p.now) from to)

  header_touches : (n : ℕ) (rest : List Check) (change : Header → Header) → AllPass p (Check.Exists n ∷ rest) → Touches (looked p (Check.Exists n ∷ rest)) p.now (record p.now { head = put_header n change p.now.head })
  unfolding cells
  header_touches n rest change pass = record {
    heads = put_at_touches (looked p (Check.Exists n ∷ rest)) n (option_map change (p.now.head n)) p.now.head (among_at p [] (Check.Exists n) rest (HeaderOf n) pass (inl refl));
    names = λ d m. inr refl;
  }

  pub entry_touches : (entry : Entry) → first_fault p entry ≡ None → Touches (looked p (checks_of p entry)) p.now (seen_after p.client p.now entry)
  unfolding checks_of cells seen_after
  entry_touches (Create d m n kind mode) clean =
      let pass = all_pass p _ clean in
      let front = Check.Exists d ∷ Check.IsADirectory d ∷ Check.MaySearch d ∷ Check.MayWrite d ∷ Check.IsLeased d ∷ [] in
      let seen = looked p (checks_of p (Create d m n kind mode)) in
      record {
        heads = put_at_touches seen n (Some (new_header p.client kind mode)) p.now.head (among_at p (front ++ (Check.NameIsFree d m ∷ Check.NumberIsGranted n ∷ [])) (Check.NumberIsFree n) [] (HeaderOf n) pass (inl refl));
        names = put_name_touches seen d m (Some n) p.now.name (among_at p front (Check.NameIsFree d m) (Check.NumberIsGranted n ∷ Check.NumberIsFree n ∷ []) (NameIn d m) pass (inl refl));
      }
  entry_touches (Write n offset payload) clean = header_touches n _ (λ h. record h { size = written_size offset payload h.size }) (all_pass p _ clean)
  entry_touches (Truncate n size) clean = header_touches n _ (λ h. record h { size = size }) (all_pass p _ clean)
  entry_touches (Link n d m) clean =
      let pass = all_pass p _ clean in
      let front = Check.Exists n ∷ Check.IsAFile n ∷ Check.Exists d ∷ Check.IsADirectory d ∷ Check.MaySearch d ∷ Check.MayWrite d ∷ Check.IsLeased d ∷ Check.IsLeased n ∷ [] in
      let seen = looked p (checks_of p (Link n d m)) in
      record {
        heads = (header_touches n _ (λ h. record h { links = h.links + 1 }) pass).heads;
        names = put_name_touches seen d m (Some n) p.now.name (among_at p front (Check.NameIsFree d m) (Check.HasRoomForLink n ∷ []) (NameIn d m) pass (inl refl));
      }
  entry_touches (Unlink d m kind) clean = unlink_touches d m kind (Check.Exists d ∷ Check.IsADirectory d ∷ Check.MaySearch d ∷ Check.MayWrite d ∷ Check.IsLeased d ∷ []) (p.now.name d m) (all_pass p _ clean)
  entry_touches (Rename d m e k) clean = rename_touches d m e k (Check.Exists d ∷ Check.IsADirectory d ∷ Check.Exists e ∷ Check.IsADirectory e ∷ Check.MaySearch d ∷ Check.MaySearch e ∷ []) (p.now.name d m) (p.now.name e k) (all_pass p _ clean)
  entry_touches (Chmod n mode) clean = header_touches n _ (λ h. record h { mode = mode }) (all_pass p _ clean)
  entry_touches (Regroup n group) clean = header_touches n _ (λ h. record h { gid = group }) (all_pass p _ clean)
