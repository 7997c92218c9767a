-- Two sound trees that answer alike at the cells that a log looks at have the same bytes changed by it.
use Rattle.std.proofs.Common.{◌≡◌, ℕ, ◌+◌, ◌-◌, ◌==◌, ◌&&◌, Bool, true, false, cond, ltb, leb, List, [], ◌∷◌, ◌++◌, length, Option, Some, None, unwrap_or, slice_get, Result, Ok, Err, refl, sym, ap, subst, ◌∙◌, ◌⊎◌, inl, inr, ⊎_elim, eqb-true}
use Rattle.std.proofs.lemmas.Bool.{both_ways}
use Rattle.std.proofs.lemmas.List.{same_lists}
use Rattle.std.proofs.lemmas.Option.{unwrap_or-slice_get}
use Rattle.kfs_model.specs.Access.{Client}
use Rattle.kfs_model.specs.MarkedRuns.{HaveSameNewMarks, BothEnd, MarksEnd}
use Rattle.kfs_model.specs.Check.{EntryContext, Reason, Check, checks_of, cells, first_fault, looked}
use Rattle.kfs_model.specs.CleanStep.{Fits}
use Rattle.kfs_model.specs.Entry.{Entry, Create, Write, Truncate, Link, Unlink, Rename, Chmod, Regroup}
use Rattle.kfs_model.specs.LastCover.{file_size, covered_by, last_cover, start_mark}
use Rattle.kfs_model.specs.Laws.{BothFit}
use Rattle.kfs_model.specs.Looked.{looked_from, looked_cells, seen_run, AgreeWhereLooked, EndInAgreement, HaveSameNet}
use Rattle.kfs_model.specs.Plan.{mark_at, is_base}
use Rattle.kfs_model.specs.Run.{Mark, Base, Zero, Payload, EntryFault, entry_context, created_by, run, over_bytes, over_marks, marked, byte_of, looked_up}
use Rattle.kfs_model.specs.SeenAfter.{seen_after, seen_run_from, shown_run}
use Rattle.kfs_model.specs.Sight.{Sight, Cell, HeaderOf, ClientSight, client_sight, sight, sight_over}
use Rattle.kfs_model.specs.Table.{get, option_or}
use Rattle.kfs_model.specs.Tree.{Tree, headers, content_of}
use Rattle.kfs_model.proofs.Cells.{headers-recut}
use Rattle.kfs_model.proofs.CleanIsAllowed.{all_pass}
use Rattle.kfs_model.proofs.Heads.{size_said, size_is_extent}
use Rattle.kfs_model.proofs.LastCover.{mark_is}
use Rattle.kfs_model.proofs.Marks.{marks_give_bytes}
use Rattle.kfs_model.proofs.SameLooked.{same_looked}
use Rattle.kfs_model.proofs.SameNet.{alike_at, same_net}
use Rattle.kfs_model.proofs.SeenRun.{run_is_seen, bytes_faithful}
use Rattle.kfs_model.proofs.Unlooked.{Among, among_front, among_back, among_at}

extents_alike : {B C : Type 0} (t : Tree B) (v : Tree C) (n : ℕ) → get (headers t) n ≡ get (headers v) n → file_size t n ≡ file_size v n
extents_alike t v n same = sym (size_is_extent t n) ∙ ap size_said same ∙ size_is_extent v n

-- ---- an entry reaches only bytes of files that it looks at

entry_reaches : (p : EntryContext) (entry : Entry) → first_fault p entry ≡ None → (n index : ℕ) → Among (HeaderOf n) (looked p (checks_of p entry)) ⊎ ((place : ℕ) → covered_by index entry n place ≡ None)
unfolding checks_of cells covered_by
entry_reaches p (Create d m k kind mode) clean n index = inr (λ place. refl)
entry_reaches p (Write k offset payload) clean n index = at (n == k) refl
  where
    at : (b : Bool) → (n == k) ≡ b → Among (HeaderOf n) (looked p (checks_of p (Write k offset payload)))
        ⊎ ((place : ℕ) → ◌≡◌ {A = Option Mark} (cond (b && leb offset place && ltb place (offset + length payload)) (Some (Payload index (place - offset))) None) None)
    at true e = inl (subst (λ j. Among (HeaderOf j) (looked p (checks_of p (Write k offset payload)))) (sym (eqb-true n k e)) (among_at p [] (Check.Exists k) _ (HeaderOf k) (all_pass p _ clean) (inl refl)))
    at false e = inr (λ place. refl)
entry_reaches p (Truncate k size) clean n index = at (n == k) refl
  where
    at : (b : Bool) → (n == k) ≡ b → Among (HeaderOf n) (looked p (checks_of p (Truncate k size))) ⊎ ((place : ℕ) → ◌≡◌ {A = Option Mark} (cond (b && leb size place) (Some Zero) None) None)
    at true e = inl (subst (λ j. Among (HeaderOf j) (looked p (checks_of p (Truncate k size)))) (sym (eqb-true n k e)) (among_at p [] (Check.Exists k) _ (HeaderOf k) (all_pass p _ clean) (inl refl)))
    at false e = inr (λ place. refl)
entry_reaches p (Link k d m) clean n index = inr (λ place. refl)
entry_reaches p (Unlink d m kind) clean n index = inr (λ place. refl)
entry_reaches p (Rename d m e k) clean n index = inr (λ place. refl)
entry_reaches p (Chmod k mode) clean n index = inr (λ place. refl)
entry_reaches p (Regroup k group) clean n index = inr (λ place. refl)

module _ (client : Client) (before : ClientSight) (n : ℕ) where
  run_reaches : (index : ℕ) (created : List ℕ) (now : Sight) (entries : List Entry) (after : Sight) → seen_run_from client before index created now entries ≡ Ok after
      → Among (HeaderOf n) (looked_from client before created now entries) ⊎ ((place : ℕ) → last_cover index entries n place ≡ None)
  unfolding looked_from seen_run_from last_cover
  run_reaches index created now [] after is = inr (λ place. refl)
  run_reaches index created now (entry ∷ entries) after is =
      at (first_fault (entry_context client before now created) entry) refl (run_reaches (index + 1) (created_by entry created) (seen_after client now entry) entries after) is
    where
      front : List Cell
      front = looked (entry_context client before now created) (checks_of (entry_context client before now created) entry)

      back : List Cell
      back = looked_from client before (created_by entry created) (seen_after client now entry) entries

      at : (o : Option Reason) → first_fault (entry_context client before now created) entry ≡ o
          → (seen_run_from client before (index + 1) (created_by entry created) (seen_after client now entry) entries ≡ Ok after → Among (HeaderOf n) back ⊎ ((place : ℕ) → last_cover (index + 1) entries n place ≡ None))
          → ◌≡◌ {A = Result Sight EntryFault} (elim o [ None ↦ seen_run_from client before (index + 1) (created_by entry created) (seen_after client now entry) entries | Some reason ↦ Err (record { entry = index; reason = reason }) ]) (Ok after)
          → Among (HeaderOf n) (front ++ elim o [ None ↦ back | Some reason ↦ [] ]) ⊎ ((place : ℕ) → option_or (last_cover (index + 1) entries n place) (covered_by index entry n place) ≡ None)
      at None clean rest is = ⊎_elim
          (λ looks. inl (among_front (HeaderOf n) front back looks))
          (λ free. ⊎_elim
          (λ looks. inl (among_back (HeaderOf n) front back looks))
          (λ later. inr (λ place. ap (λ o. option_or o (covered_by index entry n place)) (later place) ∙ free place))
          (rest is))
          (entry_reaches (entry_context client before now created) entry clean n index)
      at (Some reason) clean rest is = cc

-- ---- the run over marks shows what the run over cells shows

shown_looked_up : (byte : Mark → ℕ) (end : Result (Tree Mark) EntryFault) → shown_run (looked_up byte end) ≡ shown_run end
shown_looked_up byte (Ok t) = ap (λ heads. Ok (sight_over heads t.names)) (headers-recut byte t)
shown_looked_up byte (Err fault) = refl

marks_seen : (client : Client) (tree : Tree ℕ) (entries : List Entry) (held : ℕ → Bool) → Fits client tree entries → shown_run (run over_marks client (client_sight tree held) (marked tree) entries) ≡ seen_run client (client_sight tree held) entries
marks_seen client tree entries held fits =
    sym (shown_looked_up (byte_of tree entries) (run over_marks client (client_sight tree held) (marked tree) entries))
    ∙ ap shown_run (marks_give_bytes client (client_sight tree held) tree entries)
    ∙ run_is_seen over_bytes bytes_faithful client (client_sight tree held) fits.in_range 0 [] tree fits.version entries fits.sound fits.fitting

-- ---- the marks of a byte after two runs

-- each byte of the file is from before
abbrev pub IsOld : Tree Mark → (n : ℕ) → Type 0
IsOld t n = (place : ℕ) (mark : Mark) → mark_at t n place ≡ Some mark → is_base mark ≡ true

-- the file has the same marks in both, or in both none but those from before
abbrev pub IsSameOrOld : (one other : Tree Mark) → (n : ℕ) → Type 0
IsSameOrOld one other n = (content_of (get one.nodes n) ≡ content_of (get other.nodes n)) ⊎ (IsOld one n × IsOld other n)

module _ (client : Client) (tree : Tree ℕ) (entries : List Entry) (held : ℕ → Bool) (after : Tree Mark) (ran : run over_marks client (client_sight tree held) (marked tree) entries ≡ Ok after) (n place : ℕ) where
  -- a byte of a file that the log leaves alone is from before
  untouched : last_cover 0 entries n place ≡ None → file_size after n ≡ file_size tree n → (mark : Mark) → mark_at after n place ≡ Some mark → is_base mark ≡ true
  untouched free long mark is =
      at (ltb place (file_size tree n))
      (sym (mark_is client (client_sight tree held) tree entries after refl ran n place
      ∙ ap (λ long. cond (ltb place long) (Some (unwrap_or (last_cover 0 entries n place) (start_mark tree n place))) None) long
      ∙ ap (λ o. cond (ltb place (file_size tree n)) (Some (unwrap_or o (start_mark tree n place))) None) free)
      ∙ is)
    where
      at : (b : Bool) → cond b (Some (cond b (Base n place) Zero)) None ≡ Some mark → is_base mark ≡ true
      at true is = let same : Base n place ≡ mark = cc in ap is_base (sym same)
      at false is = cc

module _ (client : Client) (one other : Tree ℕ) (entries : List Entry) (fits : BothFit client one other entries) (held other_held : ℕ → Bool) (alike : AgreeWhereLooked client (client_sight one held) (client_sight other other_held) entries) where
  ends_alike : EndInAgreement (client_sight one held) (client_sight other other_held) (shown_run (run over_marks client (client_sight one held) (marked one) entries)) (shown_run (run over_marks client (client_sight other other_held) (marked other) entries))
  ends_alike =
      let s = client_sight one held in
      let u = client_sight other other_held in
      subst (λ end. EndInAgreement s u end (shown_run (run over_marks client u (marked other) entries))) (sym (marks_seen client one entries held fits.first))
      (subst (λ end. EndInAgreement s u (seen_run client s entries) end) (sym (marks_seen client other entries other_held fits.second)) (same_looked client s u entries alike).0)

  nets_alike : HaveSameNet (client_sight one held) (client_sight other other_held) (shown_run (run over_marks client (client_sight one held) (marked one) entries)) (shown_run (run over_marks client (client_sight other other_held) (marked other) entries))
  nets_alike =
      let s = client_sight one held in
      let u = client_sight other other_held in
      subst (λ end. HaveSameNet s u end (shown_run (run over_marks client u (marked other) entries))) (sym (marks_seen client one entries held fits.first))
      (subst (λ end. HaveSameNet s u (seen_run client s entries) end) (sym (marks_seen client other entries other_held fits.second)) (same_net client s u entries alike))

  module _ (after other_after : Tree Mark) (ran : run over_marks client (client_sight one held) (marked one) entries ≡ Ok after) (also : run over_marks client (client_sight other other_held) (marked other) entries ≡ Ok other_after) (n : ℕ) where
    -- the file is as long before and as long after in both, or the log leaves it alone in both
    record LongAlike : Type 0 where
      before : file_size one n ≡ file_size other n
      now : file_size after n ≡ file_size other_after n

    record LeftAlone : Type 0 where
      free : (place : ℕ) → last_cover 0 entries n place ≡ None
      here : file_size after n ≡ file_size one n
      there : file_size other_after n ≡ file_size other n

    long_alike : get (headers one) n ≡ get (headers other) n → get (headers after) n ≡ get (headers other_after) n → LongAlike
    long_alike before now = record { before = extents_alike one other n before; now = extents_alike after other_after n now }

    each_file : LongAlike ⊎ LeftAlone
    each_file =
        let s = client_sight one held in
        let u = client_sight other other_held in
        let seen : seen_run client s entries ≡ Ok (sight after) = sym (marks_seen client one entries held fits.first) ∙ ap shown_run ran in
        let ends : EndInAgreement s u (Ok (sight after)) (Ok (sight other_after)) = subst (λ end. EndInAgreement s u (Ok (sight after)) (shown_run end)) also (subst (λ end. EndInAgreement s u (shown_run end) (shown_run (run over_marks client u (marked other) entries))) ran ends_alike) in
        let nets : HaveSameNet s u (Ok (sight after)) (Ok (sight other_after)) = subst (λ end. HaveSameNet s u (Ok (sight after)) (shown_run end)) also (subst (λ end. HaveSameNet s u (shown_run end) (shown_run (run over_marks client u (marked other) entries))) ran nets_alike) in
        ⊎_elim
        (λ looks.
        let same = alike_at client s u entries alike (HeaderOf n) (looked_cells client s entries) looks alike in
        let now = ends (HeaderOf n) same in
        let first : get (headers one) n ≡ get (headers other) n = cc in
        let last : get (headers after) n ≡ get (headers other_after) n = cc in
        inl (long_alike first last))
        (λ free. ⊎_elim
        (λ same. inl (long_alike same.0 same.1))
        (λ stays. inr (record { free = free; here = extents_alike after one n stays.0; there = extents_alike other_after other n stays.1 }))
        (nets.heads n))
        (run_reaches client s n 0 [] s.sight entries (sight after) seen)

    same_mark : LongAlike → (place : ℕ) → mark_at after n place ≡ mark_at other_after n place
    same_mark long place =
        mark_is client (client_sight one held) one entries after refl ran n place
        ∙ ap (λ end. cond (ltb place end) (Some (unwrap_or (last_cover 0 entries n place) (start_mark one n place))) None) long.now
        ∙ ap (λ end. cond (ltb place (file_size other_after n)) (Some (unwrap_or (last_cover 0 entries n place) (cond (ltb place end) (Base n place) Zero))) None) long.before
        ∙ sym (mark_is client (client_sight other other_held) other entries other_after refl also n place)

    same_cells : LongAlike → content_of (get after.nodes n) ≡ content_of (get other_after.nodes n)
    same_cells long =
        let cells = content_of (get after.nodes n) in
        let others = content_of (get other_after.nodes n) in
        same_lists cells others long.now (λ place d low. sym (unwrap_or-slice_get cells place d) ∙ ap (λ o. unwrap_or o d) (same_mark long place) ∙ unwrap_or-slice_get others place d)

    same_or_old : IsSameOrOld after other_after n
    same_or_old = ⊎_elim
        (λ long. inl (same_cells long))
        (λ left. inr (
          λ place. untouched client one entries held after ran n place (left.free place) left.here,
          λ place. untouched client other entries other_held other_after also n place (left.free place) left.there,
        ))
        each_file

  -- the two runs have one fault, or end at trees of which P, where P is of all trees whose files have the same marks or old ones
  pub runs_end : (P : (after other_after : Tree Mark) → Type 0) → ((after other_after : Tree Mark) → ((n : ℕ) → IsSameOrOld after other_after n) → P after other_after)
      → BothEnd P (run over_marks client (client_sight one held) (marked one) entries) (run over_marks client (client_sight other other_held) (marked other) entries)
  runs_end P each = at (run over_marks client (client_sight one held) (marked one) entries) (run over_marks client (client_sight other other_held) (marked other) entries) refl refl ends_alike
    where
      at : (end last : Result (Tree Mark) EntryFault) → run over_marks client (client_sight one held) (marked one) entries ≡ end → run over_marks client (client_sight other other_held) (marked other) entries ≡ last
          → EndInAgreement (client_sight one held) (client_sight other other_held) (shown_run end) (shown_run last) → BothEnd P end last
      at (Ok after) (Ok other_after) is also ends = each after other_after (λ n. same_or_old after other_after is also n)
      at (Ok after) (Err fault) is also ends = ends
      at (Err fault) (Ok other_after) is also ends = ends
      at (Err fault) (Err last) is also ends = ends

-- ---- the bytes that are changed

marks_stand : (one other : Tree Mark) (n : ℕ) → IsSameOrOld one other n → (place : ℕ) (mark : Mark) → is_base mark ≡ false → mark_at one n place ≡ Some mark → mark_at other n place ≡ Some mark
marks_stand one other n file place mark changed is = ⊎_elim
    (λ same. ap (λ cells. slice_get cells place) (sym same) ∙ is)
    (λ old. absurd (both_ways _ changed (old.0 place mark is)))
    file

turned_round : (one other : Tree Mark) (n : ℕ) → IsSameOrOld one other n → IsSameOrOld other one n
turned_round one other n file = ⊎_elim (λ same. inl (sym same)) (λ old. inr (old.1, old.0)) file

pub same_marks : (client : Client) (one other : Tree ℕ) (entries : List Entry) → BothFit client one other entries → MarksEnd HaveSameNewMarks client one other entries
same_marks client one other entries fits held other_held alike = runs_end client one other entries fits held other_held alike HaveSameNewMarks
    (λ after other_after files. record {
      there = λ n. marks_stand after other_after n (files n);
      back = λ n. marks_stand other_after after n (turned_round after other_after n (files n));
    })
