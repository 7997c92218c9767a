-- The file of a right piece has the size that is listed.
use Rattle.std.proofs.Common.{◌≡◌, ℕ, ◌+◌, ◌-◌, ◌<◌, Bool, true, false, cond, ◌==◌, ◌&&◌, ◌||◌, ltb, leb, List, [], ◌∷◌, length, map, Option, Some, None, Ok, refl, sym, ap, ◌∙◌, arith, eqb-true}
use Rattle.std.specs.List.{AllByRecursion, list_any}
use Rattle.std.proofs.lemmas.Bool.{eqb-false, ne_eqb, ltb-true, ltb-false, or_left, or_right}
use Rattle.kfs_model.specs.Access.{Client}
use Rattle.kfs_model.specs.Entry.{Entry, Create, Write, Truncate, Link, Unlink, Rename, Chmod, Regroup}
use Rattle.kfs_model.specs.LastCover.{file_size, covered_by, last_cover}
use Rattle.kfs_model.specs.Plan.{mark_at, mark_of_source, IsTrueOf}
use Rattle.kfs_model.specs.PlanRow.{Piece}
use Rattle.kfs_model.specs.Run.{Mark, Payload, Zero, run, over_marks, marked}
use Rattle.kfs_model.specs.Sight.{ClientSight, sight}
use Rattle.kfs_model.specs.Table.{option_or}
use Rattle.kfs_model.specs.Tree.{Tree}
use Rattle.kfs_model.proofs.Cut.{changed_mark, changed_mark-said}
use Rattle.kfs_pieces.specs.declared.log.FileSize.{FileSize}
use Rattle.kfs_pieces.specs.Sizes.{AreSizes, length_after, reaches_file}
use Rattle.kfs_pieces.proofs.ChangedMarks.{changed_mark_is, growth_mark}

-- ---- an entry that covers a byte reaches its file

cover_reaches : (index : ℕ) (entry : Entry) (n p : ℕ) (mark : Mark) → covered_by index entry n p ≡ Some mark → reaches_file n entry ≡ true
unfolding covered_by
cover_reaches index (Create d m k kind mode) n p mark is = cc
cover_reaches index (Write k offset payload) n p mark is = at (n == k) refl is
  where
    at : (b : Bool) → (n == k) ≡ b → cond (b && leb offset p && ltb p (offset + length payload)) (Some (Payload index (p - offset))) None ≡ Some mark → (n == k) ≡ true
    at true same is = same
    at false same is = cc
cover_reaches index (Truncate k size) n p mark is = at (n == k) refl is
  where
    at : (b : Bool) → (n == k) ≡ b → cond (b && leb size p) (Some Zero) None ≡ Some mark → (n == k) ≡ true
    at true same is = same
    at false same is = cc
cover_reaches index (Link k d m) n p mark is = cc
cover_reaches index (Unlink d m kind) n p mark is = cc
cover_reaches index (Rename d m e k) n p mark is = cc
cover_reaches index (Chmod k mode) n p mark is = cc
cover_reaches index (Regroup k group) n p mark is = cc

last_reaches : (index : ℕ) (entries : List Entry) (n p : ℕ) (mark : Mark) → last_cover index entries n p ≡ Some mark → list_any (reaches_file n) entries ≡ true
unfolding last_cover
last_reaches index [] n p mark is = cc
last_reaches index (entry ∷ entries) n p mark is = at (last_cover (index + 1) entries n p) refl is (last_reaches (index + 1) entries n p)
  where
    at : (o : Option Mark) → last_cover (index + 1) entries n p ≡ o → option_or o (covered_by index entry n p) ≡ Some mark
        → ((m : Mark) → last_cover (index + 1) entries n p ≡ Some m → list_any (reaches_file n) entries ≡ true) → (reaches_file n entry || list_any (reaches_file n) entries) ≡ true
    at None later is more = or_left (reaches_file n entry) (list_any (reaches_file n) entries) (cover_reaches index entry n p mark is)
    at (Some m) later is more = or_right (reaches_file n entry) (list_any (reaches_file n) entries) (more m later)

-- ---- a listed file

pub own_size : (before ends : ℕ → ℕ) (n : ℕ) (sizes : List FileSize) → AllByRecursion (λ (s : FileSize). (s.before ≡ before s.number) × (s.after ≡ ends s.number)) sizes
    → list_any (λ k. n == k) (map (λ (s : FileSize). s.number) sizes) ≡ true → length_after sizes n ≡ ends n
own_size before ends n [] own listed = cc
own_size before ends n (s ∷ ss) own listed = at (s.number == n) refl (own_size before ends n ss own.1)
  where
    at : (b : Bool) → (s.number == n) ≡ b → (list_any (λ k. n == k) (map (λ (s : FileSize). s.number) ss) ≡ true → length_after ss n ≡ ends n) → cond b s.after (length_after ss n) ≡ ends n
    at true same more = own.0.1 ∙ ap ends (eqb-true s.number n same)
    at false other more = more (sym (ap (λ b. b || list_any (λ k. n == k) (map (λ (s : FileSize). s.number) ss)) (ne_eqb n s.number (λ e. eqb-false s.number n other (sym e)))) ∙ listed)

module _ (client : Client) (seen : ClientSight) (before : Tree ℕ) (entries : List Entry) (after : Tree Mark) (opens : seen.sight ≡ sight before) (ran : run over_marks client seen (marked before) entries ≡ Ok after)
    (sizes : List FileSize) (all : AreSizes before entries after sizes) where
  -- the file of a byte that the log changed
  changed_listed : (n p : ℕ) (mark : Mark) → changed_mark (mark_at after n p) ≡ Some mark → length_after sizes n ≡ file_size after n
  changed_listed n p mark is = at_end (ltb p (file_size after n)) refl (sym (changed_mark_is client seen before entries after opens ran n p) ∙ is)
    where
      grew : ltb p (file_size after n) ≡ true → ltb p (file_size before n) ≡ false → file_size before n < file_size after n
      grew high low =
          let end = ltb-true p (file_size after n) high in
          let start = ltb-false p (file_size before n) low in
          omega arith

      at_start : (b : Bool) → ltb p (file_size before n) ≡ b → ltb p (file_size after n) ≡ true → cond b None (Some Zero) ≡ Some mark → length_after sizes n ≡ file_size after n
      at_start true low high is = cc
      at_start false low high is = own_size (file_size before) (file_size after) n sizes all.own (all.grew n (grew high low))

      at_cover : (o : Option Mark) → last_cover 0 entries n p ≡ o → ltb p (file_size after n) ≡ true → option_or o (growth_mark before n p) ≡ Some mark → length_after sizes n ≡ file_size after n
      at_cover None none high is = at_start (ltb p (file_size before n)) refl high is
      at_cover (Some m) some high is = all.reached n (last_reaches 0 entries n p m some)

      at_end : (b : Bool) → ltb p (file_size after n) ≡ b → cond b (option_or (last_cover 0 entries n p) (growth_mark before n p)) None ≡ Some mark → length_after sizes n ≡ file_size after n
      at_end true high is = at_cover (last_cover 0 entries n p) refl high is
      at_end false high is = cc

  pub pieces_are_listed : (ps : List Piece) → AllByRecursion (IsTrueOf after) ps → AllByRecursion (λ (p : Piece). length_after sizes p.number ≡ file_size after p.number) ps
  pieces_are_listed [] said = tt
  pieces_are_listed (p ∷ ps) said =
      (changed_listed p.number (p.start + 0) (mark_of_source p.source 0) (ap changed_mark (said.0.said 0 said.0.filled) ∙ changed_mark-said p.source 0), pieces_are_listed ps said.1)
