-- The pieces of a right plan end in range: in their files, and in the payloads that they are from.
use Rattle.std.proofs.Common.{◌≡◌, ℕ, ◌+◌, ◌-◌, ◌<◌, ◌≤◌, ◌==◌, ◌&&◌, Bool, true, false, cond, ltb, leb, List, [], ◌∷◌, length, map, Option, Some, None, unwrap_or, Ok, refl, sym, ap, subst, ◌∙◌, arith, leb-true, ltb-true}
use Rattle.std.specs.List.{AllByRecursion}
use Rattle.std.proofs.lemmas.Bool.{and_parts}
use Rattle.std.proofs.lemmas.Option.{slice_get_within}
use Rattle.kfs_model.specs.Access.{Client}
use Rattle.kfs_model.specs.Entry.{Entry, Create, Write, Truncate, Link, Unlink, Rename, Chmod, Regroup}
use Rattle.kfs_model.specs.Header.{Header}
use Rattle.kfs_model.specs.LastCover.{covered_by, file_size, last_cover, start_mark}
use Rattle.kfs_model.specs.Limits.{payload_limit, size_limit}
use Rattle.kfs_model.specs.Plan.{IsTrueOf, mark_at, mark_of_source}
use Rattle.kfs_model.specs.Run.{Mark, Payload, marked, over_marks, run}
use Rattle.kfs_model.specs.Sight.{ClientSight, sight}
use Rattle.kfs_model.specs.Soundness.{IsSound}
use Rattle.kfs_model.specs.Spelling.{IsEntry}
use Rattle.kfs_model.specs.Table.{get, option_or}
use Rattle.kfs_model.specs.Tree.{Tree, content_of, headers}
use Rattle.kfs_model.proofs.Heads.{size_is_extent, size_said}
use Rattle.kfs_model.proofs.LastCover.{mark_is}
use Rattle.kfs_types.specs.Views.{piece_of, source_of}
use Rattle.kfs_types.specs.declared.plan.Piece.{Piece as CodePiece}
use Rattle.kfs_types.specs.declared.plan.Source.{Source as CodeSource}
use Rattle.kfs_types.specs.declared.plan.Source.TheVariants as sources
use Rattle.kfs_pieces.specs.Lefts.{IsFilled, IsPlaceShort, PieceIsInRange}

-- ---- marks of payloads

-- an entry gives a mark of its payload at a place in it
covered_short : (version index : ℕ) (entry : Entry) (number place e q : ℕ) → IsEntry version entry → covered_by index entry number place ≡ Some (Payload e q) → q < payload_limit
unfolding covered_by
covered_short version index (Create d m n kind mode) number place e q fits is = cc
covered_short version index (Write n offset payload) number place e q fits is = at ((number == n) && leb offset place && ltb place (offset + length payload)) refl is
  where
    at : (b : Bool) → ((number == n) && leb offset place && ltb place (offset + length payload)) ≡ b → cond b (Some (Payload index (place - offset))) None ≡ Some (Payload e q) → q < payload_limit
    at true inside is =
        let parts = and_parts ((number == n) && leb offset place) (ltb place (offset + length payload)) inside in
        let end = ltb-true place (offset + length payload) parts.1 in
        let low = leb-true offset place (and_parts (number == n) (leb offset place) parts.0).1 in
        let short : length payload ≤ payload_limit = fits.2 in
        let there : place - offset ≡ q = cc in
        subst (λ k. k < payload_limit) there (omega (arith, end, low, short))
    at false inside is = cc
covered_short version index (Truncate n size) number place e q fits is = at ((number == n) && leb size place) is
  where
    at : (b : Bool) → ◌≡◌ {A = Option Mark} (cond b (Some Mark.Zero) None) (Some (Payload e q)) → q < payload_limit
    at true is = cc
    at false is = cc
covered_short version index (Link n d m) number place e q fits is = cc
covered_short version index (Unlink d m kind) number place e q fits is = cc
covered_short version index (Rename d m o k) number place e q fits is = cc
covered_short version index (Chmod n mode) number place e q fits is = cc
covered_short version index (Regroup n group) number place e q fits is = cc

last_short : (version index : ℕ) (entries : List Entry) (number place e q : ℕ) → AllByRecursion (IsEntry version) entries → last_cover index entries number place ≡ Some (Payload e q) → q < payload_limit
unfolding last_cover
last_short version index [] number place e q fit is = cc
last_short version index (entry ∷ entries) number place e q fit is = at (last_cover (index + 1) entries number place) (last_short version (index + 1) entries number place e q fit.1) is
  where
    at : (o : Option Mark) → (o ≡ Some (Payload e q) → q < payload_limit) → option_or o (covered_by index entry number place) ≡ Some (Payload e q) → q < payload_limit
    at None more is = covered_short version index entry number place e q fit.0 is
    at (Some mark) more is = more is

module _ (client : Client) (seen : ClientSight) (before : Tree ℕ) (entries : List Entry) (marked_after : Tree Mark) (opens : seen.sight ≡ sight before)
    (ran : run over_marks client seen (marked before) entries ≡ Ok marked_after) (version : ℕ) (fit : AllByRecursion (IsEntry version) entries) where
  payload_short : (number place e q : ℕ) → mark_at marked_after number place ≡ Some (Payload e q) → q < payload_limit
  payload_short number place e q there = at (ltb place (file_size marked_after number)) (sym (mark_is client seen before entries marked_after opens ran number place) ∙ there)
    where
      from_start : (b : Bool) → ◌≡◌ {A = Mark} (cond b (Mark.Base number place) Mark.Zero) (Payload e q) → q < payload_limit
      from_start true is = cc
      from_start false is = cc

      of_cover : (found : Option Mark) → last_cover 0 entries number place ≡ found → unwrap_or found (start_mark before number place) ≡ Payload e q → q < payload_limit
      of_cover None is same = from_start (ltb place (file_size before number)) same
      of_cover (Some mark) is same = last_short version 0 entries number place e q fit (is ∙ ap Some same)

      at : (b : Bool) → ◌≡◌ {A = Option Mark} (cond b (Some (unwrap_or (last_cover 0 entries number place) (start_mark before number place))) None) (Some (Payload e q)) → q < payload_limit
      at true is = of_cover (last_cover 0 entries number place) refl (let same : unwrap_or (last_cover 0 entries number place) (start_mark before number place) ≡ Payload e q = cc in same)
      at false is = cc

  -- ---- pieces

  module _ (after : Tree ℕ) (sound : IsSound after) (alike : headers marked_after ≡ headers after) where
    file_short : (number : ℕ) → file_size marked_after number ≤ size_limit
    file_short number = subst (λ n. n ≤ size_limit) (ap (λ heads. size_said (get heads number)) (sym alike) ∙ size_is_extent marked_after number) (by (get (headers after) number) refl)
      where
        by : (found : Option Header) → get (headers after) number ≡ found → size_said found ≤ size_limit
        by None is = let none : 0 ≤ size_limit = omega arith in none
        by (Some header) is = (sound.ranges number header is).size

    piece_whole : (p : CodePiece) → IsTrueOf marked_after (piece_of p) → PieceIsInRange p
    piece_whole p right =
        let filled = right.filled in
        let last = right.said (p.len - 1) (omega (arith, filled)) in
        let inside = slice_get_within (content_of (get marked_after.nodes p.number)) (p.start + (p.len - 1)) (mark_of_source (source_of p.source) (p.len - 1)) last in
        let long = file_short p.number in
        record {
          start = omega (arith, filled, inside, long);
          place = by p.source last;
        }
      where
        by : (source : CodeSource) → mark_at marked_after p.number (p.start + (p.len - 1)) ≡ Some (mark_of_source (source_of source) (p.len - 1)) → IsPlaceShort (source_of source) p.len
        by sources.Zero last = tt
        by (sources.Payload entry place) last = let short = payload_short p.number (p.start + (p.len - 1)) entry (place + (p.len - 1)) last in omega (arith, short)

    pub pieces_whole : (pieces : List CodePiece) → AllByRecursion (IsTrueOf marked_after) (map piece_of pieces) → AllByRecursion PieceIsInRange pieces
    pieces_whole [] right = tt
    pieces_whole (p ∷ pieces) right = (piece_whole p right.0, pieces_whole pieces right.1)

pub pieces_filled : (marked_after : Tree Mark) (pieces : List CodePiece) → AllByRecursion (IsTrueOf marked_after) (map piece_of pieces) → AllByRecursion IsFilled pieces
pieces_filled marked_after [] right = tt
pieces_filled marked_after (p ∷ pieces) right = (right.0.filled, pieces_filled marked_after pieces right.1)
