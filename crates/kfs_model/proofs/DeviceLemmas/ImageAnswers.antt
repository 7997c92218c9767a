-- All bytes have an answer as a raw image; for bytes that are written out it computes.
use Rattle.std.proofs.Common.{◌≡◌, ◌≢◌, ℕ, ◌+◌, ◌^◌, ◌<◌, nat_lt, true, List, [], ◌∷◌, ◌++◌, length, Option, Some, None, Result, Ok, Err, refl, sym, ap, subst, ◌∙◌, append_assoc, inl, inr}
use Rattle.std.specs.List.{flat_map, list_all, AllByRecursion}
use Rattle.std.proofs.lemmas.List.{append-nil}
use Rattle.kfs_model.specs.PlanRow.{NameRow}
use Rattle.kfs_model.specs.Spelling.{IsName, IsBytes, BeginsWithRows, IsNameRow, name_row_bytes}
use Rattle.kfs_model.proofs.PlanLaws.{name_row_field}
use Rattle.kfs_model.proofs.ReadingIs.{are_bytes}
use Rattle.kfs_model.proofs.RowsOrStop.{begins_with_none, rows_or_stop}
use Rattle.kfs_model.specs.Device.RawImage.{RawNode, RawImage, IsSpelled}
use Rattle.kfs_model.specs.Device.Spelling.{raw_node_bytes, IsRawNode, extent_bytes, IsExtentRow, ImageHeader, image_header, IsImageHeader, image_header_of, raw_image_bytes, IsRawImage, ImageSpellingFault, BadImageHeader, ImageTrailing, BadImageRow, ImageAnswer}
use Rattle.kfs_model.proofs.DeviceLemmas.ImageReading.{image_header_read}
use Rattle.kfs_model.proofs.DeviceLemmas.ImageFields.{raw_node_field, extent_field, image_header_field}
use Rattle.kfs_model.proofs.DeviceLemmas.OneImageAnswer.{image_reading, image_is_read, stand_bytes}

abbrev pub HasImageAnswer : List ℕ → Type 0
HasImageAnswer bytes = (answer : Result RawImage ImageSpellingFault) × ImageAnswer bytes answer

-- three parts that stand behind a header are a raw image
pub image_is_spelled : (source a b d rest : List ℕ) (h : ImageHeader) → IsImageHeader h → source ≡ image_header h ++ a
    → (nodes : BeginsWithRows IsRawNode raw_node_bytes h.nodes a b) (names : BeginsWithRows IsNameRow name_row_bytes h.names b d) (extents : BeginsWithRows IsExtentRow extent_bytes h.extents d rest)
    → let raw : RawImage = record { version = h.version; sizes = h.sizes; nodes = nodes.rows; names = names.rows; extents = extents.rows } in IsRawImage raw × (source ≡ raw_image_bytes raw ++ rest)
image_is_spelled source a b d rest h fits front nodes names extents =
    let raw : RawImage = record { version = h.version; sizes = h.sizes; nodes = nodes.rows; names = names.rows; extents = extents.rows } in
    let counts : (length nodes.rows, length names.rows, length extents.rows) ≡ (h.nodes, h.names, h.extents) = rw (nodes.number, names.number, extents.number) refl in
    let same : image_header_of raw ≡ h = ap (λ (n : ℕ × ℕ × ℕ). record { version = h.version; sizes = h.sizes; nodes = n.0; names = n.1; extents = n.2 }) counts in
    let n = flat_map raw_node_bytes nodes.rows in
    let m = flat_map name_row_bytes names.rows in
    let e = flat_map extent_bytes extents.rows in
    let whole : source ≡ image_header h ++ (n ++ (m ++ (e ++ rest))) =
    front ∙ ap (λ (l : List ℕ). image_header h ++ l) (nodes.are.spelled ∙ ap (λ (l : List ℕ). n ++ l) (names.are.spelled ∙ ap (λ (l : List ℕ). m ++ l) extents.are.spelled)) in
    let joined : image_header h ++ n ++ m ++ e ++ rest ≡ image_header h ++ (n ++ (m ++ (e ++ rest))) =
    append_assoc (image_header h ++ n ++ m) e rest ∙ append_assoc (image_header h ++ n) m (e ++ rest) ∙ append_assoc (image_header h) n (m ++ (e ++ rest)) in (
      (subst IsImageHeader (sym same) fits, nodes.are.fit, names.are.fit, extents.are.fit),
      whole ∙ sym joined ∙ ap (λ (g : ImageHeader). image_header g ++ n ++ m ++ e ++ rest) (sym same),
    )

image_behind : (bytes a b d rest : List ℕ) (h : ImageHeader) → IsImageHeader h → bytes ≡ image_header h ++ a
    → (nodes : BeginsWithRows IsRawNode raw_node_bytes h.nodes a b) (names : BeginsWithRows IsNameRow name_row_bytes h.names b d) (extents : BeginsWithRows IsExtentRow extent_bytes h.extents d rest) → HasImageAnswer bytes
image_behind bytes a b d [] h fits parts nodes names extents =
    let raw = image_is_spelled bytes a b d [] h fits parts nodes names extents in
    (Ok (record { version = h.version; sizes = h.sizes; nodes = nodes.rows; names = names.rows; extents = extents.rows }), (raw.0, raw.1 ∙ append-nil _))
image_behind bytes a b d (byte ∷ more) h fits parts nodes names extents =
    let raw = image_is_spelled bytes a b d (byte ∷ more) h fits parts nodes names extents in
    let some : byte ∷ more ≢ [] = λ e. cc in
    (Err ImageTrailing, (record { version = h.version; sizes = h.sizes; nodes = nodes.rows; names = names.rows; extents = extents.rows }, byte ∷ more, raw.0, some, raw.1))

module _ (bytes a : List ℕ) (h : ImageHeader) (fits : IsImageHeader h) (parts : bytes ≡ image_header h ++ a) where
  extents_behind : (b d : List ℕ) → IsBytes d → BeginsWithRows IsRawNode raw_node_bytes h.nodes a b → BeginsWithRows IsNameRow name_row_bytes h.names b d → HasImageAnswer bytes
  extents_behind b d are nodes names =
      elim (rows_or_stop extent_field h.extents d are) [
        | inl stand ↦ image_behind bytes a b d stand.0 h fits parts nodes names stand.1
        | inr stop ↦ (Err (BadImageRow (h.nodes + h.names + stop.0)), (h, a, fits, parts, record { part = 2; in_part = stop.0; counted = refl; lacks = (b, d, nodes, names, stop.1) }))
      ]

  names_behind : (b : List ℕ) → IsBytes b → BeginsWithRows IsRawNode raw_node_bytes h.nodes a b → HasImageAnswer bytes
  names_behind b are nodes =
      elim (rows_or_stop name_row_field h.names b are) [
        | inl stand ↦ extents_behind b stand.0 (stand_bytes are stand.1) nodes stand.1
        | inr stop ↦ (Err (BadImageRow (h.nodes + stop.0)), (h, a, fits, parts, record { part = 1; in_part = stop.0; counted = refl; lacks = (b, nodes, stop.1) }))
      ]

  nodes_behind : IsBytes a → HasImageAnswer bytes
  nodes_behind are =
      elim (rows_or_stop raw_node_field h.nodes a are) [
        | inl stand ↦ names_behind stand.0 (stand_bytes are stand.1) stand.1
        | inr stop ↦ (Err (BadImageRow (0 + stop.0)), (h, a, fits, parts, record { part = 0; in_part = stop.0; counted = refl; lacks = stop.1 }))
      ]

pub image_has_answer : (bytes : List ℕ) → IsBytes bytes → HasImageAnswer bytes
image_has_answer bytes are = by_header (image_header_read bytes) refl
  where
    by_header : (found : Option (ImageHeader × List ℕ)) → image_header_read bytes ≡ found → HasImageAnswer bytes
    by_header None is = (Err BadImageHeader, begins_with_none image_header_field bytes is)
    by_header (Some x) is =
        let header = image_header_field.takes bytes x are is in
        nodes_behind bytes x.1 x.0 header.fits header.parts header.rest_bytes

pub image_is : (bytes : List ℕ) → list_all (λ b. nat_lt b 256) bytes ≡ true → (answer : Result RawImage ImageSpellingFault) → image_reading bytes ≡ answer → ImageAnswer bytes answer
image_is bytes all answer is =
    let given = image_has_answer bytes (are_bytes bytes all) in
    subst (ImageAnswer bytes) (sym (image_is_read bytes (are_bytes bytes all) given.0 given.1) ∙ is) given.1

-- what is in the range of the format fulfills the premise on names and ids
pub raw_image_spelled : (raw : RawImage) → IsRawImage raw → IsSpelled raw
raw_image_spelled raw fits = record { sizes = fits.0.1; names = names raw.names fits.2; ids = ids raw.nodes fits.1 }
  where
    names : (rows : List NameRow) → AllByRecursion IsNameRow rows → AllByRecursion (λ (row : NameRow). IsName row.name) rows
    names [] all = tt
    names (row ∷ rows) all = (all.0.1, names rows all.1)

    ids : (rows : List RawNode) → AllByRecursion IsRawNode rows → AllByRecursion (λ (row : RawNode). (row.header.uid < 2 ^ 32) × (row.header.gid < 2 ^ 32)) rows
    ids [] all = tt
    ids (row ∷ rows) all = ((all.0.1.1, all.0.1.2), ids rows all.1)
