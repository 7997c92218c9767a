-- What is written or counted of a walk, one row after another, and the parts of an image's encoding.
use Rattle.std.proofs.Common.{◌≡◌, ℕ, ◌+◌, List, [], ◌∷◌, ◌++◌, length, map, refl, sym, ap, ◌∙◌, append_assoc, append-nil, arith}
use Rattle.std.specs.List.{flat_map}
use Rattle.kfs_model.specs.Limits.{latest_version}
use Rattle.kfs_model.specs.Tree.{headers}
use Rattle.kfs_model.specs.Table.{Table, numbers}
use Rattle.kfs_model.specs.Header.{Header}
use Rattle.std.proofs.lemmas.List.{length-map}
use Rattle.std.proofs.lemmas.List.Concat.{flat_map-append}
use Rattle.kfs_model.specs.Spelling.{name_row_bytes}
use Rattle.kfs_model.specs.Device.Listed.{raw_node, name_row}
use Rattle.kfs_model.specs.Device.RawImage.{ExtentRow}
use Rattle.kfs_model.specs.Device.ShownTree.{DeviceImage, IsLawful, shown_tree}
use Rattle.kfs_model.specs.Device.Spelling.{ImageHeader, image_header, raw_node_bytes, extent_bytes}
use Rattle.kfs_model.specs.Device.Canonical.{extents_of, image_bytes}
use Rattle.kfs_image.specs.Encode.Rows.{node_spelling, name_spelling}

module _ {E : Type 0} (spelling : E → List ℕ) where
  -- where one row more is written, the same text comes of it and the rows that are left
  pub written_next : (before after all : List ℕ) (e : E) (left rest : List E) → left ≡ e ∷ rest → after ≡ before ++ spelling e → before ++ flat_map spelling left ≡ all → after ++ flat_map spelling rest ≡ all
  written_next before after all e left rest next written whole =
      ap (λ text. text ++ flat_map spelling rest) written
      ∙ append_assoc before (spelling e) (flat_map spelling rest)
      ∙ sym (ap (λ es. before ++ flat_map spelling es) next)
      ∙ whole

  -- where a run of rows is written, too
  pub written_run : (before after all : List ℕ) (run left rest : List E) → left ≡ run ++ rest → after ≡ before ++ flat_map spelling run → before ++ flat_map spelling left ≡ all → after ++ flat_map spelling rest ≡ all
  written_run before after all run left rest next written whole =
      ap (λ text. text ++ flat_map spelling rest) written
      ∙ append_assoc before (flat_map spelling run) (flat_map spelling rest)
      ∙ sym (ap (λ text. before ++ text) (ap (flat_map spelling) next ∙ flat_map-append spelling run rest))
      ∙ whole

  pub written_all : (text all : List ℕ) (left : List E) → left ≡ [] → text ++ flat_map spelling left ≡ all → text ≡ all
  written_all text all left none whole = sym (append-nil text) ∙ sym (ap (λ es. text ++ flat_map spelling es) none) ∙ whole

module _ {E : Type 0} where
  pub counted_next : (count all after : ℕ) (e : E) (left rest : List E) → left ≡ e ∷ rest → after ≡ count + 1 → count + length left ≡ all → after + length rest ≡ all
  counted_next count all after e left rest next one whole = omega (arith, one, whole, ap length next)

  pub counted_all : (count all : ℕ) (left : List E) → left ≡ [] → count + length left ≡ all → count ≡ all
  counted_all count all left none whole = omega (arith, whole, ap length none)

flat_map-map : {E F : Type 0} (spelling : F → List ℕ) (f : E → F) (es : List E) → flat_map (λ e. spelling (f e)) es ≡ flat_map spelling (map f es)
flat_map-map spelling f [] = refl
flat_map-map spelling f (e ∷ es) = ap (λ rest. spelling (f e) ++ rest) (flat_map-map spelling f es)

module _ (image : DeviceImage) (lawful : IsLawful image) where
  extents : List ExtentRow
  extents = extents_of (shown_tree image) image.placement

  -- the header of an image's encoding
  header_for : (nodes names extents : ℕ) → ImageHeader
  header_for nodes names extents = record { version = latest_version; sizes = image.sizes; nodes = nodes; names = names; extents = extents }

  spelling_with : ImageHeader → List (ℕ × Header) → List ℕ
  spelling_with h nodes = image_header h ++ flat_map raw_node_bytes (map raw_node nodes) ++ flat_map name_row_bytes (map name_row image.names.entries) ++ flat_map extent_bytes extents

  -- the four parts, written one behind the other
  image_written : (h : ImageHeader) (first second third fourth last : List ℕ)
      → h ≡ record { version = latest_version; sizes = image.sizes; nodes = length image.heads.entries; names = length image.names.entries; extents = length (extents_of (shown_tree image) image.placement) }
      → first ≡ [] → second ≡ first ++ image_header h → third ≡ second ++ flat_map node_spelling image.heads.entries → fourth ≡ third ++ flat_map name_spelling image.names.entries
      → last ≡ fourth ++ flat_map extent_bytes (extents_of (shown_tree image) image.placement) → last ≡ image_bytes image
  unfolding extents header_for spelling_with
  image_written h first second third fourth last head none headed noded named extended =
      extended
      ∙ ap (λ text. text ++ flat_map extent_bytes extents) named
      ∙ ap (λ text. text ++ flat_map name_spelling image.names.entries ++ flat_map extent_bytes extents) noded
      ∙ ap (λ text. text ++ flat_map node_spelling image.heads.entries ++ flat_map name_spelling image.names.entries ++ flat_map extent_bytes extents) (headed ∙ ap (λ text. text ++ image_header h) none)
      ∙ (λ i. image_header (head i) ++ flat_map-map raw_node_bytes raw_node image.heads.entries i ++ flat_map-map name_row_bytes name_row image.names.entries i ++ flat_map extent_bytes extents)
      ∙ ap (λ (t : Table numbers Header). spelling_with (header_for (length t.entries) (length image.names.entries) (length extents)) t.entries) (sym lawful.tree.counted)
      ∙ (λ i. spelling_with (header_for (sym (length-map (headers (shown_tree image)).entries raw_node) i) (sym (length-map image.names.entries name_row) i) (length extents)) (headers (shown_tree image)).entries)

  -- the four parts behind another text
  pub image_appended : (h : ImageHeader) (before first second third fourth last : List ℕ)
      → h ≡ record { version = latest_version; sizes = image.sizes; nodes = length image.heads.entries; names = length image.names.entries; extents = length (extents_of (shown_tree image) image.placement) }
      → first ≡ before → second ≡ first ++ image_header h → third ≡ second ++ flat_map node_spelling image.heads.entries → fourth ≡ third ++ flat_map name_spelling image.names.entries
      → last ≡ fourth ++ flat_map extent_bytes (extents_of (shown_tree image) image.placement) → last ≡ before ++ image_bytes image
  image_appended h before first second third fourth last head same headed noded named extended =
      let nodes = flat_map node_spelling image.heads.entries in
      let names = flat_map name_spelling image.names.entries in
      let rows = flat_map extent_bytes (extents_of (shown_tree image) image.placement) in
      let whole = image_written h [] (image_header h) (image_header h ++ nodes) (image_header h ++ nodes ++ names) (image_header h ++ nodes ++ names ++ rows) head refl refl refl refl refl in
      let two = append_assoc first (image_header h) nodes in
      let three = ap (λ text. text ++ names) two ∙ append_assoc first (image_header h ++ nodes) names in
      let four = ap (λ text. text ++ rows) three ∙ append_assoc first (image_header h ++ nodes ++ names) rows in
      extended
      ∙ ap (λ text. text ++ rows) named
      ∙ ap (λ text. text ++ names ++ rows) noded
      ∙ ap (λ text. text ++ nodes ++ names ++ rows) headed
      ∙ four
      ∙ (λ i. same i ++ whole i)
