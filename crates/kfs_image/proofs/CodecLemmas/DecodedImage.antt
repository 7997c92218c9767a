-- A raw image that was decoded, and why one was not, as the definitions say it.
use Rattle.std.proofs.Common.{◌≡◌, ℕ, ◌+◌, List, ◌++◌, length, drop, map, Result, Ok, Err, refl, ap, ◌∙◌}
use Rattle.std.specs.Prelude.{All}
use Rattle.std.proofs.lemmas.List.Elements.{All-from_recursion}
use Rattle.kfs_model.specs.Spelling.{Begins, LacksRow, name_row_bytes, IsNameRow}
use Rattle.kfs_model.specs.Device.RawImage.{RawImage}
use Rattle.kfs_model.specs.Device.Spelling.{raw_node_bytes, IsRawNode, extent_bytes, IsExtentRow, ImageHeader, image_header, IsImageHeader, raw_image_bytes, IsRawImage, ImageSpellingFault, BadImageHeader, BadImageRow, ImageTrailing, ImagePartLacksRow, rows_before, ImageAnswer}
use Rattle.kfs_model.proofs.DeviceLemmas.ImageAnswers.{image_is_spelled}
use Rattle.kfs_types.specs.declared.plan.NameRow.{NameRow}
use Rattle.kfs_types.specs.Views.{name_row_of}
use Rattle.kfs_entry.specs.Codec.RowList.{AreRead}
use Rattle.kfs_entry.proofs.RowLaws.{AllByRecursion-weaker, stand_from, stop_from}
use Rattle.kfs_image.specs.declared.codec.raw.RawNode.{RawNode}
use Rattle.kfs_image.specs.declared.codec.extent.SpannedExtent.{SpannedExtent}
use Rattle.kfs_image.specs.declared.codec.fault.ImageFault.{ImageFault}
use Rattle.kfs_image.specs.declared.codec.fault.ImageFault.TheVariants as faults
use Rattle.kfs_image.specs.Codec.RawImages.{raw_node_of}
use Rattle.kfs_image.specs.Codec.Extents.{extent_in, IsInSource}
use Rattle.kfs_image.specs.Codec.Answers.{ImageRowMissing, OnImageRefusal, OnImageAnswer}

-- what is known of the extents that were read
abbrev pub Fit : List ℕ → SpannedExtent → Type 0
Fit source row = IsInSource (length source) row × IsExtentRow (extent_in source row)

-- the raw image of a header and the rows behind it
abbrev pub image_from : ImageHeader → List ℕ → List RawNode → List (NameRow (List ℕ)) → List SpannedExtent → RawImage
image_from h source nodes names extents = record { version = h.version; sizes = h.sizes; nodes = map raw_node_of nodes; names = map name_row_of names; extents = map (extent_in source) extents }

abbrev pub NodesAreRead : List ℕ → (at count : ℕ) → List RawNode → (end : ℕ) → Type 0
NodesAreRead source at count nodes end = AreRead (λ r. IsRawNode (raw_node_of r)) (λ r. raw_node_bytes (raw_node_of r)) source at count nodes end

abbrev pub NamesAreRead : List ℕ → (at count : ℕ) → List (NameRow (List ℕ)) → (end : ℕ) → Type 0
NamesAreRead source at count names end = AreRead (λ r. IsNameRow (name_row_of r)) (λ r. name_row_bytes (name_row_of r)) source at count names end

abbrev pub ExtentsAreRead : List ℕ → (at count : ℕ) → List SpannedExtent → (end : ℕ) → Type 0
ExtentsAreRead source at count extents end = AreRead (Fit source) (λ r. extent_bytes (extent_in source r)) source at count extents end

module _ (source : List ℕ) (h : ImageHeader) (fits : IsImageHeader h) (at : ℕ) (front : source ≡ image_header h ++ drop at source) where
  pub image_was_read : (b d end : ℕ) (nodes : List RawNode) (names : List (NameRow (List ℕ))) (extents : List SpannedExtent)
      → NodesAreRead source at h.nodes nodes b → NamesAreRead source b h.names names d → ExtentsAreRead source d h.extents extents end
      → IsRawImage (image_from h source nodes names extents) × (source ≡ raw_image_bytes (image_from h source nodes names extents) ++ drop end source)
  image_was_read b d end nodes names extents nodes_read names_read extents_read =
      image_is_spelled source (drop at source) (drop b source) (drop d source) (drop end source) h fits front
      (stand_from raw_node_of (λ r. IsRawNode (raw_node_of r)) IsRawNode raw_node_bytes (λ r f. f) nodes h.nodes (drop at source) (drop b source) nodes_read.number nodes_read.are)
      (stand_from name_row_of (λ r. IsNameRow (name_row_of r)) IsNameRow name_row_bytes (λ r f. f) names h.names (drop b source) (drop d source) names_read.number names_read.are)
      (stand_from (extent_in source) (Fit source) IsExtentRow extent_bytes (λ r f. f.1) extents h.extents (drop d source) (drop end source) extents_read.number extents_read.are)

  -- a part whose row is missing: what stands before it makes the answer
  part_is_missing : {R V : Type 0} (view : R → V) (fit : R → Type 0) (F : V → Type 0) (s : V → List ℕ) → ((r : R) → fit r → F (view r))
      → (part earlier count : ℕ) (bytes : List ℕ) (fault : ImageFault) → earlier ≡ rows_before h part → ((k : ℕ) → LacksRow F s count k bytes → ImagePartLacksRow h part k (drop at source))
      → ImageRowMissing fit (λ r. s (view r)) (Begins F s) earlier count bytes fault → OnImageRefusal (ImageAnswer source) fault
  part_is_missing view fit F s fit_too part earlier count bytes (faults.BadImageRow k) before lacks missing =
      let counted : k ≡ rows_before h part + missing.0 = missing.1 ∙ ap (λ n. n + missing.0) before in
      (h, drop at source, fits, front, record { part = part; in_part = missing.0; counted = counted; lacks = lacks missing.0 (stop_from view fit F s fit_too count missing.0 bytes missing.2) })
  part_is_missing view fit F s fit_too part earlier count bytes faults.OutOfMemory before lacks missing = tt
  part_is_missing view fit F s fit_too part earlier count bytes faults.BadImageHeader before lacks missing = absurd missing
  part_is_missing view fit F s fit_too part earlier count bytes faults.ImageTrailing before lacks missing = absurd missing

  pub node_is_missing : (fault : ImageFault) → ImageRowMissing (λ r. IsRawNode (raw_node_of r)) (λ r. raw_node_bytes (raw_node_of r)) (Begins IsRawNode raw_node_bytes) 0 h.nodes (drop at source) fault
      → OnImageRefusal (ImageAnswer source) fault
  node_is_missing fault missing = part_is_missing raw_node_of (λ r. IsRawNode (raw_node_of r)) IsRawNode raw_node_bytes (λ r f. f) 0 0 h.nodes (drop at source) fault refl (λ k stop. stop) missing

  pub name_is_missing : (b earlier : ℕ) (nodes : List RawNode) (fault : ImageFault) → earlier ≡ h.nodes → NodesAreRead source at h.nodes nodes b
      → ImageRowMissing (λ r. IsNameRow (name_row_of r)) (λ r. name_row_bytes (name_row_of r)) (Begins IsNameRow name_row_bytes) earlier h.names (drop b source) fault
      → OnImageRefusal (ImageAnswer source) fault
  name_is_missing b earlier nodes fault before nodes_read missing =
      let stand = stand_from raw_node_of (λ r. IsRawNode (raw_node_of r)) IsRawNode raw_node_bytes (λ r f. f) nodes h.nodes (drop at source) (drop b source) nodes_read.number nodes_read.are in
      part_is_missing name_row_of (λ r. IsNameRow (name_row_of r)) IsNameRow name_row_bytes (λ r f. f) 1 earlier h.names (drop b source) fault before (λ k stop. (drop b source, stand, stop)) missing

  pub extent_is_missing : (b d earlier : ℕ) (nodes : List RawNode) (names : List (NameRow (List ℕ))) (fault : ImageFault) → earlier ≡ h.nodes + h.names → NodesAreRead source at h.nodes nodes b → NamesAreRead source b h.names names d
      → ImageRowMissing (Fit source) (λ r. extent_bytes (extent_in source r)) (Begins IsExtentRow extent_bytes) earlier h.extents (drop d source) fault
      → OnImageRefusal (ImageAnswer source) fault
  extent_is_missing b d earlier nodes names fault before nodes_read names_read missing =
      let nodes_stand = stand_from raw_node_of (λ r. IsRawNode (raw_node_of r)) IsRawNode raw_node_bytes (λ r f. f) nodes h.nodes (drop at source) (drop b source) nodes_read.number nodes_read.are in
      let names_stand = stand_from name_row_of (λ r. IsNameRow (name_row_of r)) IsNameRow name_row_bytes (λ r f. f) names h.names (drop b source) (drop d source) names_read.number names_read.are in
      part_is_missing (extent_in source) (Fit source) IsExtentRow extent_bytes (λ r f. f.1) 2 earlier h.extents (drop d source) fault before (λ k stop. (drop b source, drop d source, nodes_stand, names_stand, stop)) missing

-- the spans of extents that were read lie in the source
pub in_source : (source : List ℕ) (at count : ℕ) (extents : List SpannedExtent) (end : ℕ) → ExtentsAreRead source at count extents end → All (IsInSource (length source)) extents
in_source source at count extents end read = All-from_recursion (IsInSource (length source)) extents (AllByRecursion-weaker (Fit source) (IsInSource (length source)) (λ r f. f.0) extents read.are.fit)

-- ---- what holds of each answer holds of the code's

Refused-weaker : {M : Type 0} (P Q : Result M ImageSpellingFault → Type 0) → ((a : Result M ImageSpellingFault) → P a → Q a) → (fault : ImageFault) → OnImageRefusal P fault → OnImageRefusal Q fault
Refused-weaker P Q f faults.BadImageHeader h = f (Err BadImageHeader) h
Refused-weaker P Q f (faults.BadImageRow k) h = f (Err (BadImageRow k)) h
Refused-weaker P Q f faults.ImageTrailing h = f (Err ImageTrailing) h
Refused-weaker P Q f faults.OutOfMemory h = tt

pub Answered-weaker : {V M : Type 0} (view : V → M) (P Q : Result M ImageSpellingFault → Type 0) → ((a : Result M ImageSpellingFault) → P a → Q a) → (result : Result V ImageFault) → OnImageAnswer view P result → OnImageAnswer view Q result
Answered-weaker view P Q f (Ok v) h = f (Ok (view v)) h
Answered-weaker view P Q f (Err fault) h = Refused-weaker P Q f fault h
