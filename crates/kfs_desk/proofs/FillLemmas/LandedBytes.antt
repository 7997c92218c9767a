-- The bytes of blocks after a log are the marks of the tree after, looked up; and the bytes of an image's files stand on its devices.
use Rattle.std.proofs.Common.{◌≡◌, ℕ, ◌+◌, ◌<◌, List, length, get_or, Option, Some, None, option_map, refl, sym, ap, subst, ◌∙◌, arith}
use Rattle.std.proofs.lemmas.Option.{slice_get-get_or, unwrap_or-slice_get}
use Rattle.kfs_model.specs.Header.{Kind, File, Directory, Header}
use Rattle.kfs_model.specs.Table.{get}
use Rattle.kfs_model.proofs.TableLaws.{get-mapped}
use Rattle.kfs_model.specs.Tree.{Tree, Node, content_of, node_over}
use Rattle.kfs_model.specs.Entry.{Entry}
use Rattle.kfs_model.specs.PlanRow.{Piece}
use Rattle.kfs_model.specs.Plan.{ArePieces, OldBytesStay, mark_at}
use Rattle.kfs_model.specs.Run.{Mark, Zero, byte_at, byte_of}
use Rattle.kfs_model.proofs.Cut.{changed_mark, said_of_pieces}
use Rattle.kfs_model.specs.Device.ShownTree.{DeviceImage, file_byte, file_bytes, shown_tree}
use Rattle.kfs_model.proofs.DeviceLemmas.ShownHeads.{length-file_bytes}
use Rattle.kfs_desk.specs.Fill.Fill.{byte_after}
use Rattle.kfs_desk.proofs.FillLemmas.TreesOver.{get_or-numbers_from}

module _ (before : Tree ℕ) (entries : List Entry) (marked_after : Tree Mark) (pieces : List Piece) (right : ArePieces marked_after pieces) (stay : OldBytesStay marked_after) where
  -- what right pieces say of a byte, or else what stood there, is its mark looked up
  pub byte_after_is : (number place : ℕ) → place < length (content_of (get marked_after.nodes number)) → byte_after before entries pieces number place ≡ byte_of before entries (get_or (content_of (get marked_after.nodes number)) place Zero)
  byte_after_is number place below =
      let marks = content_of (get marked_after.nodes number) in
      let there : mark_at marked_after number place ≡ Some (get_or marks place Zero) = slice_get-get_or marks place Zero below in
      ap (λ (said : Option Mark). elim said as (λ _. ℕ) [ None ↦ byte_at (content_of (get before.nodes number)) place | Some mark ↦ byte_of before entries mark ]) (said_of_pieces marked_after pieces right number place ∙ ap changed_mark there)
      ∙ by (get_or marks place Zero) there
    where
      by : (mark : Mark) → mark_at marked_after number place ≡ Some mark
          → ◌≡◌ {A = ℕ} (elim (changed_mark (Some mark)) as (λ _. ℕ) [ None ↦ byte_at (content_of (get before.nodes number)) place | Some mark ↦ byte_of before entries mark ]) (byte_of before entries mark)
      by (Mark.Base n p) is = let (file, at) = stay number place n p is in λ i. byte_at (content_of (get before.nodes (sym file i))) (sym at i)
      by Mark.Zero is = refl
      by (Mark.Payload e p) is = refl

module _ (image : DeviceImage) (number place : ℕ) where
  -- below the end of a file stands the byte of its block
  abbrev HasByte : Option (Node ℕ) → Type 0
  HasByte found = place < length (content_of found) → byte_at (content_of found) place ≡ file_byte image.placement image.devices number place

  pub shown_byte : HasByte (get (shown_tree image).nodes number)
  shown_byte = subst HasByte (sym (get-mapped (node_over (file_bytes image.placement image.devices)) image.heads number)) (by (get image.heads number))
    where
      of_kind : (h : Header) (kind : Kind) → HasByte (Some (node_over (file_bytes image.placement image.devices) number (record h { kind = kind })))
      of_kind h File below =
          let bytes = file_bytes image.placement image.devices number h.size in
          let inside : place < h.size = omega (arith, below, length-file_bytes image.placement image.devices number h.size) in
          unwrap_or-slice_get bytes place 0 ∙ get_or-numbers_from (file_byte image.placement image.devices number) 0 h.size place inside ∙ (let same : 0 + place ≡ place = omega arith in ap (file_byte image.placement image.devices number) same)
      of_kind h Directory below = absurd (omega (arith, below))

      by : (found : Option Header) → HasByte (option_map (node_over (file_bytes image.placement image.devices) number) found)
      by None below = absurd (omega (arith, below))
      by (Some h) below = of_kind h h.kind below
