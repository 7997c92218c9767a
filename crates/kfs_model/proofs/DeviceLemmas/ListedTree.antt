-- The rows of a lawful image show its tree again.
use Rattle.std.proofs.Common.{◌≡◌, ℕ, zero, suc, ◌+◌, ◌*◌, ◌<◌, ◌/◌, ◌%◌, cond, List, [], ◌∷◌, map, take, drop, get_or, inl, inr, Option, Some, None, option_map, refl, sym, ap, subst, ◌∙◌, arith}
use Rattle.std.specs.declared.cmp.Ordering.{Ordering}
use Rattle.std.specs.declared.cmp.Ordering.TheVariants.{Less, Equal, Greater}
use Rattle.std.specs.Ordering.{is_eq}
use Rattle.std.specs.FinMap.Entries.{find}
use Rattle.std.proofs.lemmas.List.{get_or-take, get_or-drop}
use Rattle.kfs_model.specs.Header.{Kind, File, Directory, Header}
use Rattle.kfs_model.specs.Table.{Order, Table, numbers, pairs, get}
use Rattle.kfs_model.proofs.TableLaws.{get-mapped, same_table}
use Rattle.kfs_model.specs.Tree.{FileBody, body_over, node_over}
use Rattle.kfs_model.specs.Placement.{Place, numbers_from, below}
use Rattle.kfs_model.specs.Device.Device.{Devices, byte_on}
use Rattle.kfs_model.specs.Device.ShownTree.{DeviceImage, file_byte, file_bytes, shown_tree, IsLawful}
use Rattle.kfs_model.specs.Device.RawImage.{devices_of, placement_of, image_of}
use Rattle.kfs_model.specs.Device.Listed.{block_bytes, extent_row, rows_of, AreRowsOfImage}
use Rattle.kfs_model.proofs.DeviceLemmas.Among.{Among, among_map}
use Rattle.kfs_model.proofs.DeviceLemmas.LaidOut.{written_there}
use Rattle.kfs_model.proofs.DeviceLemmas.ListedTables.{heads_back, names_back, placement_back}
use Rattle.kfs_model.proofs.DeviceLemmas.ListedRules.{rows_well_formed, rows_spelled}

module _ {K X : Type 0} (R : Order K) where
  find_among : (es : List (K × X)) (key : K) (value : X) → find R.compare key es ≡ Some value → Among (key, value) es
  find_among [] key value is = cc
  find_among (e ∷ es) key value is = at (R.compare key e.0) refl (find_among es key value) is
    where
      at : (o : Ordering) → R.compare key e.0 ≡ o → (find R.compare key es ≡ Some value → Among (key, value) es) → cond (is_eq o) (Some e.1) (find R.compare key es) ≡ Some value → Among (key, value) (e ∷ es)
      at Less tie rest is = inr (rest is)
      at Equal tie rest is = let keys = R.exact key e.0 tie in let values : value ≡ e.1 = cc in inl (λ i. (keys i, values i))
      at Greater tie rest is = inr (rest is)

-- ---- the bytes of one block

value_from : (f : ℕ → ℕ) (first count place : ℕ) → place < count → get_or (map f (numbers_from first count)) place 0 ≡ f (first + place)
value_from f first zero place less = absurd (omega arith)
value_from f first (suc count) zero less = ap f (omega arith)
value_from f first (suc count) (suc place) less = value_from f (first + 1) count place (omega arith) ∙ ap f (omega arith)

value_at : (f : ℕ → ℕ) (count place : ℕ) → place < count → get_or (map f (below count)) place 0 ≡ f place
value_at f count place less = value_from f 0 count place less ∙ ap f (omega arith)

byte_of_block : (devices : Devices) (place : Place) (offset : ℕ) → offset < 4096 → get_or (block_bytes devices place) offset 0 ≡ byte_on devices place offset
unfolding block_bytes
byte_of_block devices place offset less = value_at (byte_on devices place) 4096 offset less

byte_of_cut : (bytes : List ℕ) (offset : ℕ) → offset < 4096 → get_or (take 4096 (drop (0 * 4096) bytes)) offset 0 ≡ get_or bytes offset 0
byte_of_cut bytes offset less = get_or-take 4096 (drop (0 * 4096) bytes) offset 0 less ∙ get_or-drop (0 * 4096) bytes offset 0 ∙ ap (λ n. get_or bytes n 0) (omega arith)

within_block : (position : ℕ) → position % 4096 < 4096
within_block position = omega arith

module _ (image : DeviceImage) (lawful : IsLawful image) where
  -- what stands at the place of a mapped block
  block_back : (key : ℕ × ℕ) (place : Place) → get image.placement key ≡ Some place → get (devices_of (rows_of image)) (place.tier, place.place) ≡ Some (take 4096 (drop (0 * 4096) (block_bytes image.devices place)))
  unfolding get
  block_back key place is =
      let row = extent_row image.devices (key, place) in
      let among = among_map (extent_row image.devices) image.placement.entries (key, place) (find_among (pairs numbers numbers) image.placement.entries key place is) in
      let there = written_there (rows_of image) (rows_well_formed image lawful) row 0 among (omega arith) in
      let plus : place.place + 0 ≡ place.place = omega arith in
      subst (λ n. get (devices_of (rows_of image)) (place.tier, n) ≡ Some (take 4096 (drop (0 * 4096) (block_bytes image.devices place)))) plus there

  byte_back : (number position : ℕ) → file_byte image.placement (devices_of (rows_of image)) number position ≡ file_byte image.placement image.devices number position
  byte_back number position = at (get image.placement (number, position / 4096)) refl
    where
      at : (o : Option Place) → get image.placement (number, position / 4096) ≡ o
          → ◌≡◌ {A = ℕ} (elim o [ None ↦ 0 | Some place ↦ byte_on (devices_of (rows_of image)) place (position % 4096) ]) (elim o [ None ↦ 0 | Some place ↦ byte_on image.devices place (position % 4096) ])
      at None is = refl
      at (Some place) is =
          ap (λ (o : Option (List ℕ)). elim o as (λ _. ℕ) [ None ↦ 0 | Some bytes ↦ get_or bytes (position % 4096) 0 ]) (block_back (number, position / 4096) place is)
          ∙ byte_of_cut (block_bytes image.devices place) (position % 4096) (within_block position)
          ∙ byte_of_block image.devices place (position % 4096) (within_block position)

  same_map : (f g : ℕ → ℕ) → ((n : ℕ) → f n ≡ g n) → (ns : List ℕ) → map f ns ≡ map g ns
  same_map f g same [] = refl
  same_map f g same (n ∷ ns) = λ i. same n i ∷ same_map f g same ns i

  bytes_back : (number size : ℕ) → file_bytes (placement_of (rows_of image)) (devices_of (rows_of image)) number size ≡ file_bytes image.placement image.devices number size
  bytes_back number size =
      ap (λ placement. file_bytes placement (devices_of (rows_of image)) number size) (placement_back image)
      ∙ same_map (file_byte image.placement (devices_of (rows_of image)) number) (file_byte image.placement image.devices number) (byte_back number) (below size)

  body_back : (number : ℕ) (kind : Kind) (size : ℕ) → body_over (file_bytes (placement_of (rows_of image)) (devices_of (rows_of image))) number kind size ≡ body_over (file_bytes image.placement image.devices) number kind size
  body_back number File size = ap FileBody (bytes_back number size)
  body_back number Directory size = refl

  node_back : (number : ℕ) (h : Header) → node_over (file_bytes (placement_of (rows_of image)) (devices_of (rows_of image))) number h ≡ node_over (file_bytes image.placement image.devices) number h
  node_back number h = λ i. record { mode = h.mode; uid = h.uid; gid = h.gid; body = body_back number h.kind h.size i }

  nodes_back : (shown_tree (image_of (rows_of image))).nodes ≡ (shown_tree image).nodes
  nodes_back = same_table _ _ each
    where
      at : (number : ℕ) (o : Option Header) → option_map (node_over (file_bytes (placement_of (rows_of image)) (devices_of (rows_of image))) number) o ≡ option_map (node_over (file_bytes image.placement image.devices) number) o
      at number None = refl
      at number (Some h) = ap Some (node_back number h)

      each : (number : ℕ) → get (shown_tree (image_of (rows_of image))).nodes number ≡ get (shown_tree image).nodes number
      each number =
          get-mapped (node_over (file_bytes (placement_of (rows_of image)) (devices_of (rows_of image)))) (image_of (rows_of image)).heads number
          ∙ ap (λ (heads : Table numbers Header). option_map (node_over (file_bytes (placement_of (rows_of image)) (devices_of (rows_of image))) number) (get heads number)) (heads_back image)
          ∙ at number (get image.heads number)
          ∙ sym (get-mapped (node_over (file_bytes image.placement image.devices)) image.heads number)

  tree_back : shown_tree (image_of (rows_of image)) ≡ shown_tree image
  tree_back = λ i. record { nodes = nodes_back i; names = names_back image i }

  pub rows_are : AreRowsOfImage image (rows_of image)
  rows_are = record {
    spelled = rows_spelled image lawful;
    well_formed = rows_well_formed image lawful;
    heads = heads_back image;
    names = names_back image;
    placement = placement_back image;
    tree = tree_back;
  }
