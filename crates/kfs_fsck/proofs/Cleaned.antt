-- A lawful image whose blocks have zero bytes past the ends of their files: it shows the same tree, and its rows are those that the tree and the placement say.
use Rattle.std.proofs.Common.{◌≡◌, ℕ, zero, suc, ◌+◌, ◌-◌, ◌*◌, ◌/◌, ◌%◌, ◌<◌, List, [], ◌∷◌, ◌++◌, length, map, take, drop, replicate, get_or, inl, inr, Option, Some, None, option_map, refl, sym, ap, subst, ◌∙◌, arith}
use Rattle.std.proofs.lemmas.List.{get_or-take, get_or-drop, length-take, length-append, length-replicate}
use Rattle.std.proofs.lemmas.Option.{slice_get-get_or}
use Rattle.kfs_model.specs.Header.{Kind, File, Directory, Header}
use Rattle.kfs_model.specs.Table.{Order, Table, numbers, pairs, get}
use Rattle.kfs_model.proofs.TableLaws.{same_table, same_entries_table, get-mapped}
use Rattle.kfs_model.specs.Tree.{Tree, FileBody, body_over, node_over, content_of}
use Rattle.kfs_model.specs.Soundness.{IsSoundOver}
use Rattle.kfs_model.specs.Placement.{Place, Placement, tier_size, numbers_from}
use Rattle.kfs_model.specs.Device.Device.{Devices, AreBlocks, byte_on}
use Rattle.kfs_model.specs.Device.ShownTree.{DeviceImage, IsLawful, file_byte, file_bytes, shown_tree}
use Rattle.kfs_model.specs.Device.RawImage.{table_of}
use Rattle.kfs_model.specs.Device.Listed.{block_bytes, extent_row}
use Rattle.kfs_model.specs.Device.Canonical.{block_of, block_extent}
use Rattle.kfs_model.proofs.DeviceLemmas.Among.{Among, among_map, from_map}
use Rattle.kfs_model.proofs.DeviceLemmas.RowTables.{get_among, among_get, sorted_entries}
use Rattle.kfs_model.proofs.DeviceLemmas.ShownHeads.{bytes_shown, length-file_bytes}
use Rattle.kfs_image.proofs.RawLemmas.Inserted.{sorted_has_each}
use Rattle.kfs_fsck.proofs.JoinedPlaces.{alike_below}

-- ---- entries of tables

module _ {K X : Type 0} (R : Order K) (t : Table R X) where
  same_again : table_of R t.entries ≡ t
  same_again = same_entries_table _ t (sorted_entries R t.entries t.sorted)

  entry_among : (key : K) (value : X) → get t key ≡ Some value → Among (key, value) t.entries
  entry_among key value is = get_among R t.entries key value (ap (λ (t : Table R X). get t key) same_again ∙ is)

  among_entry : (key : K) (value : X) → Among (key, value) t.entries → get t key ≡ Some value
  among_entry key value among = sym (ap (λ (t : Table R X). get t key) same_again) ∙ sorted_has_each R t.entries t.sorted key value among

-- ---- bytes of blocks

abbrev zeros : ℕ → List ℕ
zeros count = replicate count 0

zeros_give_zero : (count k : ℕ) → ◌≡◌ {A = ℕ} (get_or (zeros count) k 0) 0
zeros_give_zero zero k = refl
zeros_give_zero (suc count) zero = refl
zeros_give_zero (suc count) (suc k) = zeros_give_zero count k

before_zeros : (xs : List ℕ) (count k : ℕ) → get_or (xs ++ zeros count) k 0 ≡ get_or xs k 0
before_zeros [] count k = zeros_give_zero count k
before_zeros (x ∷ xs) count zero = refl
before_zeros (x ∷ xs) count (suc k) = before_zeros xs count k

length-block_of : (content : List ℕ) (block : ℕ) → length (block_of content block) ≡ 4096
length-block_of content block =
    let cut = take 4096 (drop (block * 4096) content) in
    let few = length-take 4096 (drop (block * 4096) content) in
    let all = length-append cut (zeros (4096 - length cut)) in
    let more : length (zeros (4096 - length cut)) ≡ 4096 - length cut = length-replicate {A = ℕ} (4096 - length cut) 0 in
    grind (arith, few, all, more)

byte_of_block : (content : List ℕ) (position : ℕ) → get_or (block_of content (position / 4096)) (position % 4096) 0 ≡ get_or content position 0
byte_of_block content position =
    let block = position / 4096 in
    let cut = take 4096 (drop (block * 4096) content) in
    let whole : block * 4096 + position % 4096 ≡ position = omega arith in
    before_zeros cut (4096 - length cut) (position % 4096)
    ∙ get_or-take 4096 (drop (block * 4096) content) (position % 4096) 0 (omega arith)
    ∙ get_or-drop (block * 4096) content (position % 4096) 0
    ∙ ap (λ n. get_or content n 0) whole

-- a list is made again of what stands at each of its places
listed_again : (f : ℕ → ℕ) (first : ℕ) (bytes : List ℕ) → ((k : ℕ) → k < length bytes → f (first + k) ≡ get_or bytes k 0) → map f (numbers_from first (length bytes)) ≡ bytes
listed_again f first [] each = refl
listed_again f first (byte ∷ bytes) each =
    let here : first ≡ first + 0 = omega arith in
    let head : f first ≡ byte = ap f here ∙ each 0 (omega arith) in
    let rest = listed_again f (first + 1) bytes (λ k less. let same : first + 1 + k ≡ first + suc k = omega arith in ap f same ∙ each (suc k) (omega (arith, less))) in
    λ i. head i ∷ rest i

byte_shown : (placement : Placement) (devices : Devices) (number size position : ℕ) → position < size → get_or (file_bytes placement devices number size) position 0 ≡ file_byte placement devices number position
byte_shown placement devices number size position less =
    let there = (bytes_shown placement devices number size).each position less in
    let within : position < length (file_bytes placement devices number size) = let long = length-file_bytes placement devices number size in omega (arith, less, long) in
    ap (λ o. elim o as (λ _. ℕ) [ None ↦ 0 | Some byte ↦ byte ]) (sym (slice_get-get_or (file_bytes placement devices number size) position 0 within) ∙ there)

module _ (image : DeviceImage) (lawful : IsLawful image) where
  abbrev tree : Tree ℕ
  tree = shown_tree image

  abbrev content : ℕ → List ℕ
  content number = content_of (get tree.nodes number)

  -- the place of an entry, and its block with zero bytes past the file's end
  abbrev written : (ℕ × ℕ) × Place → (ℕ × ℕ) × List ℕ
  written e = ((e.1.tier, e.1.place), block_of (content e.0.0) e.0.1)

  abbrev pub cleaned : Devices
  cleaned = table_of (pairs numbers numbers) (map written image.placement.entries)

  written_there : (e : (ℕ × ℕ) × Place) → Among e image.placement.entries → get cleaned (e.1.tier, e.1.place) ≡ Some (block_of (content e.0.0) e.0.1)
  written_there e listed =
      among_get (pairs numbers numbers) (map written image.placement.entries) (written e).0 (written e).1 (among_map written image.placement.entries e listed) one
    where
      one : (other : List ℕ) → Among ((e.1.tier, e.1.place), other) (map written image.placement.entries) → other ≡ block_of (content e.0.0) e.0.1
      one other there =
          let (same, also, is) = from_map written image.placement.entries ((e.1.tier, e.1.place), other) there in
          let keys : (e.1.tier, e.1.place) ≡ (same.1.tier, same.1.place) = ap (λ (x : (ℕ × ℕ) × List ℕ). x.0) is in
          let place : same.1 ≡ e.1 = λ i. record { tier = (sym keys i).0; place = (sym keys i).1 } in
          let block = lawful.placed.laid.apart same.0 e.0 e.1 (among_entry (pairs numbers numbers) image.placement same.0 same.1 also ∙ ap Some place) (among_entry (pairs numbers numbers) image.placement e.0 e.1 listed) in
          ap (λ (x : (ℕ × ℕ) × List ℕ). x.1) is ∙ ap (λ (key : ℕ × ℕ). block_of (content key.0) key.1) block

  cleaned_at : (key : ℕ × ℕ) (place : Place) → get image.placement key ≡ Some place → get cleaned (place.tier, place.place) ≡ Some (block_of (content key.0) key.1)
  cleaned_at key place is = written_there (key, place) (entry_among (pairs numbers numbers) image.placement key place is)

  cleaned_blocks : AreBlocks image.sizes cleaned
  cleaned_blocks = record {
    in_tier = λ tier place bytes is.
        let (e, listed, same) = from_map written image.placement.entries ((tier, place), bytes) (get_among (pairs numbers numbers) (map written image.placement.entries) (tier, place) bytes is) in
        subst (λ (x : (ℕ × ℕ) × List ℕ). x.0.1 < tier_size image.sizes x.0.0) (sym same) (lawful.placed.laid.in_tier e.0 e.1 (among_entry (pairs numbers numbers) image.placement e.0 e.1 listed));
    full = λ tier place bytes is.
        let (e, listed, same) = from_map written image.placement.entries ((tier, place), bytes) (get_among (pairs numbers numbers) (map written image.placement.entries) (tier, place) bytes is) in
        ap (λ (x : (ℕ × ℕ) × List ℕ). length x.1) same ∙ length-block_of (content e.0.0) e.0.1;
  }

  -- ---- the same tree

  content_is : (number : ℕ) (h : Header) → get image.heads number ≡ Some h → h.kind ≡ File → content number ≡ file_bytes image.placement image.devices number h.size
  content_is number h is kind =
      ap content_of (get-mapped (node_over (file_bytes image.placement image.devices)) image.heads number ∙ ap (option_map (node_over (file_bytes image.placement image.devices) number)) is)
      ∙ ap (λ k. content_of (Some (record { mode = h.mode; uid = h.uid; gid = h.gid; body = body_over (file_bytes image.placement image.devices) number k h.size }))) kind

  byte_same : (number position : ℕ) (h : Header) → get image.heads number ≡ Some h → h.kind ≡ File → position < h.size → file_byte image.placement cleaned number position ≡ file_byte image.placement image.devices number position
  byte_same number position h is kind less = at (get image.placement (number, position / 4096)) refl
    where
      at : (o : Option Place) → get image.placement (number, position / 4096) ≡ o
          → ◌≡◌ {A = ℕ} (elim o [ None ↦ 0 | Some place ↦ byte_on cleaned place (position % 4096) ]) (file_byte image.placement image.devices number position)
      at None there = sym (ap (λ (o : Option Place). elim o as (λ _. ℕ) [ None ↦ 0 | Some place ↦ byte_on image.devices place (position % 4096) ]) there)
      at (Some place) there =
          ap (λ (o : Option (List ℕ)). elim o as (λ _. ℕ) [ None ↦ 0 | Some bytes ↦ get_or bytes (position % 4096) 0 ]) (cleaned_at (number, position / 4096) place there)
          ∙ byte_of_block (content number) position
          ∙ ap (λ bytes. get_or bytes position 0) (content_is number h is kind)
          ∙ byte_shown image.placement image.devices number h.size position less

  body_same : (number : ℕ) (h : Header) → get image.heads number ≡ Some h → (kind : Kind) → h.kind ≡ kind → body_over (file_bytes image.placement cleaned) number kind h.size ≡ body_over (file_bytes image.placement image.devices) number kind h.size
  body_same number h is File kind =
      ap FileBody (alike_below (file_byte image.placement cleaned number) (file_byte image.placement image.devices number) 0 h.size (λ position least less. byte_same number position h is kind (omega (arith, less))))
  body_same number h is Directory kind = refl

  nodes_same : (shown_tree (record image { devices = cleaned })).nodes ≡ tree.nodes
  nodes_same = same_table _ _ (λ number.
      get-mapped (node_over (file_bytes image.placement cleaned)) image.heads number
      ∙ at number (get image.heads number) refl
      ∙ sym (get-mapped (node_over (file_bytes image.placement image.devices)) image.heads number))
    where
      at : (number : ℕ) (o : Option Header) → get image.heads number ≡ o → option_map (node_over (file_bytes image.placement cleaned) number) o ≡ option_map (node_over (file_bytes image.placement image.devices) number) o
      at number None is = refl
      at number (Some h) is = λ i. Some (record { mode = h.mode; uid = h.uid; gid = h.gid; body = body_same number h is h.kind refl i })

  pub cleaned_tree : shown_tree (record image { devices = cleaned }) ≡ tree
  cleaned_tree = λ i. record { nodes = nodes_same i; names = image.names }

  pub cleaned_lawful : IsLawful (record image { devices = cleaned })
  cleaned_lawful = record { sizes = lawful.sizes; tree = subst (IsSoundOver image.heads) (sym cleaned_tree) lawful.tree; placed = lawful.placed; blocks = cleaned_blocks }

  -- ---- the same rows

  bytes_same : (e : (ℕ × ℕ) × Place) → Among e image.placement.entries → block_bytes cleaned e.1 ≡ block_of (content e.0.0) e.0.1
  unfolding block_bytes
  bytes_same e listed =
      let bytes = block_of (content e.0.0) e.0.1 in
      ap (λ count. map (byte_on cleaned e.1) (numbers_from 0 count)) (sym (length-block_of (content e.0.0) e.0.1))
      ∙ listed_again (byte_on cleaned e.1) 0 bytes (λ k less.
      let zero_on : 0 + k ≡ k = omega arith in
      ap (byte_on cleaned e.1) zero_on ∙ ap (λ (o : Option (List ℕ)). elim o as (λ _. ℕ) [ None ↦ 0 | Some bytes ↦ get_or bytes k 0 ]) (written_there e listed))

  pub cleaned_extents : map (extent_row cleaned) image.placement.entries ≡ map (block_extent tree) image.placement.entries
  cleaned_extents = each image.placement.entries (λ e listed. listed)
    where
      each : (es : List ((ℕ × ℕ) × Place)) → ((e : (ℕ × ℕ) × Place) → Among e es → Among e image.placement.entries) → map (extent_row cleaned) es ≡ map (block_extent tree) es
      each [] all = refl
      each (e ∷ es) all =
          let bytes = bytes_same e (all e (inl refl)) in
          let rest = each es (λ other there. all other (inr there)) in
          λ i. record { number = e.0.0; block = e.0.1; tier = e.1.tier; place = e.1.place; count = 1; bytes = bytes i } ∷ rest i
