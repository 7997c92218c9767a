-- Parts of a file's bytes, filled up with zero bytes: two next to each other are one. And what is read of
-- a block.
use Rattle.std.proofs.Common.{◌≡◌, ℕ, ◌+◌, ◌-◌, ◌*◌, ◌<◌, min, nat_lt, Bool, true, false, List, [], ◌++◌, length, take, drop, replicate, Option, Some, None, option_map, refl, sym, ap, ◌∙◌, arith}
use Rattle.std.specs.declared.result.Result.{Result}
use Rattle.std.specs.Prelude.{Ok, Err, IfOk, OnErr, IsTrue, ◌↔◌}
use Rattle.std.proofs.lemmas.Bool.{ltb-true, ltb-false}
use Rattle.std.proofs.lemmas.List.{ext_get_or, get_or_append_left, get_or-append_right, get_or-replicate, get_or-take, get_or-drop, get_or_past, take_all, drop_all, length-append, length-take, length-replicate, drop-drop, drop-replicate}
use Rattle.std.proofs.Math.ListN.{get_or}
use Rattle.kfs_model.specs.Limits.{block_size}
use Rattle.kfs_model.specs.Header.{Header, Kind, File, Directory}
use Rattle.kfs_model.specs.Sight.{is_directory}
use Rattle.kfs_model.specs.Table.{get}
use Rattle.kfs_model.specs.Tree.{Node, content_of, node_over}
use Rattle.kfs_model.proofs.TableLaws.{get-mapped}
use Rattle.kfs_model.specs.Device.Canonical.{block_of}
use Rattle.kfs_model.specs.Device.ShownTree.{DeviceImage, file_bytes, shown_tree}
use Rattle.kfs_image.specs.declared.read.ReadFault.{ReadFault}
use Rattle.kfs_image.specs.declared.read.ReadFault.TheVariants as faults
use Rattle.kfs_image.specs.Read.{FileIsRead}
use Rattle.kfs_image.specs.Encode.Runs.{filled_to, part_of}

module _ (bytes : List ℕ) where
  -- so many bytes of the front, filled up
  abbrev front : ℕ → List ℕ
  front count = filled_to count (take count bytes)

  length-front : (count : ℕ) → length (front count) ≡ count
  length-front count =
      let taken = length-take count bytes in
      let whole = length-append (take count bytes) (replicate (count - length (take count bytes)) 0) in
      let zeros = length-replicate {A = ℕ} (count - length (take count bytes)) 0 in
      omega (arith, taken, whole, zeros)

  front_at : (count i : ℕ) → i < count → get_or (front count) i 0 ≡ get_or bytes i 0
  front_at count i less = at (nat_lt i (length (take count bytes))) refl
    where
      taken : length (take count bytes) ≡ min count (length bytes)
      taken = length-take count bytes

      at : (b : Bool) → nat_lt i (length (take count bytes)) ≡ b → get_or (front count) i 0 ≡ get_or bytes i 0
      at true is =
          get_or_append_left (take count bytes) (replicate (count - length (take count bytes)) 0) 0 i (ltb-true i (length (take count bytes)) is) ∙ get_or-take count bytes i 0 less
      at false is =
          let past = ltb-false i (length (take count bytes)) is in
          get_or-append_right (take count bytes) (replicate (count - length (take count bytes)) 0) (length (take count bytes)) i 0 refl past
          ∙ get_or-replicate (count - length (take count bytes)) (i - length (take count bytes)) 0 0 (omega (arith, past, less))
          ∙ sym (get_or_past bytes i 0 (omega (arith, past, less, taken)))

filled_both : (a b : ℕ) (bytes : List ℕ) → filled_to a (take a bytes) ++ filled_to b (take b (drop a bytes)) ≡ filled_to (a + b) (take (a + b) bytes)
filled_both a b bytes = ext_get_or 0 (front bytes a ++ front (drop a bytes) b) (front bytes (a + b)) same_length each
  where
    both_length : length (front bytes a ++ front (drop a bytes) b) ≡ a + b
    both_length =
        let one = length-front bytes a in
        let other = length-front (drop a bytes) b in
        let whole = length-append (front bytes a) (front (drop a bytes) b) in
        omega (arith, one, other, whole)

    same_length : length (front bytes a ++ front (drop a bytes) b) ≡ length (front bytes (a + b))
    same_length = both_length ∙ sym (length-front bytes (a + b))

    each : (i : ℕ) → i < length (front bytes a ++ front (drop a bytes) b) → get_or (front bytes a ++ front (drop a bytes) b) i 0 ≡ get_or (front bytes (a + b)) i 0
    each i less = at (nat_lt i a) refl ∙ sym (front_at bytes (a + b) i (omega (arith, less, both_length)))
      where
        at : (c : Bool) → nat_lt i a ≡ c → get_or (front bytes a ++ front (drop a bytes) b) i 0 ≡ get_or bytes i 0
        at true is =
            let within = ltb-true i a is in
            get_or_append_left (front bytes a) (front (drop a bytes) b) 0 i (omega (arith, within, length-front bytes a)) ∙ front_at bytes a i within
        at false is =
            let past = ltb-false i a is in
            get_or-append_right (front bytes a) (front (drop a bytes) b) a i 0 (length-front bytes a) past
            ∙ front_at (drop a bytes) b (i - a) (omega (arith, past, less, both_length))
            ∙ get_or-drop a bytes (i - a) 0
            ∙ ap (λ n. get_or bytes n 0) {x = a + (i - a)} {y = i} (omega (arith, past))

-- a part and the part behind it are one part
pub part_more : (content : List ℕ) (start count more : ℕ) → part_of content start count ++ part_of content (start + count) more ≡ part_of content start (count + more)
part_more content start count more =
    ap (λ rest. part_of content start count ++ filled_to more (take more rest)) (sym (drop-drop count start content)) ∙ filled_both count more (drop start content)

-- ---- reading a block

nothing_there : (start count : ℕ) → part_of [] start count ≡ replicate count 0
nothing_there start count =
    ap (filled_to count) (ap (take count) (drop_all start [] (omega arith)) ∙ take_all count [] (omega arith))
    ∙ ap (λ n. replicate n 0) {x = count - 0} {y = count} (omega arith)

module _ (image : DeviceImage) (number : ℕ) where
  content : List ℕ
  content = content_of (get (shown_tree image).nodes number)

  abbrev over : ℕ → Header → Node ℕ
  over = node_over (file_bytes image.placement image.devices)

  content_of_none : get image.heads number ≡ None → content ≡ []
  unfolding content
  content_of_none none = ap content_of (get-mapped over image.heads number ∙ ap (option_map (over number)) none)

  content_of_directory : IsTrue (is_directory (get image.heads number)) → content ≡ []
  unfolding content
  content_of_directory directory = ap content_of (get-mapped over image.heads number) ∙ by (get image.heads number) directory
    where
      by_kind : (h : Header) (kind : Kind) → IsTrue (is_directory (Some (record h { kind = kind }))) → content_of (Some (over number (record h { kind = kind }))) ≡ []
      by_kind h File is = cc
      by_kind h Directory is = refl

      by : (o : Option Header) → IsTrue (is_directory o) → content_of (option_map (over number) o) ≡ []
      by None is = cc
      by (Some h) is = by_kind h h.kind is

  -- what a read leaves of zero bytes is the block
  pub block_is_read : (block start : ℕ) (result : Result ℕ ReadFault) (old new : List ℕ) → start ≡ block * block_size → old ≡ replicate (length old) 0 → length old ≡ block_size
      → IfOk result (FileIsRead image number start old new) → ((result ≡ Err faults.NoSuchNode) ↔ (get image.heads number ≡ None)) → ((result ≡ Err faults.IsDirectory) ↔ IsTrue (is_directory (get image.heads number)))
      → OnErr result (new ≡ old) → new ≡ block_of (content_of (get (shown_tree image).nodes number)) block
  unfolding content
  block_is_read block start (Ok count) old new begins zero whole read no_node directory kept =
      let taken = take (length old) (drop start content) in
      read.bytes
      ∙ ap (λ rest. taken ++ rest) (ap (drop count) zero ∙ drop-replicate count (length old) 0 ∙ ap (λ n. replicate (length old - n) 0) read.count_is)
      ∙ (λ i. part_of content (begins i) (whole i))
  block_is_read block start (Err faults.NoSuchNode) old new begins zero whole read no_node directory kept =
      kept ∙ zero ∙ sym (nothing_there start (length old)) ∙ ap (λ bytes. part_of bytes start (length old)) (sym (content_of_none (no_node.0 refl))) ∙ (λ i. part_of content (begins i) (whole i))
  block_is_read block start (Err faults.IsDirectory) old new begins zero whole read no_node directory kept =
      kept ∙ zero ∙ sym (nothing_there start (length old)) ∙ ap (λ bytes. part_of bytes start (length old)) (sym (content_of_directory (directory.0 refl))) ∙ (λ i. part_of content (begins i) (whole i))

-- a list with zero bytes behind it
pub grown_by : (old grown : List ℕ) (len size : ℕ) → len ≡ length old → grown ≡ take (len + size) old ++ replicate (len + size - len) 0 → grown ≡ old ++ replicate size 0
grown_by old grown len size long is = is ∙ (λ i. take_all (len + size) old (omega (arith, long)) i ++ replicate (count i) 0)
  where
    count : len + size - len ≡ size
    count = omega arith
