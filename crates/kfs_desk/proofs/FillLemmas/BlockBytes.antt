-- The bytes of a block: as a read of the file leaves them, and all of them as one list.
use Rattle.std.proofs.Common.{◌≡◌, ℕ, zero, suc, ◌+◌, ◌-◌, ◌*◌, ◌<◌, ◌≤◌, ◌++◌, ◌↔◌, min, true, List, [], ◌∷◌, length, replicate, take, drop, map, Option, Some, None, Result, Ok, Err, option_map, refl, sym, ap, subst, ◌∙◌, ⊎_elim, arith}
use Rattle.std.specs.Prelude.{IsTrue, IfOk, OnErr}
use Rattle.std.specs.Result.{result_unwrap_or}
use Rattle.std.proofs.Math.ListN.{get_or, get_or-append}
use Rattle.std.proofs.lemmas.Bool.{cases_lt}
use Rattle.std.proofs.lemmas.List.{get_or-take, get_or-drop, get_or_past, take_at, get_or-append_right, length-take, length-drop}
use Rattle.std.proofs.lemmas.Option.{unwrap_or-slice_get}
use Rattle.kfs_model.specs.Header.{Kind, File, Directory, Header}
use Rattle.kfs_model.specs.Entry.{Entry}
use Rattle.kfs_model.specs.PlanRow.{Piece}
use Rattle.kfs_model.specs.Placement.{numbers_from, below}
use Rattle.kfs_model.specs.Run.{byte_at}
use Rattle.kfs_model.specs.Sight.{is_directory}
use Rattle.kfs_model.specs.Table.{get}
use Rattle.kfs_model.specs.Tree.{Tree, content_of, node_over}
use Rattle.kfs_model.proofs.TableLaws.{get-mapped}
use Rattle.kfs_model.specs.Device.ShownTree.{DeviceImage, file_bytes, shown_tree}
use Rattle.kfs_desk.specs.Fill.Bytes.{byte_over, ArePut, ArePutOnAny}
use Rattle.kfs_desk.specs.Fill.Fill.{byte_after}
use Rattle.kfs_image.specs.Read.{FileIsRead}
use Rattle.kfs_image.specs.declared.read.ReadFault.{ReadFault}
use Rattle.kfs_image.specs.declared.read.ReadFault.TheVariants as faults

-- ---- a list by a function of its places

pub listed_from : (f : ℕ → ℕ) (first : ℕ) (bytes : List ℕ) (count : ℕ) → length bytes ≡ count → ((k : ℕ) → k < count → get_or bytes k 0 ≡ f (first + k)) → bytes ≡ map f (numbers_from first count)
listed_from f first [] zero long each = refl
listed_from f first [] (suc count) long each = absurd (omega (arith, long))
listed_from f first (b ∷ bs) zero long each = absurd (omega (arith, long))
listed_from f first (b ∷ bs) (suc count) long each =
    let here : b ≡ f first = each 0 (omega arith) ∙ ap f (omega arith) in
    let later : bs ≡ map f (numbers_from (first + 1) count) = listed_from f (first + 1) bs count (omega (arith, long)) (λ k below. each (suc k) (omega (arith, below)) ∙ ap f (omega arith)) in
    λ i. here i ∷ later i

-- the bytes of a block are those that stood there, with the pieces put over them
pub block_is : (before : Tree ℕ) (entries : List Entry) (pieces : List Piece) (number block size start len : ℕ) (old new behind : List ℕ)
    → start ≡ block * size → length old ≡ size → length new ≡ size → len ≡ size
    → ((k : ℕ) → k < size → get_or old k 0 ≡ byte_at (content_of (get before.nodes number)) (start + k)) → ArePut entries pieces number start old new
    → take len (new ++ behind) ≡ map (λ k. byte_after before entries pieces number (block * size + k)) (below size)
block_is before entries pieces number block size start len old new behind begins old_long new_long whole stood put =
    take_at new behind len (new_long ∙ sym whole) ∙ listed_from (λ k. byte_after before entries pieces number (block * size + k)) 0 new size new_long each
  where
    each : (k : ℕ) → k < size → get_or new k 0 ≡ byte_after before entries pieces number (block * size + (0 + k))
    each k below =
        put before k (omega (arith, below, old_long))
        ∙ ap (byte_over before entries pieces number (start + k)) (stood k below)
        ∙ ap (byte_after before entries pieces number) (let same : start + k ≡ block * size + (0 + k) = omega (arith, begins) in same)

-- the bytes of a block that pieces cover are those of the pieces
pub covered_is : (before : Tree ℕ) (entries : List Entry) (pieces : List Piece) (number block size start : ℕ) (bytes : List ℕ)
    → start ≡ block * size → length bytes ≡ size → ArePutOnAny entries pieces number start bytes
    → bytes ≡ map (λ k. byte_after before entries pieces number (block * size + k)) (below size)
covered_is before entries pieces number block size start bytes begins long put = listed_from (λ k. byte_after before entries pieces number (block * size + k)) 0 bytes size long each
  where
    each : (k : ℕ) → k < size → get_or bytes k 0 ≡ byte_after before entries pieces number (block * size + (0 + k))
    each k below =
        put before k (byte_at (content_of (get before.nodes number)) (start + k)) (omega (arith, below, long))
        ∙ ap (byte_after before entries pieces number) (let same : start + k ≡ block * size + (0 + k) = omega (arith, begins) in same)

-- ---- what a read leaves in bytes, where those behind some place were zero

pub in_front : (len k byte : ℕ) (front rest : List ℕ) → k < len → k < length front → get_or front k 0 ≡ byte → get_or (take len (front ++ rest)) k 0 ≡ byte
in_front len k byte front rest taken inside is = get_or-take len (front ++ rest) k 0 taken ∙ get_or-append front rest 0 k inside ∙ is

zero_at : (n k : ℕ) → ◌≡◌ {A = ℕ} (get_or (replicate n 0) k 0) 0
zero_at zero k = refl
zero_at (suc n) zero = refl
zero_at (suc n) (suc k) = zero_at n k

-- what a list that is cut off or made longer with zeros has behind its old elements
pub zeros_behind : (n m held : ℕ) (memory items bytes : List ℕ) → held ≡ min (length memory) n → bytes ≡ items → items ≡ take n memory ++ replicate m 0
    → (k : ℕ) → held ≤ k → get_or bytes k 0 ≡ 0
zeros_behind n m held memory items bytes held_is same is k from =
    ap (λ b. get_or b k 0) (same ∙ is)
    ∙ get_or-append_right (take n memory) (replicate m 0) (length (take n memory)) k 0 refl (omega (arith, from, held_is, length-take n memory))
    ∙ zero_at m (k - length (take n memory))

module _ (image : DeviceImage) (number start : ℕ) where
  abbrev content : List ℕ
  content = content_of (get (shown_tree image).nodes number)

  node_is : get (shown_tree image).nodes number ≡ option_map (node_over (file_bytes image.placement image.devices) number) (get image.heads number)
  node_is = get-mapped (node_over (file_bytes image.placement image.devices)) image.heads number

  none_there : get image.heads number ≡ None → content ≡ []
  none_there none = ap content_of (node_is ∙ ap (option_map (node_over (file_bytes image.placement image.devices) number)) none)

  none_in_directory : IsTrue (is_directory (get image.heads number)) → content ≡ []
  none_in_directory is = ap content_of node_is ∙ at (get image.heads number) is
    where
      kinds : (h : Header) (kind : Kind) → is_directory (Some (record h { kind = kind })) ≡ true → content_of (Some (node_over (file_bytes image.placement image.devices) number (record h { kind = kind }))) ≡ []
      kinds h File is = cc
      kinds h Directory is = refl

      at : (o : Option Header) → is_directory o ≡ true → content_of (option_map (node_over (file_bytes image.placement image.devices) number) o) ≡ []
      at None is = refl
      at (Some h) is = kinds h h.kind is

  byte_is : (k : ℕ) → byte_at content (start + k) ≡ get_or content (start + k) 0
  byte_is k = unwrap_or-slice_get content (start + k) 0

  zero_past : (k : ℕ) → content ≡ [] → 0 ≡ byte_at content (start + k)
  zero_past k empty = sym (ap (λ bytes. byte_at bytes (start + k)) empty)

  -- `new` is what a read leaves of `old`, and `after` has zero in place of what wasn't read below `held`
  module _ (old new after : List ℕ) (held read : ℕ) (zeros : (k : ℕ) → held ≤ k → k < length old → get_or old k 0 ≡ 0)
      (front : (k : ℕ) → k < length old → k < read → get_or after k 0 ≡ get_or new k 0)
      (between : (k : ℕ) → k < length old → read ≤ k → k < held → get_or after k 0 ≡ 0)
      (behind : (k : ℕ) → k < length old → held ≤ k → get_or after k 0 ≡ get_or new k 0) where
    abbrev part : List ℕ
    part = take (length old) (drop start content)

    part_long : length part ≡ min (length old) (length content - start)
    part_long = length-take (length old) (drop start content) ∙ ap (min (length old)) (length-drop start content)

    -- what wasn't read is zero
    unread : ((k : ℕ) → read ≤ k → get_or new k 0 ≡ get_or old k 0) → (k : ℕ) → k < length old → read ≤ k → get_or after k 0 ≡ 0
    unread kept k below from =
        ⊎_elim (λ (less : k < held). between k below from less) (λ (more : held ≤ k). behind k below more ∙ kept k from ∙ zeros k more below) (cases_lt k held)

    kept_behind : FileIsRead image number start old new read → (k : ℕ) → read ≤ k → get_or new k 0 ≡ get_or old k 0
    kept_behind is k from =
        ap (λ bytes. get_or bytes k 0) is.bytes
        ∙ get_or-append_right part (drop read old) (length part) k 0 refl (omega (arith, from, is.count_is))
        ∙ get_or-drop read old (k - length part) 0
        ∙ ap (λ n. get_or old n 0) (let same : read + (k - length part) ≡ k = omega (arith, from, is.count_is) in same)

    read_there : FileIsRead image number start old new read → (k : ℕ) → k < length old → get_or after k 0 ≡ byte_at content (start + k)
    read_there is k below = ⊎_elim
        (λ (less : k < length part).
        front k below (omega (arith, less, is.count_is))
        ∙ ap (λ bytes. get_or bytes k 0) is.bytes
        ∙ get_or-append part (drop read old) 0 k less
        ∙ get_or-take (length old) (drop start content) k 0 below
        ∙ get_or-drop start content k 0
        ∙ sym (byte_is k))
        (λ (past : length part ≤ k).
        unread (kept_behind is) k below (omega (arith, past, is.count_is))
        ∙ sym (byte_is k ∙ get_or_past content (start + k) 0 (omega (arith, past, below, part_long))))
        (cases_lt k (length part))

    pub read_or_clear : (r : Result ℕ ReadFault) → read ≡ result_unwrap_or r 0 → IfOk r (FileIsRead image number start old new)
        → ((r ≡ Err faults.NoSuchNode) ↔ (get image.heads number ≡ None))
        → ((r ≡ Err faults.IsDirectory) ↔ IsTrue (is_directory (get image.heads number)))
        → OnErr r (new ≡ old)
        → (k : ℕ) → k < length old → get_or after k 0 ≡ byte_at content (start + k)
    read_or_clear (Ok count) is done no_node directory kept k below = read_there (subst (FileIsRead image number start old new) (sym is) done) k below
    read_or_clear (Err faults.NoSuchNode) is done no_node directory kept k below =
        unread (λ j from. ap (λ bytes. get_or bytes j 0) kept) k below (omega (arith, is)) ∙ zero_past k (none_there (no_node.0 refl))
    read_or_clear (Err faults.IsDirectory) is done no_node directory kept k below =
        unread (λ j from. ap (λ bytes. get_or bytes j 0) kept) k below (omega (arith, is)) ∙ zero_past k (none_in_directory (directory.0 refl))
