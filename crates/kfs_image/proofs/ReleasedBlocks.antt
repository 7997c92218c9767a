-- The blocks that a landing leaves nowhere: those behind the ends of the files that its rows change, and those made zero.
use Rattle.std.proofs.Common.{◌≡◌, ℕ, suc, ◌+◌, ◌-◌, ◌*◌, ◌^◌, ◌<◌, ◌≤◌, ◌==◌, ◌&&◌, ◌||◌, not, nat_le, nat_lt, Bool, true, false, cond, ◌⊎◌, inl, inr, ⊎_elim, List, [], ◌∷◌, ◌++◌, length, map, min, drop, slice_index_or, append_assoc, append-nil, Option, Some, None, option_map, IsTrue, refl, sym, ap, ◌∙◌, arith, lt-ltb, ne_eqb}
use Rattle.std.proofs.Math.Bool.{or-false}
use Rattle.std.proofs.lemmas.Bool.{eqb-true}
use Rattle.std.proofs.lemmas.Bool.Decides.{nat_tests}
use Rattle.std.proofs.lemmas.List.{drop_all}
use Rattle.std.proofs.lemmas.List.Folds.{list_any-append}
use Rattle.std.specs.Cmp.{unsigned_tied}
use Rattle.std.specs.List.{list_any}
use Rattle.kfs_types.specs.declared.entry.Header.{Header as CodeHeader}
use Rattle.kfs_types.specs.declared.entry.Kind.{Kind as CodeKind}
use Rattle.kfs_types.specs.declared.entry.Kind.TheVariants as kinds
use Rattle.kfs_types.specs.declared.plan.NodeRow.{NodeRow}
use Rattle.kfs_types.specs.Views.{header_of}
use Rattle.kfs_model.specs.Header.{Kind, File, Directory, Header}
use Rattle.kfs_model.specs.Sight.{is_file}
use Rattle.kfs_model.specs.Table.{Table, numbers, get}
use Rattle.kfs_model.specs.Placement.{Place, Placement, block_count}
use Rattle.kfs_model.proofs.TableLaws.{same_table, get-retain}
use Rattle.kfs_model.specs.Device.ShownTree.{DeviceImage, IsLawful}
use Rattle.kfs_maps.specs.declared.pages.change.NumberEdit.{NumberEdit}
use Rattle.kfs_maps.specs.Pages.Edits.{edited, AreEdits}
use Rattle.kfs_image.specs.declared.blocks.fill.BlockRun.{BlockRun}
use Rattle.kfs_image.specs.Blocks.Fill.{is_in, is_in_one, less}
use Rattle.kfs_image_nodes.specs.Change.{reheaded}
use Rattle.kfs_image_nodes.specs.NodeEdits.{left_by, IsNumber}
use Rattle.kfs_image_nodes.proofs.NodeEdits.{get-reheaded, rows_left}
use Rattle.kfs_image.specs.Released.{AreReleased, behind}
use Rattle.kfs_image.specs.Net.{blocks_in, is_block, cut}

-- ---- one run after another

module _ (edits : List (NumberEdit CodeHeader)) (i : ℕ) where
  -- a step of the loop, and its end
  pub behind_one : (d : NumberEdit CodeHeader) (first : ℕ) (old new : List BlockRun) → i < length edits → new ≡ old ++ record { number = (slice_index_or edits i d).number; first = first; end = 2 ^ 32 - 1 } ∷ []
      → first ≡ min (blocks_in (option_map header_of (slice_index_or edits i d).value)) (2 ^ 32 - 1)
      → old ++ map behind (drop i edits) ≡ map behind edits
      → new ++ map behind (drop (i + 1) edits) ≡ map behind edits
  behind_one d first old new below added is so_far =
      let e : NumberEdit CodeHeader = slice_index_or edits i d in
      let later : List BlockRun = map behind (drop (i + 1) edits) in
      ap (λ runs. runs ++ later) added
      ∙ append_assoc old (record { number = e.number; first = first; end = 2 ^ 32 - 1 } ∷ []) later
      ∙ ap (λ n. old ++ record { number = e.number; first = n; end = 2 ^ 32 - 1 } ∷ later) is
      ∙ ap (λ rest. old ++ map behind rest) (sym (rows_left edits i d below))
      ∙ so_far

  pub behind_all : (runs : List BlockRun) → length edits ≤ i → runs ++ map behind (drop i edits) ≡ map behind edits → runs ≡ map behind edits
  behind_all runs past so_far = sym (ap (λ rest. runs ++ map behind rest) (drop_all i edits past) ∙ append-nil runs) ∙ so_far

-- ---- headers

-- each header is that of a header of the code
code_of : (there : Option Header) → (code : Option CodeHeader) × (option_map header_of code ≡ there)
code_of None = (None, refl)
code_of (Some h) = by h.kind
  where
    with_kind : Kind → Header
    with_kind kind = record h { kind = kind }

    code_with : CodeKind → CodeHeader
    code_with kind = record { kind = kind; mode = h.mode; uid = h.uid; gid = h.gid; links = h.links; size = h.size }

    by : (kind : Kind) → (code : Option CodeHeader) × (option_map header_of code ≡ Some (with_kind kind))
    by File = (Some (code_with kinds.File), refl)
    by Directory = (Some (code_with kinds.Directory), refl)

-- ---- what the edits say of a number

abbrev Ascend : List (NumberEdit CodeHeader) → Type 0
Ascend edits = (i j : ℕ) (d : NumberEdit CodeHeader) → i < j → j < length edits → (slice_index_or edits i d).number < (slice_index_or edits j d).number

module _ (q : ℕ) (test : Option CodeHeader → Bool) where
  -- the edit is of the number, and its value passes the test
  abbrev passes : NumberEdit CodeHeader → Bool
  passes e = (q == e.number) && test e.value

  -- an edit puts a value there, and one of the edits passes just where that does
  abbrev Puts : List (NumberEdit CodeHeader) → Type 0
  Puts edits = (v : Option CodeHeader) × ((there : Option CodeHeader) → edited edits q there ≡ v) × (list_any passes edits ≡ test v)

  -- the edits leave what is there, and none passes
  abbrev Leaves : List (NumberEdit CodeHeader) → Type 0
  Leaves edits = ((there : Option CodeHeader) → edited edits q there ≡ there) × (list_any passes edits ≡ false)

  -- an edit of another number changes nothing
  beside : (e : NumberEdit CodeHeader) (es : List (NumberEdit CodeHeader)) → (q == e.number) ≡ false → ((there : Option CodeHeader) → edited (e ∷ es) q there ≡ edited es q there) × (list_any passes (e ∷ es) ≡ list_any passes es)
  beside e es other =
      ((λ there. ap (λ b. edited es q (cond b e.value there)) (unsigned_tied q e.number ∙ other)), ap (λ b. (b && test e.value) || list_any passes es) other)

  -- nor do edits of higher numbers
  beyond : (edits : List (NumberEdit CodeHeader)) → ((j : ℕ) (d : NumberEdit CodeHeader) → j < length edits → q < (slice_index_or edits j d).number) → Leaves edits
  beyond [] above = ((λ there. refl), refl)
  beyond (e ∷ es) above =
      let first = above 0 e (omega arith) in
      let step = beside e es (ne_eqb q e.number (λ same. absurd (omega (arith, first, same)))) in
      let rest = beyond es (λ j d below. above (suc j) d (omega (arith, below))) in
      ((λ there. step.0 there ∙ rest.0 there), step.1 ∙ rest.1)

  puts_or_leaves : (edits : List (NumberEdit CodeHeader)) → Ascend edits → Puts edits ⊎ Leaves edits
  puts_or_leaves [] ascend = inr ((λ there. refl), refl)
  puts_or_leaves (e ∷ es) ascend = by (puts_or_leaves es (λ i j d less below. ascend (suc i) (suc j) d (omega (arith, less)) (omega (arith, below)))) (q == e.number) refl
    where
      by : Puts es ⊎ Leaves es → (b : Bool) → (q == e.number) ≡ b → Puts (e ∷ es) ⊎ Leaves (e ∷ es)
      by rest true same =
          let is : q ≡ e.number = eqb-true q e.number same in
          let later = beyond es (λ j d below. let above = ascend 0 (suc j) d (omega arith) (omega (arith, below)) in omega (arith, is, above)) in
          inl (e.value, (λ there. ap (λ b. edited es q (cond b e.value there)) (unsigned_tied q e.number ∙ same) ∙ later.0 e.value), ap (λ b. (b && test e.value) || list_any passes es) same ∙ ap (λ b. test e.value || b) later.1 ∙ or-false (test e.value))
      by (inl puts) false other = let step = beside e es other in inl (puts.0, (λ there. step.0 there ∙ puts.1 there), step.1 ∙ puts.2)
      by (inr leaves) false other = let step = beside e es other in inr ((λ there. step.0 there ∙ leaves.0 there), step.1 ∙ leaves.1)

-- ---- where blocks are

twice : (b : Bool) → not (not b) ≡ b
twice true = refl
twice false = refl

-- a block below the greatest number is behind the end just where it isn't below it
not_below : (count block last : ℕ) → block < last → (nat_le (min count last) block && nat_lt block last) ≡ not (nat_lt block count)
not_below count block last small = by (nat_lt block count) refl
  where
    by : (b : Bool) → nat_lt block count ≡ b → (nat_le (min count last) block && nat_lt block last) ≡ not b
    by true below = grind (arith, nat_tests)
    by false past = grind (arith, nat_tests)

any_behind : (block : ℕ × ℕ) (edits : List (NumberEdit CodeHeader)) → is_in_one (map behind edits) block ≡ list_any (λ e. is_in (behind e) block) edits
any_behind block [] = refl
any_behind block (e ∷ es) = ap (λ b. is_in (behind e) block || b) (any_behind block es)

-- a block that begins below a file's size is one of its blocks
file_below : (h : Header) (block : ℕ) → IsTrue (is_file (Some h)) → block * 4096 < h.size → nat_lt block (blocks_in (Some h)) ≡ true
file_below h block file begins = by (is_file (Some h)) file
  where
    by : (b : Bool) → IsTrue b → nat_lt block (cond b (block_count h.size) 0) ≡ true
    by true is = lt-ltb block (block_count h.size) (omega (arith, begins))
    by false is = cc

module _ (nodes : List NodeRow) (edits : List (NumberEdit CodeHeader)) (zero : List BlockRun) (are : AreEdits edits) (says : (q : ℕ) (there : Option CodeHeader) → IsNumber q → edited edits q there ≡ left_by nodes q there) where
  module _ (heads : Table numbers Header) (q : ℕ) (within : IsNumber q) (h : Header) (there : get heads q ≡ Some h) (block : ℕ) (small : block < 2 ^ 32 - 1) (file : IsTrue (is_file (Some h))) (begins : block * 4096 < h.size) where
    -- the edits' runs have a file's block just where it is none of a file afterwards
    behind_just : not (is_in_one (map behind edits) (q, block)) ≡ is_block (reheaded heads nodes) (q, block)
    behind_just = ap not (any_behind (q, block) edits) ∙ ⊎_elim puts leaves (puts_or_leaves q test edits are.ascend)
      where
        test : Option CodeHeader → Bool
        test v = nat_le (min (blocks_in (option_map header_of v)) (2 ^ 32 - 1)) block && nat_lt block (2 ^ 32 - 1)

        code : (c : Option CodeHeader) × (option_map header_of c ≡ Some h)
        code = code_of (Some h)

        after : get (reheaded heads nodes) q ≡ option_map header_of (edited edits q code.0)
        after = get-reheaded heads nodes q code.0 (there ∙ sym code.1) ∙ sym (ap (option_map header_of) (says q code.0 within))

        puts : Puts q test edits → not (list_any (passes q test) edits) ≡ is_block (reheaded heads nodes) (q, block)
        puts put =
            ap not (put.2 ∙ not_below (blocks_in (option_map header_of put.0)) block (2 ^ 32 - 1) small)
            ∙ twice (nat_lt block (blocks_in (option_map header_of put.0)))
            ∙ sym (ap (λ o. nat_lt block (blocks_in o)) (after ∙ ap (option_map header_of) (put.1 code.0)))

        leaves : Leaves q test edits → not (list_any (passes q test) edits) ≡ is_block (reheaded heads nodes) (q, block)
        leaves left =
            ap not left.1
            ∙ sym (file_below h block file begins)
            ∙ sym (ap (λ o. nat_lt block (blocks_in o)) (after ∙ ap (option_map header_of) (left.0 code.0) ∙ code.1))

  module _ (image : DeviceImage) (lawful : IsLawful image) where
    abbrev placement : Placement
    placement = image.placement

    abbrev after : Table numbers Header
    after = reheaded image.heads nodes

    -- so of each block that lies somewhere
    just : (block : ℕ × ℕ) (place : Place) → get placement block ≡ Some place → not (is_in_one (map behind edits) block) ≡ is_block after block
    just block place lies =
        let of_file = lawful.placed.of_files block.0 block.1 place lies in
        let begins = of_file.begins in
        let range = lawful.tree.sound.ranges block.0 of_file.header (ap (λ heads. get heads block.0) lawful.tree.counted ∙ of_file.shown) in
        let least = range.least in
        let greatest = range.greatest in
        let size = range.size in
        behind_just image.heads block.0 (least, omega (arith, greatest)) of_file.header of_file.shown block.1 (omega (arith, begins, size)) of_file.file begins

    same_slot : (block : ℕ × ℕ) → get (less (map behind edits ++ zero) placement) block ≡ get (cut after (less zero placement)) block
    same_slot block =
        get-retain (λ b. not (is_in_one (map behind edits ++ zero) b)) placement block
        ∙ ap (λ b. cond (not b) (get placement block) None) (list_any-append (λ run. is_in run block) (map behind edits) zero)
        ∙ by (get placement block) refl
        ∙ ap (λ slot. cond (is_block after block) slot None) (sym (get-retain (λ b. not (is_in_one zero b)) placement block))
        ∙ sym (get-retain (is_block after) (less zero placement) block)
      where
        none : (a b c : Bool) → ◌≡◌ {A = Option Place} (cond (not (a || b)) None None) (cond c (cond (not b) None None) None)
        none true true true = refl
        none true true false = refl
        none true false true = refl
        none true false false = refl
        none false true true = refl
        none false true false = refl
        none false false true = refl
        none false false false = refl

        some : (a b : Bool) (slot : Option Place) → cond (not (a || b)) slot None ≡ cond (not a) (cond (not b) slot None) None
        some true b slot = refl
        some false b slot = refl

        by : (slot : Option Place) → get placement block ≡ slot → cond (not (is_in_one (map behind edits) block || is_in_one zero block)) slot None ≡ cond (is_block after block) (cond (not (is_in_one zero block)) slot None) None
        by None lies = none (is_in_one (map behind edits) block) (is_in_one zero block) (is_block after block)
        by (Some place) lies =
            some (is_in_one (map behind edits) block) (is_in_one zero block) (Some place)
            ∙ ap (λ b. cond b (cond (not (is_in_one zero block)) (Some place) None) None) (just block place lies)

    same_after : less (map behind edits ++ zero) placement ≡ cut after (less zero placement)
    same_after = same_table (less (map behind edits ++ zero) placement) (cut after (less zero placement)) same_slot

-- The runs behind the edits of the rows, and those made zero, are the blocks that go.
pub released_are : (nodes : List NodeRow) (edits : List (NumberEdit CodeHeader)) (zero : List BlockRun) → AreEdits edits → ((q : ℕ) (there : Option CodeHeader) → IsNumber q → edited edits q there ≡ left_by nodes q there) → AreReleased nodes zero (map behind edits ++ zero)
released_are nodes edits zero are says image lawful = same_after nodes edits zero are says image lawful
