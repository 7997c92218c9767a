-- The rows of a log's net, at most two names and four nodes for each entry, and the files that grew, at
-- most four.
use Rattle.std.proofs.Common.{◌≡◌, ℕ, ◌*◌, ◌<◌, ◌≤◌, min, ◌||◌, nat_eq, Bool, true, false, List, [], ◌∷◌, ◌++◌, length, Option, Some, None, Ok, refl, sym, ap, subst, ◌∙◌, inr, arith, length-append, append_assoc, eq-eqb}
use Rattle.std.specs.List.{AllByRecursion, list_any, flat_map}
use Rattle.std.proofs.lemmas.List.Folds.{list_any-append}
use Rattle.std.proofs.lemmas.Bool.{or_right}
use Rattle.kfs_model.specs.Access.{Client}
use Rattle.kfs_model.specs.CleanStep.{Fits}
use Rattle.kfs_model.specs.Header.{Header}
use Rattle.kfs_model.specs.Entry.{Entry, Create, Write, Truncate, Link, Unlink, Rename, Chmod, Regroup}
use Rattle.kfs_model.specs.FirstWrong.{same_place}
use Rattle.kfs_model.specs.Limits.{size_limit}
use Rattle.kfs_model.specs.Plan.{AreDifferences, header_now, number_now}
use Rattle.kfs_model.specs.Run.{run, over_bytes}
use Rattle.kfs_model.specs.Sight.{ClientSight, sight}
use Rattle.kfs_model.specs.Table.{numbers}
use Rattle.kfs_model.specs.Tree.{Tree, name_order}
use Rattle.kfs_model.proofs.Exact.{numbers-exact, places-exact}
use Rattle.kfs_model.proofs.SeenRun.{bytes_faithful}
use Rattle.kfs_pieces.specs.declared.log.FileSize.{FileSize}
use Rattle.kfs_pieces.specs.RangeCounts.{grown_count}
use Rattle.kfs_pieces.specs.Sizes.{AreSizesBetween, SizesAscend, size_in}
use Rattle.kfs_plan_maker.specs.AskedLeases.{HoldsNamed, listed, numbers_named}
use Rattle.kfs_plan_maker.proofs.ChangedKeys.{entry_apart, entry_elsewhere, names_moved, run_keeps}
use Rattle.kfs_plan_maker.proofs.FewRows.{IsListedGrown, few_differences, few_grown, none_first, none_rest}
use Rattle.kfs_plan_maker.proofs.LeasedRuns.{NamesAreKnown, parts, still_known}

-- ---- how many keys there are

few_moved : (entry : Entry) → length (names_moved entry) ≤ 2
few_moved (Create d m n kind mode) = omega arith
few_moved (Write n offset payload) = omega arith
few_moved (Truncate n size) = omega arith
few_moved (Link n d m) = omega arith
few_moved (Unlink d m kind) = omega arith
few_moved (Rename d m e k) = omega arith
few_moved (Chmod n mode) = omega arith
few_moved (Regroup n group) = omega arith

few_listed : (o : Option ℕ) → length (listed o) ≤ 1
few_listed None = omega arith
few_listed (Some n) = omega arith

few_named : (name : ℕ → List ℕ → Option ℕ) (entry : Entry) → length (numbers_named name entry) ≤ 4
few_named name (Create d m n kind mode) = omega arith
few_named name (Write n offset payload) = omega arith
few_named name (Truncate n size) = omega arith
few_named name (Link n d m) = omega arith
few_named name (Unlink d m kind) = omega (arith, few_listed (name d m))
few_named name (Rename d m e k) = omega (arith, few_listed (name d m), few_listed (name e k), length-append (listed (name d m)) (listed (name e k)))
few_named name (Chmod n mode) = omega arith
few_named name (Regroup n group) = omega arith

few_in_all : {X : Type 0} (keys : Entry → List X) (most : ℕ) → ((entry : Entry) → length (keys entry) ≤ most) → (entries : List Entry) → length (flat_map keys entries) ≤ length entries * most
few_in_all keys most each [] = omega arith
few_in_all keys most each (entry ∷ entries) =
    omega (arith, each entry, few_in_all keys most each entries, length-append (keys entry) (flat_map keys entries))

-- ---- each entry's part of the keys

each_apart : {X : Type 0} (test : X → Bool) (keys : Entry → List X) (entries : List Entry) → list_any test (flat_map keys entries) ≡ false → AllByRecursion (λ entry. list_any test (keys entry) ≡ false) entries
each_apart test keys [] none = tt
each_apart test keys (entry ∷ entries) none =
    let both : (list_any test (keys entry) || list_any test (flat_map keys entries)) ≡ false = sym (list_any-append test (keys entry) (flat_map keys entries)) ∙ none in
    (none_first _ _ both, each_apart test keys entries (none_rest _ _ both))

among : List ℕ → ℕ → Bool
among all n = list_any (nat_eq n) all

-- the numbers of a list's back are among the list's
back_is_among : (front back : List ℕ) → AllByRecursion (λ n. among (front ++ back) n ≡ true) back
unfolding among
back_is_among front [] = tt
back_is_among front (n ∷ back) = (
  list_any-append (nat_eq n) front (n ∷ back) ∙ or_right _ _ (ap (λ b. b || list_any (nat_eq n) back) (eq-eqb n n refl)),
  subst (λ all. AllByRecursion (λ m. list_any (nat_eq m) all ≡ true) back) (append_assoc front (n ∷ []) back) (back_is_among (front ++ (n ∷ [])) back),
)

each_held : (held : ℕ → Bool) (name : ℕ → List ℕ → Option ℕ) (entries : List Entry) → AllByRecursion (λ n. held n ≡ true) (flat_map (numbers_named name) entries) → AllByRecursion (HoldsNamed held name) entries
each_held held name [] all = tt
each_held held name (entry ∷ entries) all =
    let both = parts (λ n. held n ≡ true) (numbers_named name entry) (flat_map (numbers_named name) entries) all in
    (both.0, each_held held name entries both.1)

-- ---- the rows

module _ (client : Client) (before : ClientSight) (t after : Tree ℕ) (entries : List Entry) (fits : Fits client t entries) (ran : run over_bytes client before t entries ≡ Ok after) where
  pub few_names : (rows : List ((ℕ × List ℕ) × ℕ)) → AreDifferences name_order number_now (λ key. (sight t).name key.0 key.1) (λ key. (sight after).name key.0 key.1) rows → length rows ≤ length entries * 2
  few_names rows differs =
      let keys = flat_map names_moved entries in
      let few = few_differences name_order same_place places-exact number_now (λ key. (sight t).name key.0 key.1) (λ key. (sight after).name key.0 key.1) rows keys differs (λ key apart.
      sym (run_keeps over_bytes bytes_faithful client fits.in_range before fits.version
      (λ now. now.name key.0 key.1) (λ now. Unit {0}) (λ entry. list_any (same_place key) (names_moved entry) ≡ false)
      (λ now entry known apart. entry_apart client key now entry apart) (λ now entry known apart. tt)
      0 [] t entries fits.sound fits.fitting tt (each_apart (same_place key) names_moved entries apart) after ran)) in
      omega (arith, few, few_in_all names_moved 2 few_moved entries)

  -- the numbers that the entries name
  abbrev keys : List ℕ
  keys = flat_map (numbers_named (sight t).name) entries

  -- the header of a node that no entry names stays
  head_kept : (n : ℕ) → among keys n ≡ false → (sight t).head n ≡ (sight after).head n
  unfolding among
  head_kept n free =
      let name = (sight t).name in
      let all : AllByRecursion (HoldsNamed (among keys) name) entries = each_held (among keys) name entries (back_is_among [] keys) in
      sym (run_keeps over_bytes bytes_faithful client fits.in_range before fits.version
      (λ now. now.head n) (NamesAreKnown client (sight t) (among keys)) (HoldsNamed (among keys) name)
      (λ now entry known named. entry_elsewhere client (sight t) (among keys) n free now entry known named)
      (λ now entry known named. still_known client (sight t) (among keys) now entry named known)
      0 [] t entries fits.sound fits.fitting (λ d m number is. inr is) all after ran)

  few_keys : length keys ≤ length entries * 4
  few_keys = few_in_all (numbers_named (sight t).name) 4 (few_named (sight t).name) entries

  pub few_nodes : (rows : List (ℕ × Option Header)) → AreDifferences numbers header_now (sight t).head (sight after).head rows → length rows ≤ length entries * 4
  unfolding among
  few_nodes rows differs = omega (arith, few_differences numbers nat_eq numbers-exact header_now (sight t).head (sight after).head rows keys differs head_kept, few_keys)

  -- a file that grew is one that an entry names
  each_grown : (sizes : List FileSize) → AllByRecursion (λ (s : FileSize). (s.before ≡ size_in (sight t) s.number) × (s.after ≡ min (size_in (sight after) s.number) size_limit)) sizes → AllByRecursion (IsListedGrown keys) sizes
  unfolding among
  each_grown [] all = tt
  each_grown (s ∷ ss) all = (λ grew. at grew (among keys s.number) refl, each_grown ss all.1)
    where
      at : s.before < s.after → (b : Bool) → among keys s.number ≡ b → b ≡ true
      at grew true is = refl
      at grew false free =
          let size : size_in (sight t) s.number ≡ size_in (sight after) s.number = ap {B = ℕ} (λ (head : Option Header). elim head [ None ↦ 0 | Some header ↦ header.size ]) (head_kept s.number free) in
          let first = all.0.0 in
          let last = all.0.1 in
          let never : ⊥ = omega (arith, grew, size, first, last) in
          absurd never

  pub few_files : (sizes : List FileSize) → SizesAscend 0 sizes → AreSizesBetween (sight t) (sight after) entries sizes → grown_count sizes ≤ length entries * 4
  few_files sizes ascend right = omega (arith, few_grown 0 sizes keys ascend (each_grown sizes right.own), few_keys)
