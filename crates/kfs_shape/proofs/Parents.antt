-- The directories of names, taken in one name row after another, are the parents.
use Rattle.std.proofs.Common.{◌≡◌, ℕ, ◌+◌, ◌<◌, ◌≤◌, ◌==◌, ◌&&◌, not, Bool, true, false, cond, All, List, [], ◌∷◌, length, ◌++◌, map, take, drop, replicate, get_or, find, Option, Some, None, option_map, refl, sym, ap, subst, ◌∙◌, arith, eqb-true, eq-eqb, leb-true}
use Rattle.std.specs.List.{AllByRecursion}
use Rattle.std.proofs.lemmas.Bool.{and_right, ne_eqb}
use Rattle.std.proofs.lemmas.List.{append-nil, drop_more, drop_all, get_or-replicate, length-replicate, take_all}
use Rattle.std.proofs.lemmas.List.Elements.{recursion_from_All, All-map}
use Rattle.std.proofs.lemmas.Option.{slice_get-get_or, slice_get_past}
use Rattle.kfs_model.specs.Table.{get, option_or}
use Rattle.kfs_model.specs.Sight.{is_directory, holder}
use Rattle.kfs_model.proofs.CleanIsAllowed.{right}
use Rattle.kfs_model.proofs.Heads.{has_parent}
use Rattle.kfs_model.specs.Plan.{keyed_name}
use Rattle.kfs_model.specs.Device.RawImage.{RawNode, RawImage, heads_of, names_of}
use Rattle.kfs_model.specs.Device.Rules.{with_previous, number_test, rule_1, rule_4, parent_of}
use Rattle.kfs_model.specs.Device.Finding.{least_failed}
use Rattle.kfs_model.proofs.DeviceLemmas.RulesHold.{AllHold}
use Rattle.kfs_model.proofs.DeviceLemmas.SoundImage.{some_directory, each_head}
use Rattle.kfs_image.specs.declared.codec.raw.RawNode.{RawNode as CodeRawNode}
use Rattle.kfs_image.specs.declared.codec.raw.RawImage.{RawImage as CodeRawImage}
use Rattle.kfs_image.specs.Codec.RawImages.{raw_node_of, raw_of}
use Rattle.kfs_shape.specs.declared.links.Link.{Link}
use Rattle.kfs_shape.specs.Climbs.{ancestor_at}
use Rattle.kfs_shape.specs.Links.{link_of, AreLinks}
use Rattle.kfs_shape.proofs.NameCounts.{all_hold, names_listed}

-- all of a list that was written through a slice
pub written : {X : Type 0} (len : ℕ) (new now items : List X) → now ≡ items → length now ≡ len → length new ≡ length now → take len (new ++ drop (length new) items) ≡ new
written len new now items same whole many =
    let all = ap length same in
    ap (λ xs. take len (new ++ xs)) (drop_all (length new) items (omega arith)) ∙ ap (take len) (append-nil new) ∙ take_all len new (omega arith)

pub only_none : (P : Option ℕ → Type 0) → ((n : ℕ) → P (Some n) → ⊥) → (o : Option ℕ) → P o → o ≡ None
only_none P none_there None is = refl
only_none P none_there (Some n) is = absurd (none_there n is)

abbrev no_way : Option ℕ
no_way = None

pub leads_nowhere : (many n : ℕ) → n < many → ancestor_at (replicate many None) n ≡ None
leads_nowhere many n within =
    let long : length (replicate many no_way) ≡ many = length-replicate many no_way in
    ap (λ o. elim o [ None ↦ None | Some up ↦ up ]) (slice_get-get_or {X = Option ℕ} (replicate many no_way) n no_way (omega arith)) ∙ get_or-replicate many n no_way no_way within

-- ---- numbers in range

pub nodes_in_range : (previous : Option RawNode) (rows : List RawNode) → AllHold (map number_test (with_previous previous rows)) → AllByRecursion (λ row. row.number ≤ 65536) rows
nodes_in_range previous [] hold = tt
nodes_in_range previous (row ∷ rows) hold = (leb-true row.number 65536 (right _ _ hold.0), nodes_in_range (Some row) rows hold.1)

-- ---- the first name that leads to a number

found_mapped : {X Y Z : Type 0} (test : Y → Bool) (f : X → Y) (g : Y → Z) (xs : List X) → option_map g (find test (map f xs)) ≡ option_map (λ x. g (f x)) (find (λ x. test (f x)) xs)
found_mapped test f g [] = refl
found_mapped test f g (x ∷ xs) = at (test (f x)) (found_mapped test f g xs)
  where
    at : (here : Bool) → option_map g (find test (map f xs)) ≡ option_map (λ x. g (f x)) (find (λ x. test (f x)) xs)
        → option_map g (cond here (Some (f x)) (find test (map f xs))) ≡ option_map (λ x. g (f x)) (cond here (Some x) (find (λ x. test (f x)) xs))
    at true rest = refl
    at false rest = rest

abbrev pub holder_in : List Link → (number : ℕ) → Option ℕ
holder_in links number = option_map (λ link. link.dir) (find (λ link. link.number == number) links)

holder_next : (link : Link) (links : List Link) (number : ℕ) → holder_in (link ∷ links) number ≡ cond (link.number == number) (Some link.dir) (holder_in links number)
holder_next link links number = at (link.number == number)
  where
    at : (here : Bool) → option_map (λ (link : Link). link.dir) (cond here (Some link) (find (λ link. link.number == number) links)) ≡ cond here (Some link.dir) (holder_in links number)
    at true = refl
    at false = refl

or_none : {X : Type 0} (o : Option X) → option_or o None ≡ o
or_none None = refl
or_none (Some x) = refl

or_again : {X : Type 0} (a b c : Option X) → option_or (option_or a b) c ≡ option_or a (option_or b c)
or_again None b c = refl
or_again (Some x) b c = refl

link_taken : (taken here directory : Bool) (up : ℕ) (later : Option ℕ) → (here ≡ true → taken ≡ directory) → option_or (cond (taken && here) (Some up) None) (cond directory later None) ≡ cond directory (cond here (Some up) later) None
link_taken taken false directory up later same = ap (λ b. option_or (cond b (Some up) None) (cond directory later None)) (and_right taken false refl)
link_taken true true true up later same = refl
link_taken false true false up later same = refl
link_taken true true false up later same = let both = same refl in cc
link_taken false true true up later same = let both = same refl in cc

module _ (raw : RawImage) where
  -- where a number is still to lead by the links from an index on
  abbrev pub left_to : List Link → (index number : ℕ) → Option ℕ
  left_to links index number = cond (is_directory (get (heads_of raw) number)) (holder_in (drop index links) number) None

  abbrev pub wanted : (number : ℕ) → Option ℕ
  wanted number = cond (number == 1) (Some 1) (parent_of raw number)

  holder_is : (links : List Link) → AreLinks links raw → least_failed (rule_4 raw) ≡ None → (number : ℕ) → holder (names_of raw) number ≡ holder_in links number
  holder_is links linked ascend number =
      ap (λ es. option_map (λ e. e.0.0) (find (λ e. e.1 == number) es)) (names_listed raw ascend)
      ∙ found_mapped (λ e. e.1 == number) keyed_name (λ e. e.0.0) raw.names
      ∙ sym (found_mapped (λ link. link.number == number) link_of (λ link. link.dir) raw.names)
      ∙ ap (λ links. holder_in links number) (sym linked)

  pub first_left : (links : List Link) → AreLinks links raw → least_failed (rule_4 raw) ≡ None → (number : ℕ) (empty first : Option ℕ) → empty ≡ None → first ≡ option_or empty (cond (1 == number) (Some 1) None)
      → option_or first (left_to links 0 number) ≡ wanted number
  first_left links linked ascend number empty first nowhere is =
      ap (λ o. option_or o (left_to links 0 number)) (is ∙ ap (λ o. option_or o (cond (1 == number) (Some 1) None)) nowhere)
      ∙ at (number == 1) refl
    where
      by_holder : (directory : Bool) → cond directory (holder_in links number) None ≡ cond (directory && true) (holder (names_of raw) number) None
      by_holder true = sym (holder_is links linked ascend number)
      by_holder false = refl

      at : (root : Bool) → (number == 1) ≡ root → option_or (cond (1 == number) (Some 1) None) (left_to links 0 number) ≡ cond root (Some 1) (cond (is_directory (get (heads_of raw) number) && not root) (holder (names_of raw) number) None)
      at true root = ap (λ b. option_or (cond b (Some 1) None) (left_to links 0 number)) (eq-eqb 1 number (sym (eqb-true number 1 root)))
      at false root =
          ap (λ b. option_or (cond b (Some 1) None) (left_to links 0 number)) (ne_eqb 1 number (λ same. let is = eq-eqb number 1 (sym same) in cc))
          ∙ by_holder (is_directory (get (heads_of raw) number))

  pub next_left : (links : List Link) (index : ℕ) (link : Link) → index < length links → link ≡ get_or links index link → (number : ℕ) (old new : Option ℕ) (taken : Bool)
      → taken ≡ is_directory (get (heads_of raw) link.number) → new ≡ option_or old (cond (taken && (link.number == number)) (Some link.dir) None)
      → option_or new (left_to links (index + 1) number) ≡ option_or old (left_to links index number)
  next_left links index link within is number old new taken as_head more =
      let directory = is_directory (get (heads_of raw) number) in
      let rest : left_to links index number ≡ cond directory (cond (link.number == number) (Some link.dir) (holder_in (drop (index + 1) links) number)) None =
      ap (λ xs. cond directory (holder_in xs number) None) (drop_more links index link within)
      ∙ ap (λ r. cond directory (holder_in (r ∷ drop (index + 1) links) number) None) (sym is)
      ∙ ap (λ o. cond directory o None) (holder_next link (drop (index + 1) links) number)
      in
      ap (λ o. option_or o (left_to links (index + 1) number)) more
      ∙ or_again old _ _
      ∙ ap (option_or old) (link_taken taken (link.number == number) directory link.dir (holder_in (drop (index + 1) links) number)
      (λ here. as_head ∙ ap (λ n. is_directory (get (heads_of raw) n)) (eqb-true link.number number here)))
      ∙ ap (option_or old) (sym rest)

  pub none_left : (links : List Link) (index number : ℕ) → length links ≤ index → (up : Option ℕ) → option_or up (left_to links index number) ≡ wanted number → up ≡ wanted number
  none_left links index number past up is =
      sym (or_none up)
      ∙ ap (option_or up) (sym (at (is_directory (get (heads_of raw) number))))
      ∙ is
    where
      at : (directory : Bool) → cond directory (holder_in (drop index links) number) None ≡ None
      at true = ap (λ xs. holder_in xs number) (drop_all index links past)
      at false = refl

  -- ---- numbers that are no node's

  module _ (in_range : least_failed (rule_1 raw) ≡ None) where
    pub parent_in_range : (k up : ℕ) → parent_of raw k ≡ Some up → k < 65537
    parent_in_range k up is =
        let (h, there, kind) = some_directory (get (heads_of raw) k) (has_parent (get (heads_of raw)) (names_of raw) k up is).0 in
        let few : k ≤ 65536 = each_head raw (λ number h. number ≤ 65536) (nodes_in_range None raw.nodes (all_hold (rule_1 raw) in_range)) k h there in
        omega arith

  pub nowhere : (ancestors : List (Option ℕ)) (many number : ℕ) → AllByRecursion (λ row. row.number < many) raw.nodes → 2 ≤ many → length ancestors ≡ many → many ≤ number → ancestor_at ancestors number ≡ wanted number
  nowhere ancestors many number below root long past =
      ap (λ o. elim o [ None ↦ None | Some up ↦ up ]) (slice_get_past ancestors number (omega arith))
      ∙ sym (ap (λ b. cond b (Some 1) (parent_of raw number)) (ne_eqb number 1 (λ same. absurd (omega arith))) ∙ at (parent_of raw number) refl)
    where
      at : (o : Option ℕ) → parent_of raw number ≡ o → parent_of raw number ≡ None
      at None is = is
      at (Some up) is =
          let (h, there, kind) = some_directory (get (heads_of raw) number) (has_parent (get (heads_of raw)) (names_of raw) number up is).0 in
          let low : number < many = each_head raw (λ number h. number < many) below number h there in
          absurd (omega arith)

-- rows with numbers below a bound, as rows of the definitions
pub all_below : {A : Type 0} (raw : CodeRawImage A) (many : ℕ) (rows : List CodeRawNode) → rows ≡ raw.nodes.items → All (λ row. row.number < many) rows → AllByRecursion (λ row. row.number < many) (raw_of raw).nodes
all_below raw many rows are below =
    recursion_from_All (λ (row : RawNode). row.number < many) (map raw_node_of raw.nodes.items)
    (All-map (λ (row : RawNode). row.number < many) raw_node_of raw.nodes.items (subst (All (λ row. row.number < many)) are below))
