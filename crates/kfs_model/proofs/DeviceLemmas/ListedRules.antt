-- The rows of a lawful image meet the ten rules.
use Rattle.std.proofs.Common.{◌≡◌, ℕ, ◌+◌, ◌-◌, ◌*◌, ◌<◌, ◌≤◌, ◌^◌, ◌==◌, ◌&&◌, ◌||◌, true, List, [], ◌∷◌, length, count_by, Option, Some, None, option_map, is_some, IsTrue, refl, sym, ap, subst, ◌∙◌, ⊎_elim, arith, eq-eqb, ne_eqb, eqb-true, le-leb, lt-ltb, ltb-true}
use Rattle.std.specs.List.{AllByRecursion}
use Rattle.std.proofs.lemmas.Bool.{and_from, or_left, or_right, cases_eq, cases_lt, cond-true, cond-false, not_from_false}
use Rattle.kfs_model.specs.Header.{Kind, File, Directory, Header}
use Rattle.kfs_model.specs.Table.{Table, numbers, pairs, get}
use Rattle.kfs_model.proofs.TableLaws.{get-mapped}
use Rattle.kfs_model.specs.Tree.{NameTable, headers, node_header, links_of, size_of, name_order, name_count, body_over, node_over}
use Rattle.kfs_model.specs.Sight.{is_directory, is_file, parent_in}
use Rattle.kfs_model.specs.Soundness.{Climbs, AreSound}
use Rattle.kfs_model.specs.Spelling.{IsName}
use Rattle.kfs_model.specs.Placement.{TierSizes, Place, tier_size}
use Rattle.kfs_model.proofs.CleanIsAllowed.{left, right}
use Rattle.kfs_model.proofs.Heads.{get-headers}
use Rattle.kfs_model.specs.Device.Device.{Devices}
use Rattle.kfs_model.specs.Device.ShownTree.{DeviceImage, file_bytes, shown_tree, IsLawful}
use Rattle.kfs_model.specs.Device.RawImage.{RawImage, IsSpelled, heads_of, names_of}
use Rattle.kfs_model.specs.Device.Rules.{Test, rules, number_test, rule_1, rule_2, kind_fits, header_test, rule_3, directory_test, rule_4, target_test, rule_5, names_fit, names_test, rule_6, parent_of, reaches_root, climb_test, rule_7, overlap, share_block, share_place, ends_in_file, is_extent, extent_test, rule_8, tier_test, rule_9, place_test, rule_10}
use Rattle.kfs_model.specs.Device.Finding.{Finding, least_of, least_failed, finding_from, finding_of, IsWellFormed}
use Rattle.kfs_model.specs.Device.Listed.{block_bytes, raw_node, name_row, extent_row, rows_of}
use Rattle.kfs_model.proofs.DeviceLemmas.RulesHold.{AllHold}
use Rattle.kfs_model.proofs.DeviceLemmas.ShownHeads.{HeaderFits}
use Rattle.kfs_model.proofs.DeviceLemmas.ClimbTest.{reach_is_found}
use Rattle.kfs_model.proofs.DeviceLemmas.Entries.{each_entry, hold_each, each_row, hold_rising, few_rows}
use Rattle.kfs_model.proofs.DeviceLemmas.ListedTables.{heads_back, names_back}

-- ---- no finding

least_failed_none : (tests : List Test) → AllHold tests → least_failed tests ≡ None
least_failed_none [] hold = refl
least_failed_none (t ∷ ts) hold = cond-true t.holds (least_failed ts) (Some (least_of t.number (least_failed ts))) hold.0 ∙ least_failed_none ts hold.1

no_finding : (raw : RawImage) (es : List (ℕ × (RawImage → List Test))) → AllByRecursion (λ rule. AllHold (rule.1 raw)) es → finding_from raw es ≡ None
no_finding raw [] hold = refl
no_finding raw (rule ∷ rest) hold =
    ap (λ (o : Option ℕ). elim o as (λ _. Option Finding) [ None ↦ finding_from raw rest | Some number ↦ Some (record { rule = rule.0; number = number }) ]) (least_failed_none (rule.1 raw) hold.0)
    ∙ no_finding raw rest hold.1

pub length-block_bytes : (devices : Devices) (place : Place) → length (block_bytes devices place) ≡ 4096
unfolding block_bytes
length-block_bytes devices place = refl

same_start : (first other : ℕ) → overlap first 1 other 1 ≡ true → first ≡ other
same_start first other meet =
    let low : first < other + 1 = ltb-true first (other + 1) (left _ _ meet) in
    let high : other < first + 1 = ltb-true other (first + 1) (right _ _ meet) in
    omega arith

-- a tier with places is one of the three
tier_there : (sizes : TierSizes) (tier place : ℕ) → place < tier_size sizes tier → tier ≤ 2
tier_there sizes tier place less = ⊎_elim (λ past. absurd (none past)) (λ there. there) (cases_lt 2 tier)
  where
    empty : 2 < tier → tier_size sizes tier ≡ 0
    empty past =
        cond-false (tier == 0) sizes.first _ (ne_eqb tier 0 (λ e. absurd (omega arith)))
        ∙ cond-false (tier == 1) sizes.second _ (ne_eqb tier 1 (λ e. absurd (omega arith)))
        ∙ cond-false (tier == 2) sizes.third 0 (ne_eqb tier 2 (λ e. absurd (omega arith)))

    none : 2 < tier → ⊥
    none past = let nothing = empty past in omega arith

module _ (image : DeviceImage) (lawful : IsLawful image) where
  abbrev raw : RawImage
  raw = rows_of image

  abbrev head : ℕ → Option Header
  head = get image.heads

  sound : AreSound head image.names
  sound = subst (λ heads. AreSound (get heads) image.names) lawful.tree.counted lawful.tree.sound

  at_heads : (P : Table numbers Header → Type 0) → P image.heads → P (heads_of raw)
  at_heads P there = subst P (sym (heads_back image)) there

  at_names : (P : NameTable → Type 0) → P image.names → P (names_of raw)
  at_names P there = subst P (sym (names_back image)) there

  -- ---- headers

  own_header : (number : ℕ) (h : Header) → head number ≡ Some h → node_header image.names number (node_over (file_bytes image.placement image.devices) number h) ≡ h
  own_header number h is =
      let shown : get (headers (shown_tree image)) number ≡ Some (node_header image.names number (node_over (file_bytes image.placement image.devices) number h)) =
      get-headers (shown_tree image) number ∙ ap (option_map (node_header image.names number)) (get-mapped (node_over (file_bytes image.placement image.devices)) image.heads number ∙ ap (option_map (node_over (file_bytes image.placement image.devices) number)) is) in
      let counted : get (headers (shown_tree image)) number ≡ Some h = ap (λ (heads : Table numbers Header). get heads number) lawful.tree.counted ∙ is in
      cc

  fits : (number : ℕ) (h : Header) → head number ≡ Some h → HeaderFits image.names number h
  fits number h is = by h.kind refl (ap (λ (x : Header). x.links) own) (ap (λ (x : Header). x.size) own)
    where
      own : node_header image.names number (node_over (file_bytes image.placement image.devices) number h) ≡ h
      own = own_header number h is

      as_file : h.kind ≡ File → IsTrue (is_file (head number))
      as_file kind = ap is_file is ∙ ap (λ k. is_file (Some (record h { kind = k }))) kind

      as_directory : h.kind ≡ Directory → IsTrue (is_directory (head number))
      as_directory kind = ap is_directory is ∙ ap (λ k. is_directory (Some (record h { kind = k }))) kind

      root_or_named : h.kind ≡ Directory → ((number == 1) || (name_count image.names number == 1)) ≡ true
      root_or_named kind =
          ⊎_elim (λ root. or_left (number == 1) _ (eq-eqb number 1 root)) (λ other. or_right (number == 1) _ (eq-eqb (name_count image.names number) 1 (sound.directories number (as_directory kind) other))) (cases_eq number 1)

      by : (kind : Kind) → h.kind ≡ kind → links_of image.names number (body_over (file_bytes image.placement image.devices) number h.kind h.size) ≡ h.links
          → size_of (body_over (file_bytes image.placement image.devices) number h.kind h.size) ≡ h.size → HeaderFits image.names number h
      by File kind links size =
          let names = sound.files number (as_file kind) in
          let linked : name_count image.names number ≡ h.links = subst (λ k. links_of image.names number (body_over (file_bytes image.placement image.devices) number k h.size) ≡ h.links) kind links in
          record {
            as_kind = ap (λ k. kind_fits k h.links h.size) kind;
            as_named = ap (λ k. names_fit k number h.links (name_count image.names number)) kind
                ∙ and_from _ _ (and_from _ _ (le-leb 1 (name_count image.names number) names.0) (le-leb (name_count image.names number) 1024 names.1)) (eq-eqb h.links (name_count image.names number) (sym linked));
          }
      by Directory kind links size =
          let one : 1 ≡ h.links = subst (λ k. links_of image.names number (body_over (file_bytes image.placement image.devices) number k h.size) ≡ h.links) kind links in
          let none : 0 ≡ h.size = subst (λ k. size_of (body_over (file_bytes image.placement image.devices) number k h.size) ≡ h.size) kind size in
          record {
            as_kind = ap (λ k. kind_fits k h.links h.size) kind ∙ and_from _ _ (eq-eqb h.links 1 (sym one)) (eq-eqb h.size 0 (sym none));
            as_named = ap (λ k. names_fit k number h.links (name_count image.names number)) kind ∙ root_or_named kind;
          }

  -- ---- nodes and names

  in_range : AllByRecursion (λ e. (1 ≤ e.0) × (e.0 ≤ 65536)) image.heads.entries
  in_range = each_entry numbers (λ (e : ℕ × Header). (1 ≤ e.0) × (e.0 ≤ 65536)) image.heads (λ number h is. let range = sound.ranges number h is in (range.least, range.greatest))

  holds_1 : AllHold (rule_1 raw)
  holds_1 =
      hold_rising raw_node numbers (λ row. row.number) (λ e. refl) number_test (λ e. (1 ≤ e.0) × (e.0 ≤ 65536))
      (λ previous e above range. and_from _ _ (and_from _ _ above (le-leb 1 e.0 range.0)) (le-leb e.0 65536 range.1)) image.heads.entries image.heads.sorted in_range

  holds_2 : AllHold (rule_2 raw)
  holds_2 = (at_heads (λ heads. IsTrue (is_directory (get heads 1))) sound.root, tt)

  holds_3 : AllHold (rule_3 raw)
  holds_3 = hold_each raw_node (header_test 2) image.heads.entries (each_entry numbers (λ (e : ℕ × Header). (header_test 2 (raw_node e)).holds ≡ true) image.heads each)
    where
      each : (number : ℕ) (h : Header) → head number ≡ Some h → (header_test 2 (raw_node (number, h))).holds ≡ true
      each number h is = let range = sound.ranges number h is in and_from _ _ (and_from _ _ (le-leb h.mode 1023 range.mode) (le-leb h.size 4294967296 range.size)) (fits number h is).as_kind

  holds_4 : AllHold (rule_4 raw)
  holds_4 =
      hold_rising name_row name_order (λ row. (row.directory, row.name)) (λ e. refl) (directory_test (heads_of raw)) (λ e. IsTrue (is_directory (get (heads_of raw) e.0.0)))
      (λ previous e above there. and_from _ _ above there) image.names.entries image.names.sorted
      (each_entry name_order (λ (e : (ℕ × List ℕ) × ℕ). IsTrue (is_directory (get (heads_of raw) e.0.0))) image.names (λ key number is. at_heads (λ heads. IsTrue (is_directory (get heads key.0))) (sound.names_sound key.0 key.1 number is).holder))

  holds_5 : AllHold (rule_5 raw)
  holds_5 = hold_each name_row (target_test (heads_of raw)) image.names.entries (each_entry name_order (λ (e : (ℕ × List ℕ) × ℕ). (target_test (heads_of raw) (name_row e)).holds ≡ true) image.names each)
    where
      each : (key : ℕ × List ℕ) (number : ℕ) → get image.names key ≡ Some number → (target_test (heads_of raw) (name_row (key, number))).holds ≡ true
      each key number is =
          let name = sound.names_sound key.0 key.1 number is in
          and_from _ _ (at_heads (λ heads. is_some (get heads number) ≡ true) (ap is_some name.node.1)) (not_from_false (number == 1) (ne_eqb number 1 name.not_root))

  holds_6 : AllHold (rule_6 raw)
  holds_6 =
      hold_each raw_node (names_test (names_of raw)) image.heads.entries
      (each_entry numbers (λ (e : ℕ × Header). (names_test (names_of raw) (raw_node e)).holds ≡ true) image.heads
      (λ number h is. at_names (λ names. names_fit h.kind number h.links (name_count names number) ≡ true) (fits number h is).as_named))

  same_parents : parent_in head image.names ≡ parent_of raw
  same_parents = λ i. parent_in (get (sym (heads_back image) i)) (sym (names_back image) i)

  holds_7 : AllHold (rule_7 raw)
  holds_7 = hold_each raw_node (climb_test raw) image.heads.entries (each_entry numbers (λ (e : ℕ × Header). (is_file (Some e.1) || reaches_root raw e.0) ≡ true) image.heads each)
    where
      each : (number : ℕ) (h : Header) → head number ≡ Some h → (is_file (Some h) || reaches_root raw number) ≡ true
      each number h is = by h.kind refl
        where
          by : (kind : Kind) → h.kind ≡ kind → (is_file (Some h) || reaches_root raw number) ≡ true
          by File kind = or_left (is_file (Some h)) _ (ap (λ k. is_file (Some (record h { kind = k }))) kind)
          by Directory kind =
              let (steps, climb) = sound.reaches number (ap is_directory is ∙ ap (λ k. is_directory (Some (record h { kind = k }))) kind) in
              or_right (is_file (Some h)) _ (reach_is_found raw number steps (subst (λ parent. Climbs parent steps number 1) same_parents climb))

  -- ---- extents

  in_file : (number block : ℕ) (place : Place) → get image.placement (number, block) ≡ Some place → ends_in_file (get (heads_of raw) number) (extent_row image.devices ((number, block), place)) ≡ true
  in_file number block place is =
      let of_file = lawful.placed.of_files number block place is in
      let begins = of_file.begins in
      let less : (block + 1 - 1) * 4096 < of_file.header.size = omega arith in
      at_heads (λ heads. ends_in_file (get heads number) (extent_row image.devices ((number, block), place)) ≡ true)
      (ap (λ o. ends_in_file o (extent_row image.devices ((number, block), place))) of_file.shown ∙ and_from _ _ of_file.file (lt-ltb ((block + 1 - 1) * 4096) of_file.header.size less))

  one_block : (key : ℕ × ℕ) (place : Place) → count_by (share_block (extent_row image.devices (key, place))) raw.extents ≤ 1
  one_block key place = few_rows (extent_row image.devices) (share_block (extent_row image.devices (key, place))) (pairs numbers numbers) key image.placement (λ other at is share. same other share)
    where
      same : (other : ℕ × ℕ) → ((key.0 == other.0) && overlap key.1 1 other.1 1) ≡ true → other ≡ key
      same other share =
          let number : key.0 ≡ other.0 = eqb-true key.0 other.0 (left (key.0 == other.0) (overlap key.1 1 other.1 1) share) in
          let block = same_start key.1 other.1 (right (key.0 == other.0) (overlap key.1 1 other.1 1) share) in
          λ i. (sym number i, sym block i)

  one_place : (key : ℕ × ℕ) (place : Place) → get image.placement key ≡ Some place → count_by (share_place (extent_row image.devices (key, place))) raw.extents ≤ 1
  one_place key place there = few_rows (extent_row image.devices) (share_place (extent_row image.devices (key, place))) (pairs numbers numbers) key image.placement (λ other at is share. same other at is share)
    where
      same : (other : ℕ × ℕ) (at : Place) → get image.placement other ≡ Some at → ((place.tier == at.tier) && overlap place.place 1 at.place 1) ≡ true → other ≡ key
      same other at is share =
          let tier : place.tier ≡ at.tier = eqb-true place.tier at.tier (left (place.tier == at.tier) (overlap place.place 1 at.place 1) share) in
          let start = same_start place.place at.place (right (place.tier == at.tier) (overlap place.place 1 at.place 1) share) in
          let places : at ≡ place = λ i. record { tier = sym tier i; place = sym start i } in
          lawful.placed.laid.apart other key place (is ∙ ap Some places) there

  whole : (key : ℕ × ℕ) (place : Place) → is_extent raw.extents (extent_row image.devices (key, place)) ≡ true
  whole key place = and_from _ _ (eq-eqb (length (block_bytes image.devices place)) 4096 (length-block_bytes image.devices place)) (le-leb _ 1 (one_block key place))

  holds_8 : AllHold (rule_8 raw)
  holds_8 =
      hold_rising (extent_row image.devices) (pairs numbers numbers) (λ row. (row.number, row.block)) (λ e. refl) (extent_test (heads_of raw) raw.extents)
      (λ e. (ends_in_file (get (heads_of raw) e.0.0) (extent_row image.devices e) ≡ true) × (is_extent raw.extents (extent_row image.devices e) ≡ true))
      (λ previous e above there. and_from _ _ (and_from _ _ above there.0) there.1) image.placement.entries image.placement.sorted
      (each_entry (pairs numbers numbers) (λ e. (ends_in_file (get (heads_of raw) e.0.0) (extent_row image.devices e) ≡ true) × (is_extent raw.extents (extent_row image.devices e) ≡ true)) image.placement
      (λ key place is. (in_file key.0 key.1 place is, whole key place)))

  holds_9 : AllHold (rule_9 raw)
  holds_9 = hold_each (extent_row image.devices) (tier_test image.sizes) image.placement.entries (each_entry (pairs numbers numbers) (λ e. (tier_test image.sizes (extent_row image.devices e)).holds ≡ true) image.placement each)
    where
      each : (key : ℕ × ℕ) (place : Place) → get image.placement key ≡ Some place → (tier_test image.sizes (extent_row image.devices (key, place))).holds ≡ true
      each key place is =
          let less = lawful.placed.laid.in_tier key place is in
          and_from _ _ (le-leb place.tier 2 (tier_there image.sizes place.tier place.place less)) (le-leb (place.place + 1) (tier_size image.sizes place.tier) (omega arith))

  holds_10 : AllHold (rule_10 raw)
  holds_10 =
      hold_each (extent_row image.devices) (place_test raw.extents) image.placement.entries
      (each_entry (pairs numbers numbers) (λ e. (place_test raw.extents (extent_row image.devices e)).holds ≡ true) image.placement (λ key place is. le-leb _ 1 (one_place key place is)))

  pub rows_well_formed : IsWellFormed raw
  unfolding finding_of
  rows_well_formed = no_finding raw rules.entries (holds_1, (holds_2, (holds_3, (holds_4, (holds_5, (holds_6, (holds_7, (holds_8, (holds_9, (holds_10, tt))))))))))

  pub rows_spelled : IsSpelled raw
  rows_spelled = record {
    sizes = lawful.sizes;
    names = each_row name_row (λ row. IsName row.name) image.names.entries (each_entry name_order (λ (e : (ℕ × List ℕ) × ℕ). IsName e.0.1) image.names (λ key number is. (sound.names_sound key.0 key.1 number is).spelled));
    ids = each_row raw_node (λ row. (row.header.uid < 2 ^ 32) × (row.header.gid < 2 ^ 32)) image.heads.entries
        (each_entry numbers (λ (e : ℕ × Header). (e.1.uid < 2 ^ 32) × (e.1.gid < 2 ^ 32)) image.heads (λ number h is. let range = sound.ranges number h is in (range.uid, range.gid)));
  }
