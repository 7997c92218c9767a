-- Edits of each kind that leave a lawful image lawful: what stands there is put again, a block is laid and written, and another taken up.
use Rattle.std.proofs.Common.{◌≡◌, ℕ, ◌<◌, true, cond, List, [], ◌∷◌, Option, Some, None, option_map, refl, sym, ap, subst, ◌∙◌, arith}
use Rattle.std.specs.Prelude.{IfOk, IfSome, Result, Ok, Err, Vec, vec_len}
use Rattle.std.specs.Result.{result_ok}
use Rattle.std.specs.declared.cmp.Ordering.{Ordering}
use Rattle.std.specs.declared.cmp.Ordering.TheVariants.{Less, Equal, Greater}
use Rattle.std.specs.Ordering.{is_eq}
use Rattle.std.proofs.lemmas.List.Elements.{All-cons, All-nil}
use Rattle.kfs_types.specs.declared.entry.Header.{Header as CodeHeader}
use Rattle.kfs_types.specs.Views.{header_of}
use Rattle.kfs_model.specs.Limits.{block_size}
use Rattle.kfs_model.specs.Table.{Order, Table, changed, get, insert}
use Rattle.kfs_model.proofs.TableLaws.{same_table, get-changed}
use Rattle.kfs_model.specs.Placement.{Place, tier_size, is_free}
use Rattle.kfs_model.specs.Device.ShownTree.{DeviceImage, IsLawful}
use Rattle.kfs_image.specs.declared.edit.Edit.{Edit}
use Rattle.kfs_image.specs.declared.edit.Edit.TheVariants.{Header, Name, Map, Bytes}
use Rattle.kfs_image.specs.Edit.{CanEdit, WritesWholeBlocks, edited_all}
use Rattle.kfs_image.specs.Net.{is_block}
use Rattle.kfs_test_image.specs.Edits.{each_kind}
use Rattle.kfs_image.proofs.FilledImages.{mapped_is_lawful, unmapped_is_lawful, written_is_lawful}

-- a table with what stands there is the table
changed_back : {K X : Type 0} {R : Order K} (t : Table R X) (k : K) (w : Option X) → w ≡ get t k → changed t k w ≡ t
changed_back {K = K} {X = X} {R = R} t k w is = same_table (changed t k w) t (λ q. get-changed t k w q ∙ by q (R.compare q k) refl)
  where
    by : (q : K) (o : Ordering) → R.compare q k ≡ o → cond (is_eq o) w (get t q) ≡ get t q
    by q Less tie = refl
    by q Equal tie = is ∙ ap (get t) (sym (R.exact q k tie))
    by q Greater tie = refl

module _ {A : Type 0} (image : DeviceImage) (lawful : IsLawful image) (header : Option CodeHeader) (name : List ℕ) (target : Option ℕ) (place : Place) (bytes : Vec ℕ A)
    (header_is : option_map header_of header ≡ get image.heads 1) (target_is : target ≡ get image.names (1, name))
    (inside : place.place < tier_size image.sizes place.tier) (free : is_free image.placement place ≡ true) (of_file : is_block image.heads (5, 1) ≡ true) (whole : vec_len bytes ≡ block_size) where
  after_all : IsLawful (record image { placement = changed (changed image.placement (5, 1) (Some place)) (5, 0) None; devices = insert image.devices (place.tier, place.place) bytes.items })
  after_all =
      let first = mapped_is_lawful image lawful (5, 1) place inside free of_file in
      let second = written_is_lawful _ first place bytes.items inside (omega (arith, bytes.ok.0, whole)) in
      unmapped_is_lawful _ second (5, 0)

  base : ◌≡◌ {A = DeviceImage} (record image { heads = changed image.heads 1 (option_map header_of header); names = changed image.names (1, name) target }) image
  base = λ i. record image { heads = changed_back image.heads 1 (option_map header_of header) header_is i; names = changed_back image.names (1, name) target target_is i }

  pub can_edit : CanEdit (each_kind header name target place bytes) image
  unfolding edited_all
  can_edit = record {
    lawful = subst (λ (i : DeviceImage). IsLawful (record i { placement = changed (changed i.placement (5, 1) (Some place)) (5, 0) None; devices = insert i.devices (place.tier, place.place) bytes.items })) (sym base) after_all;
    whole =
        let is_whole : Edit A → Type 0 = WritesWholeBlocks image.sizes in
        let last = All-cons is_whole (Map 5 0 None) [] tt (All-nil is_whole) in
        let written = All-cons is_whole (Bytes place.tier place.place bytes) (Map 5 0 None ∷ []) (inside, whole) last in
        let mapped = All-cons is_whole (Map 5 1 (Some (place.tier, place.place))) (Bytes place.tier place.place bytes ∷ Map 5 0 None ∷ []) tt written in
        let named = All-cons is_whole (Name 1 name target) (Map 5 1 (Some (place.tier, place.place)) ∷ Bytes place.tier place.place bytes ∷ Map 5 0 None ∷ []) tt mapped in
        All-cons is_whole (Header 1 header) (Name 1 name target ∷ Map 5 1 (Some (place.tier, place.place)) ∷ Bytes place.tier place.place bytes ∷ Map 5 0 None ∷ []) tt named;
  }

-- edits that were listed can be made
pub made_ok : {A E : Type 0} (image : DeviceImage) (list : List (Edit A)) (r : Result (Vec (Edit A) A) E) (o : Option (Vec (Edit A) A)) → o ≡ result_ok r → IfOk r (λ edits. edits.items ≡ list) → CanEdit list image → IfSome o (λ edits. CanEdit edits.items image)
made_ok {A} {E} image list r o is listed can = subst (λ (found : Option (Vec (Edit A) A)). IfSome found (λ edits. CanEdit edits.items image)) (sym is) (by r listed)
  where
    by : (r : Result (Vec (Edit A) A) E) → IfOk r (λ edits. edits.items ≡ list) → IfSome (result_ok r) (λ edits. CanEdit edits.items image)
    by (Ok edits) listed = subst (λ items. CanEdit items image) (sym listed) can
    by (Err fault) listed = tt
