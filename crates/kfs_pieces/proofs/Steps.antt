-- One range at a time: what a cut makes of a list's first range.
use Rattle.std.proofs.Common.{◌≡◌, ℕ, Bool, true, false, cond, List, [], ◌∷◌, ◌++◌, drop, length, refl, sym, ap, ◌∙◌, append_assoc, get_or, ◌+◌, ◌<◌, ◌≤◌}
use Rattle.std.proofs.lemmas.List.{drop_all}
use Rattle.kfs_pieces.proofs.Lists.{drop_next}
use Rattle.kfs_pieces.specs.declared.merge.ByteRange.{ByteRange}
use Rattle.kfs_pieces.specs.ByteRanges.{ends_by, begins_before, cut_below, cut_from, merged}

module _ (n p : ℕ) (s : ByteRange) (ss : List ByteRange) where
  two : (a b : Bool) (x y z : List ByteRange) → ends_by n p s ≡ a → begins_before n p s ≡ b → cond (ends_by n p s) x (cond (begins_before n p s) y z) ≡ cond a x (cond b y z)
  two a b x y z e f = λ i. cond (e i) x (cond (f i) y z)

  pub below_over : ends_by n p s ≡ true → cut_below n p (s ∷ ss) ≡ s ∷ cut_below n p ss
  unfolding cut_below
  below_over e = two true (begins_before n p s) _ _ _ e refl

  pub below_part : ends_by n p s ≡ false → begins_before n p s ≡ true → cut_below n p (s ∷ ss) ≡ record s { end = p } ∷ []
  unfolding cut_below
  below_part e f = two false true _ _ _ e f

  pub below_none : ends_by n p s ≡ false → begins_before n p s ≡ false → cut_below n p (s ∷ ss) ≡ []
  unfolding cut_below
  below_none e f = two false false _ _ _ e f

  pub from_over : ends_by n p s ≡ true → cut_from n p (s ∷ ss) ≡ cut_from n p ss
  unfolding cut_from
  from_over e = two true (begins_before n p s) _ _ _ e refl

  pub from_part : ends_by n p s ≡ false → begins_before n p s ≡ true → cut_from n p (s ∷ ss) ≡ record s { start = p } ∷ ss
  unfolding cut_from
  from_part e f = two false true _ _ _ e f

  pub from_none : ends_by n p s ≡ false → begins_before n p s ≡ false → cut_from n p (s ∷ ss) ≡ s ∷ ss
  unfolding cut_from
  from_none e f = two false false _ _ _ e f

pub below_nothing : (n p : ℕ) → cut_below n p [] ≡ []
unfolding cut_below
below_nothing n p = refl

pub from_nothing : (n p : ℕ) → cut_from n p [] ≡ []
unfolding cut_from
from_nothing n p = refl

pub merged_nothing : (ls : List ByteRange) → merged ls [] ≡ ls
unfolding merged
merged_nothing ls = refl

pub merged_next : (ls : List ByteRange) (u : ByteRange) (us : List ByteRange) → merged ls (u ∷ us) ≡ cut_below u.number u.start ls ++ u ∷ merged (cut_from u.number u.end (cut_from u.number u.start ls)) us
unfolding merged
merged_next ls u us = refl

pub append_one : (xs : List ByteRange) (x : ByteRange) (ys : List ByteRange) → (xs ++ x ∷ []) ++ ys ≡ xs ++ x ∷ ys
append_one xs x ys = append_assoc xs (x ∷ []) ys

-- one turn of the laying: what lies before the upper range, the range, and the rest
pub laid_next : (out taken pushed ls left skipped : List ByteRange) (u : ByteRange) (us all : List ByteRange)
    → taken ≡ out ++ cut_below u.number u.start ls → left ≡ cut_from u.number u.start ls → pushed ≡ taken ++ u ∷ [] → skipped ≡ cut_from u.number u.end left
    → out ++ merged ls (u ∷ us) ≡ all → pushed ++ merged skipped us ≡ all
laid_next out taken pushed ls left skipped u us all t l p s invariant =
    (λ i. p i ++ merged ((s ∙ ap (cut_from u.number u.end) l) i) us)
    ∙ append_one taken u (merged (cut_from u.number u.end (cut_from u.number u.start ls)) us)
    ∙ ap (λ xs. xs ++ u ∷ merged (cut_from u.number u.end (cut_from u.number u.start ls)) us) t
    ∙ append_assoc out (cut_below u.number u.start ls) (u ∷ merged (cut_from u.number u.end (cut_from u.number u.start ls)) us)
    ∙ ap (λ xs. out ++ xs) (sym (merged_next ls u us))
    ∙ invariant

pub laid_on : (out taken pushed ls left skipped : List ByteRange) (upper all : List ByteRange) (i : ℕ) (d : ByteRange) → i < length upper
    → taken ≡ out ++ cut_below (get_or upper i d).number (get_or upper i d).start ls → left ≡ cut_from (get_or upper i d).number (get_or upper i d).start ls
    → pushed ≡ taken ++ get_or upper i d ∷ [] → skipped ≡ cut_from (get_or upper i d).number (get_or upper i d).end left
    → out ++ merged ls (drop i upper) ≡ all → pushed ++ merged skipped (drop (i + 1) upper) ≡ all
laid_on out taken pushed ls left skipped upper all i d h t l p s invariant =
    laid_next out taken pushed ls left skipped (get_or upper i d) (drop (i + 1) upper) all t l p s (ap (λ us. out ++ merged ls us) (sym (drop_next upper i d h)) ∙ invariant)

pub laid_out : (out rest upper all : List ByteRange) (i : ℕ) → length upper ≤ i → out ++ merged rest (drop i upper) ≡ all → out ++ rest ≡ all
laid_out out rest upper all i h invariant =
    ap (λ xs. out ++ xs) (sym (merged_nothing rest)) ∙ ap (λ us. out ++ merged rest us) (sym (drop_all i upper h)) ∙ invariant
