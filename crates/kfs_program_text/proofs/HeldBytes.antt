-- What a writer that holds bytes back has, when a first part of them was written.
use Rattle.std.proofs.Common.{◌≡◌, ℕ, zero, suc, ◌+◌, ◌-◌, ◌≤◌, List, [], ◌∷◌, ◌++◌, length, take, drop, Option, Result, Ok, Err, OnErr, sym, ap, subst, ◌∙◌, arith, length-drop, take-append-drop}
use Rattle.std.proofs.Math.Seq.{drop-nil}
use Rattle.std.proofs.lemmas.List.{take_rest}
use Rattle.std.proofs.KnownBytes.{Appends-kept, Appends-trans, append_known-moved}
use Rattle.std.specs.Io.KnownBytes.{Appends, Keeps, WriteAppends, append_known}
use Rattle.kfs_program_text.specs.HeldOutput.{HasGrown}

drop-again : (count taken : ℕ) (items : List ℕ) → drop (taken + count) items ≡ drop count (drop taken items)
drop-again count zero items = let none : 0 + count ≡ count = omega arith in ap (λ n. drop n items) none
drop-again count (suc taken) [] = drop-nil (suc taken + count) ∙ sym (drop-nil count)
drop-again count (suc taken) (item ∷ items) =
    let one : suc taken + count ≡ suc (taken + count) = omega arith in
    ap (λ n. drop n (item ∷ items)) one ∙ drop-again count taken items

module _ (items : List ℕ) (taken count : ℕ) where
  abbrev left : List ℕ
  left = take (length items - taken) (drop taken items)

  pub within : taken ≤ length items → count ≤ length left → taken + count ≤ length items
  within kept few =
      let least = subst (λ rest. count ≤ length rest) (take_rest items taken) few in
      let long = length-drop taken items in
      omega arith

  pub moved : (before after : Option (List ℕ)) → Appends before after (take count left) → Keeps (append_known before (drop taken items)) (append_known after (drop (taken + count) items))
  moved before after wrote =
      let rest = drop taken items in
      append_known-moved before after (take count rest) (drop (taken + count) items) rest
      (subst (λ bytes. Appends before after (take count bytes)) (take_rest items taken) wrote)
      (sym (take-append-drop count rest) ∙ ap (λ bytes. take count rest ++ bytes) (sym (drop-again count taken items)))

pub grown : (first before after : Option (List ℕ)) (text : List ℕ) → HasGrown first before → Appends before after text → HasGrown first after
grown first before after text has wrote = (has.0 ++ text, Appends-trans first before after has.0 text has.1 wrote)

pub grown_by : {E : Type 0} (first before after : Option (List ℕ)) (result : Result ℕ E) (bytes : List ℕ) → HasGrown first before → WriteAppends before after result bytes → HasGrown first after
grown_by first before after (Ok count) bytes has wrote = grown first before after (take count bytes) has wrote
grown_by first before after (Err e) bytes has kept = (has.0, Appends-kept first before after has.0 has.1 kept)

pub on_err : {T E P : Type 0} (result : Result T E) → P → OnErr result P
on_err (Ok x) holds = tt
on_err (Err e) holds = holds
