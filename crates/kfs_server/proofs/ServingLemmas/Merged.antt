-- Replies merged from decisions and answers, one after another.
use Rattle.std.proofs.Common.{◌≡◌, ℕ, suc, ◌+◌, ◌<◌, ◌≤◌, List, [], ◌∷◌, ◌++◌, length, drop, get_or, Result, refl, sym, ap, subst, ◌∙◌, append_assoc, append-nil, length-append, arith}
use Rattle.std.proofs.lemmas.List.{at_drop_more, drop_all}
use Rattle.kfs_call_desk.specs.declared.made.Called.{Called}
use Rattle.kfs_call_desk.specs.declared.made.CallFault.{CallFault}
use Rattle.kfs_server.specs.Serving.Group.{AreReplies, IsReplied, call_in, calls_of}
use Rattle.kfs_call.specs.declared.asking.Decided.{Decided}
use Rattle.kfs_server.specs.declared.replies.reply.NumberedReply.{NumberedReply}

-- the replies so far, of the decisions up to this one; these answers are left
pub record IsMergedTo (decided : List Decided) (answers : List (Result Called CallFault)) (i : ℕ) (rest : List (Result Called CallFault)) (replies : List NumberedReply) : Type 0 where
  pub goes_on : (more : List NumberedReply) → AreReplies (drop i decided) rest more → AreReplies decided answers (replies ++ more)
  pub as_many : length rest ≡ length (calls_of (drop i decided))

pub merge_begins : (decided : List Decided) (answers : List (Result Called CallFault)) → length answers ≡ length (calls_of decided) → IsMergedTo decided answers 0 answers []
merge_begins decided answers many = record { goes_on = λ more is. is; as_many = many }

module _ (decided : List Decided) (answers : List (Result Called CallFault)) (i : ℕ) (d : Decided) (rest : List (Result Called CallFault)) (replies : List NumberedReply)
    (lt : i < length decided) (so_far : IsMergedTo decided answers i rest replies) where
  abbrev one : Decided
  one = get_or decided i d

  here : drop i decided ≡ one ∷ drop (i + 1) decided
  here = at_drop_more (λ (ds : List Decided). ds) decided i d lt

  -- how many answers there are for it
  pub enough : length (call_in one.what) ≤ length rest
  enough =
      let all : length (calls_of (drop i decided)) ≡ length (call_in one.what) + length (calls_of (drop (i + 1) decided)) =
      ap (λ (ds : List Decided). length (calls_of ds)) here ∙ length-append (call_in one.what) (calls_of (drop (i + 1) decided)) in
      omega (arith, so_far.as_many, all)

  pub merge_goes_on : (behind : List (Result Called CallFault)) (sent : NumberedReply) → sent.number ≡ one.number → IsReplied one.what rest behind sent.reply
      → length rest ≡ length (call_in one.what) + length behind → IsMergedTo decided answers (i + 1) behind (replies ++ sent ∷ [])
  merge_goes_on behind sent number said left =
      let all : length (calls_of (drop i decided)) ≡ length (call_in one.what) + length (calls_of (drop (i + 1) decided)) =
      ap (λ (ds : List Decided). length (calls_of ds)) here ∙ length-append (call_in one.what) (calls_of (drop (i + 1) decided)) in record {
        goes_on = λ more is.
            subst (AreReplies decided answers) (sym (append_assoc replies (sent ∷ []) more))
            (so_far.goes_on (sent ∷ more) (subst (λ (ds : List Decided). AreReplies ds rest (sent ∷ more)) (sym here) (behind, number, said, is)));
        as_many = omega (arith, so_far.as_many, all, left);
      }

none_left : (rest : List (Result Called CallFault)) → length rest ≡ 0 → AreReplies [] rest []
none_left [] is = tt
none_left (answer ∷ rest) is = absurd (omega (arith, is))

pub merge_ends : (decided : List Decided) (answers : List (Result Called CallFault)) (i : ℕ) (rest : List (Result Called CallFault)) (replies : List NumberedReply) → length decided ≤ i
    → IsMergedTo decided answers i rest replies → AreReplies decided answers replies
merge_ends decided answers i rest replies le so_far =
    let here : drop i decided ≡ [] = drop_all i decided le in
    let zero : length rest ≡ 0 = so_far.as_many ∙ ap (λ (ds : List Decided). length (calls_of ds)) here in
    subst (AreReplies decided answers) (append-nil replies) (so_far.goes_on [] (subst (λ (ds : List Decided). AreReplies ds rest []) (sym here) (none_left rest zero)))

-- each decision has a reply
pub replies_long : (decided : List Decided) (answers : List (Result Called CallFault)) (replies : List NumberedReply) → AreReplies decided answers replies → length replies ≡ length decided
replies_long [] [] [] said = refl
replies_long [] (answer ∷ answers) [] said = refl
replies_long [] [] (sent ∷ replies) said = absurd said
replies_long [] (answer ∷ answers) (sent ∷ replies) said = absurd said
replies_long (first ∷ decided) answers [] said = absurd said
replies_long (first ∷ decided) answers (sent ∷ replies) said = ap suc (replies_long decided said.0 replies said.3)
