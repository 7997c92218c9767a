-- What bytes are read as is their answer; for bytes that are written out it computes.
use Rattle.std.proofs.Common.{◌≡◌, ℕ, zero, suc, ◌<◌, nat_lt, true, List, [], ◌∷◌, Result, sym, subst, ◌∙◌, arith}
use Rattle.std.specs.List.{list_all}
use Rattle.std.proofs.lemmas.Bool.{and_parts}
use Rattle.std.proofs.lemmas.Bool.Decides.{nat_tests}
use Rattle.kfs_model.specs.Entry.{Log}
use Rattle.kfs_model.specs.PlanRow.{Plan}
use Rattle.kfs_model.specs.Spelling.{IsBytes, SpellingFault, LogAnswer, PlanAnswer}
use Rattle.kfs_model.proofs.AnswersExist.{log_has_answer, plan_has_answer}
use Rattle.kfs_model.proofs.OneLogAnswer.{log_reading, log_is_read}
use Rattle.kfs_model.proofs.OnePlanAnswer.{plan_reading, plan_is_read}

is_byte : (b : ℕ) → nat_lt b 256 ≡ true → b < 256
is_byte b is = grind (arith, nat_tests)

pub are_bytes : (bytes : List ℕ) → list_all (λ b. nat_lt b 256) bytes ≡ true → IsBytes bytes
are_bytes [] all i = omega arith
are_bytes (b ∷ bytes) all zero = is_byte b (and_parts (nat_lt b 256) (list_all (λ b. nat_lt b 256) bytes) all).0
are_bytes (b ∷ bytes) all (suc i) = are_bytes bytes (and_parts (nat_lt b 256) (list_all (λ b. nat_lt b 256) bytes) all).1 i

pub log_is : (bytes : List ℕ) → list_all (λ b. nat_lt b 256) bytes ≡ true → (answer : Result Log SpellingFault) → log_reading bytes ≡ answer → LogAnswer bytes answer
log_is bytes all answer is =
    let given = log_has_answer bytes (are_bytes bytes all) in
    subst (LogAnswer bytes) (sym (log_is_read bytes (are_bytes bytes all) given.0 given.1) ∙ is) given.1

pub plan_is : (bytes : List ℕ) → list_all (λ b. nat_lt b 256) bytes ≡ true → (answer : Result Plan SpellingFault) → plan_reading bytes ≡ answer → PlanAnswer bytes answer
plan_is bytes all answer is =
    let given = plan_has_answer bytes (are_bytes bytes all) in
    subst (PlanAnswer bytes) (sym (plan_is_read bytes (are_bytes bytes all) given.0 given.1) ∙ is) given.1
