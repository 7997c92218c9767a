-- What stands in a writer behind one that held replies back.
use Rattle.std.proofs.Common.{◌≡◌, ℕ, List, [], ◌++◌, Option, Some, None, sym, ap, ◌∙◌, append_assoc, append-nil}
use Rattle.std.proofs.lemmas.List.{append_cancel_left}
use Rattle.std.specs.Io.KnownBytes.{Appends, Keeps, append_known}

-- where some is still held at the end, a first part of the text is written
pub first_part : (before held_before held_after after : Option (List ℕ)) (text written rest : List ℕ) → Keeps before held_before → Appends held_before held_after text
    → Keeps held_after (append_known after rest) → Appends before after written → (front : List ℕ) × (back : List ℕ) × Appends before after front × (text ≡ front ++ back)
first_part None held_before held_after after text written rest p q r s = (text, [], tt, sym (append-nil text))
first_part (Some x) None held_after after text written rest p q r s = absurd p
first_part (Some x) (Some y) None after text written rest p q r s = absurd q
first_part (Some x) (Some y) (Some z) None text written rest p q r s = absurd r
first_part (Some x) (Some y) (Some z) (Some w) text written rest p q r s = (
  written,
  rest,
  s,
  append_cancel_left x text (written ++ rest) (ap (λ l. l ++ text) (sym p) ∙ sym q ∙ sym r ∙ ap (λ l. l ++ rest) s ∙ append_assoc x written rest),
)

-- where nothing is, all of it is
pub all_written : (before held_before held_after after : Option (List ℕ)) (text : List ℕ) → Keeps before held_before → Appends held_before held_after text → Keeps held_after after → Appends before after text
all_written None held_before held_after after text p q r = tt
all_written (Some x) None held_after after text p q r = absurd p
all_written (Some x) (Some y) None after text p q r = absurd q
all_written (Some x) (Some y) (Some z) None text p q r = absurd r
all_written (Some x) (Some y) (Some z) (Some w) text p q r = r ∙ q ∙ ap (λ l. l ++ text) p
