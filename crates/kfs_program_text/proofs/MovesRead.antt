-- Words that are left are read as moves one by one.
use Rattle.std.proofs.Common.{◌≡◌, ◌<◌, ◌≤◌, ℕ, nat_lt, Bool, true, false, List, [], ◌∷◌, ◌++◌, length, Option, Some, None, option_map, is_err, Result, Ok, Err, refl, sym, ap, subst, ◌∙◌, append_assoc, arith, if◌then◌else◌}
use Rattle.std.proofs.lemmas.List.{append-nil}
use Rattle.kfs_model.specs.Migration.{Move as BlockMove}
use Rattle.kfs_model.specs.Steps.{◌>>=◌}
use Rattle.kfs_program_text.specs.Command.{Move, Request, last_tier, move_of, move_to, moves_in}
use Rattle.kfs_program_text.specs.CommandReading.{first_move}
use Rattle.kfs_program_text.specs.Decimals.{decimal32, decimal_within}
use Rattle.kfs_program_text.specs.Reading.{ReadsExactly, are_words, checked, ended, first_by}
use Rattle.kfs_program_text.specs.declared.words.Refusal.{Refusal}
use Rattle.kfs_program_text.proofs.WordByWord.{bind_all, bind_bind, bind_none, checked_then, word_then}

-- ---- a move and the moves behind it

checked_here : {T : Type 0} (f g : List (List ℕ) → Option T) (words : List (List ℕ)) → f words ≡ g words → checked f words ≡ checked g words
unfolding checked
checked_here f g words same = ap (λ o. if are_words words then o else None) same

checked_mapped : {X T : Type 0} (f : X → T) (read : List (List ℕ) → Option X) (words : List (List ℕ)) → checked (λ left. option_map f (read left)) words ≡ option_map f (checked read words)
unfolding checked
checked_mapped f read words = by (are_words words)
  where
    by : (are : Bool) → (if are then option_map f (read words) else None) ≡ option_map f (if are then read words else None)
    by true = refl
    by false = refl

moves_then : (words : List (List ℕ)) → ended words ≡ None → moves_in words ≡ word_then decimal32 (λ a. word_then decimal32 (λ b. word_then (decimal_within last_tier) (λ c. word_then decimal32 (λ d left.
    option_map (λ moves. move_to a b c d ∷ moves) (moves_in left))))) words
unfolding ended word_then
moves_then [] some = cc
moves_then (a ∷ []) some = bind_none (decimal32 a) _ (λ x. refl)
moves_then (a ∷ b ∷ []) some = bind_none (decimal32 a) _ (λ x. sym (bind_none (decimal32 b) _ (λ y. refl)))
moves_then (a ∷ b ∷ c ∷ []) some = bind_none (decimal32 a) _ (λ x. sym (bind_none (decimal32 b) _ (λ y. sym (bind_none (decimal_within last_tier c) _ (λ z. refl)))))
moves_then (a ∷ b ∷ c ∷ d ∷ words) some = refl

-- the moves, where the first four words say the first one
abbrev behind : Option (BlockMove × List (List ℕ)) → Option (List BlockMove)
behind first = first >>= λ x. option_map (λ moves. x.0 ∷ moves) (checked moves_in x.1)

one_by_one : (words : List (List ℕ)) → behind (first_move words) ≡ (first_by decimal32 words >>= λ a. first_by decimal32 a.1 >>= λ b. first_by (decimal_within last_tier) b.1 >>= λ c. first_by decimal32 c.1 >>= λ d.
    option_map (λ moves. move_to a.0 b.0 c.0 d.0 ∷ moves) (checked moves_in d.1))
one_by_one words =
    bind_bind (first_by decimal32 words) _ _
    ∙ bind_all (first_by decimal32 words) _ _ (λ a. bind_bind (first_by decimal32 a.1) _ _
    ∙ bind_all (first_by decimal32 a.1) _ _ (λ b. bind_bind (first_by (decimal_within last_tier) b.1) _ _
    ∙ bind_all (first_by (decimal_within last_tier) b.1) _ _ (λ c. bind_bind (first_by decimal32 c.1) _ _)))

moves_steps : (words : List (List ℕ)) → ended words ≡ None → checked moves_in words ≡ behind (first_move words)
moves_steps words some =
    checked_here moves_in _ words (moves_then words some) ∙ checked_then decimal32 _ words
    ∙ bind_all (first_by decimal32 words) _ _ (λ a. checked_then decimal32 _ a.1
    ∙ bind_all (first_by decimal32 a.1) _ _ (λ b. checked_then (decimal_within last_tier) _ b.1
    ∙ bind_all (first_by (decimal_within last_tier) b.1) _ _ (λ c. checked_then decimal32 _ c.1
    ∙ bind_all (first_by decimal32 c.1) _ _ (λ d. checked_mapped (λ moves. move_to a.0 b.0 c.0 d.0 ∷ moves) moves_in d.1))))
    ∙ sym (one_by_one words)

-- ---- fewer words are left behind a move

shorter : {X : Type 0} (read : List ℕ → Option X) (words : List (List ℕ)) (x : X × List (List ℕ)) → first_by read words ≡ Some x → length x.1 < length words
unfolding first_by
shorter read [] x is = cc
shorter {X = X} read (word ∷ words) x is = by (nat_lt 0 (length word)) (read word) is
  where
    by : (some : Bool) (o : Option X) → (if some then option_map {U = X × List (List ℕ)} (λ y. (y, words)) o else None) ≡ Some x → length x.1 < length (word ∷ words)
    by false o is = cc
    by true None is = cc
    by true (Some y) is =
        let same : ◌≡◌ {A = X × List (List ℕ)} (y, words) x = cc in
        subst (λ (it : X × List (List ℕ)). length it.1 < length (word ∷ words)) same (omega arith)

-- where the one reading leaves fewer words, and the next one no more, both leave fewer
shorter_both : {X Y : Type 0} (o : Option (X × List (List ℕ))) (next : X × List (List ℕ) → Option (Y × List (List ℕ))) (words : List (List ℕ)) (y : Y × List (List ℕ)) → ((x : X × List (List ℕ)) → o ≡ Some x → length x.1 < length words)
    → ((x : X × List (List ℕ)) → next x ≡ Some y → length y.1 ≤ length x.1) → (o >>= next) ≡ Some y → length y.1 < length words
shorter_both None next words y first later is = cc
shorter_both (Some x) next words y first later is =
    let less = first x refl in
    let no_more = later x is in
    omega arith

pub fewer_left : (words : List (List ℕ)) (x : BlockMove × List (List ℕ)) → first_move words ≡ Some x → length x.1 < length words
fewer_left words x is =
    shorter_both (first_by decimal32 words) _ words x (shorter decimal32 words) (λ a said.
    let less = shorter_both (first_by decimal32 a.1) _ a.1 x (shorter decimal32 a.1) (λ b said.
    let less = shorter_both (first_by (decimal_within last_tier) b.1) _ b.1 x (shorter (decimal_within last_tier) b.1) (λ c said.
    let less = shorter_both (first_by decimal32 c.1) _ c.1 x (shorter decimal32 c.1) (λ d said. last d (move_to a.0 b.0 c.0 d.0) said) said in omega arith) said in omega arith) said in omega arith) is
  where
    last : (d : ℕ × List (List ℕ)) (m : BlockMove) → ◌≡◌ {A = Option (BlockMove × List (List ℕ))} (Some (m, d.1)) (Some x) → length x.1 ≤ length d.1
    last d m said =
        let same : ◌≡◌ {A = BlockMove × List (List ℕ)} (m, d.1) x = cc in
        subst (λ (it : BlockMove × List (List ℕ)). length it.1 ≤ length d.1) same (omega arith)

-- ---- move after move

-- these words came to moves, and the others are left
pub record AreMoves (words left : List (List ℕ)) (moves : List BlockMove) : Type 0 where
  pub read : checked moves_in words ≡ option_map (λ more. moves ++ more) (checked moves_in left)

map_nothing : (o : Option (List BlockMove)) → o ≡ option_map (λ more. [] ++ more) o
map_nothing None = refl
map_nothing (Some moves) = refl

map_twice : (moves : List BlockMove) (m : BlockMove) (o : Option (List BlockMove)) → option_map (λ more. moves ++ more) (option_map (λ more. m ∷ more) o) ≡ option_map (λ more. (moves ++ m ∷ []) ++ more) o
map_twice moves m None = refl
map_twice moves m (Some more) = ap (λ all. Some all) (sym (append_assoc moves (m ∷ []) more))

pub none_read : (words : List (List ℕ)) → AreMoves words words []
none_read words = record { read = map_nothing (checked moves_in words) }

pub one_read : (words left rest : List (List ℕ)) (moves : List BlockMove) (m : BlockMove) → AreMoves words left moves → ended left ≡ None → first_move left ≡ Some (m, rest) → AreMoves words rest (moves ++ m ∷ [])
one_read words left rest moves m are some is = record { read = are.read ∙ ap (option_map (λ more. moves ++ more)) (moves_steps left some ∙ ap behind is) ∙ map_twice moves m (checked moves_in rest) }

pub all_read : (words : List (List ℕ)) (moves : List BlockMove) → AreMoves words [] moves → checked moves_in words ≡ Some moves
unfolding checked
all_read words moves are = are.read ∙ ap (λ all. Some all) (append-nil moves)

pub no_move : (words left : List (List ℕ)) (moves : List BlockMove) → AreMoves words left moves → ended left ≡ None → first_move left ≡ None → checked moves_in words ≡ None
no_move words left moves are some none = are.read ∙ ap (option_map (λ more. moves ++ more)) (moves_steps left some ∙ ap behind none)

-- ---- whether words are left

pub one_left : (left : List (List ℕ)) (result : Result (Unit {0}) Refusal) → ReadsExactly (λ done. done) (ended left) result → is_err result ≡ true → ended left ≡ None
one_left left (Ok done) is bad = cc
one_left left (Err refusal) is bad = is.1

pub none_left : (left : List (List ℕ)) (result : Result (Unit {0}) Refusal) → ReadsExactly (λ done. done) (ended left) result → is_err result ≡ false → left ≡ []
unfolding ended
none_left [] result is good = refl
none_left (word ∷ words) (Ok done) is good = cc
none_left (word ∷ words) (Err refusal) is good = cc

-- ---- the line

pub move_steps : (words : List (List ℕ)) → ended words ≡ None → checked move_of words ≡ option_map (λ moves. Request (Move moves)) (checked moves_in words)
unfolding ended
move_steps [] some = cc
move_steps (word ∷ words) some = checked_here move_of _ (word ∷ words) refl ∙ checked_mapped (λ moves. Request (Move moves)) moves_in (word ∷ words)

pub no_moves : (words : List (List ℕ)) (done : Unit {0}) → ended words ≡ Some done → checked move_of words ≡ None
unfolding ended checked
no_moves [] done is = refl
no_moves (word ∷ words) done is = cc
