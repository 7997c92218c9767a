-- A command's words are read one by one.
use Rattle.std.proofs.Common.{◌≡◌, ℕ, nat_lt, ◌==◌, ◌&&◌, List, [], ◌∷◌, length, take, Option, Some, None, option_map, refl, sym, ap, ◌∙◌, Bool, true, false, if◌then◌else◌}
use Rattle.kfs_plan.specs.Judging.{submission_with}
use Rattle.kfs_model.specs.Steps.{◌>>=◌}
use Rattle.kfs_program_text.specs.Command.{Command, Setup, Request, Row, Begin, Lease, Drop, Tick, Submit, Node, Listing, Bytes, DocketLength, Judge, Land, Load, Save, Plan, asked_by, asked_in, client_of, client_row, command_of, drop_of, judge_of, kind_named, last_worker, lease_of, load_of, new_of, plan_of, read_limit, read_of, submission_in, submit_of, with_number}
use Rattle.kfs_program_text.specs.CommandReading.{begin_of, command_named, docket_of, land_of, listing_of, named_by, node_of, save_of, tick_of}
use Rattle.kfs_program_text.specs.Cut.{cut, space}
use Rattle.kfs_program_text.specs.Decimals.{decimal32, decimal64, decimal_within, decimals32, hexadecimal}
use Rattle.kfs_program_text.specs.Reading.{are_words, both_hexadecimal, checked, ended, first_by, only}
use Rattle.kfs_program_text.specs.declared.command.Keyword.{Keyword}
use Rattle.kfs_program_text.specs.declared.command.Keyword.TheVariants as names
use Rattle.std.specs.Prelude.{bytes_eq, codes}
use Rattle.kfs_program_text.proofs.WordByWord.{bind_all, bind_bind, bind_none, checked_decimals, checked_nothing, checked_same, checked_then, decimals_then, first_if, if_none, map_bind, nothing_if, nothing_then, word_then}
use Rattle.kfs_program_text.proofs.Rows.{sizes_by, new_by_sizes, kept_groups}

-- ---- one number

pub number_then : (number : List ℕ → Option ℕ) (command : ℕ → Command) (words : List (List ℕ)) → with_number number command words ≡ word_then number (λ n. nothing_then (Some (command n))) words
unfolding ended word_then nothing_then
number_then number command [] = refl
number_then number command (a ∷ []) = elim (number a) as (λ o. option_map command o ≡ (o >>= λ n. Some (command n))) [ None ↦ refl | Some n ↦ refl ]
number_then number command (a ∷ b ∷ words) = bind_none (number a) _ (λ n. refl)

number_steps : (number : List ℕ → Option ℕ) (command : ℕ → Command) (words : List (List ℕ)) → checked (with_number number command) words ≡ (first_by number words >>= λ x. ended x.1 >>= λ done. Some (command x.0))
number_steps number command words =
    checked_same _ _ (number_then number command) words ∙ checked_then number _ words
    ∙ bind_all (first_by number words) _ _ (λ x. checked_nothing _ x.1)

only_steps : (number : List ℕ → Option ℕ) (command : ℕ → Command) (words : List (List ℕ)) → checked (with_number number command) words ≡ option_map command (only number words)
only_steps number command words =
    number_steps number command words
    ∙ bind_all (first_by number words) _ _ (λ x. sym (map_bind (ended x.1) (λ done. Some x.0) command))
    ∙ sym (map_bind (first_by number words) (λ x. ended x.1 >>= λ done. Some x.0) command)

pub begin_steps : (words : List (List ℕ)) → checked begin_of words ≡ option_map (λ limit. Setup (Begin limit)) (only decimal32 words)
unfolding begin_of
begin_steps words = only_steps decimal32 (λ limit. Setup (Begin limit)) words

pub tick_steps : (words : List (List ℕ)) → checked tick_of words ≡ option_map (λ moment. Request (Tick moment)) (only decimal64 words)
unfolding tick_of
tick_steps words = only_steps decimal64 (λ moment. Request (Tick moment)) words

pub node_steps : (words : List (List ℕ)) → checked node_of words ≡ option_map (λ number. Request (Node number)) (only decimal32 words)
unfolding node_of
node_steps words = only_steps decimal32 (λ number. Request (Node number)) words

pub listing_steps : (words : List (List ℕ)) → checked listing_of words ≡ option_map (λ directory. Request (Listing directory)) (only decimal32 words)
unfolding listing_of
listing_steps words = only_steps decimal32 (λ directory. Request (Listing directory)) words

pub land_steps : (words : List (List ℕ)) → checked land_of words ≡ (first_by (decimal_within last_worker) words >>= λ x. ended x.1 >>= λ done. Some (Request (Land x.0)))
unfolding land_of
land_steps words = number_steps (decimal_within last_worker) (λ worker. Request (Land worker)) words

-- ---- new

pub new_then : (words : List (List ℕ)) → new_of words ≡ word_then decimal32 (λ a. word_then decimal32 (λ b. word_then decimal32 (λ c. nothing_then (sizes_by a b c)))) words
unfolding ended word_then nothing_then
new_then [] = refl
new_then (a ∷ []) = bind_none (decimal32 a) _ (λ x. refl)
new_then (a ∷ b ∷ []) = bind_none (decimal32 a) _ (λ x. sym (bind_none (decimal32 b) _ (λ y. refl)))
new_then (a ∷ b ∷ c ∷ []) = new_by_sizes a b c
new_then (a ∷ b ∷ c ∷ d ∷ words) = bind_none (decimal32 a) _ (λ x. sym (bind_none (decimal32 b) _ (λ y. sym (bind_none (decimal32 c) _ (λ z. refl)))))

pub new_steps : (words : List (List ℕ)) → checked new_of words ≡ (first_by decimal32 words >>= λ x. first_by decimal32 x.1 >>= λ y. first_by decimal32 y.1 >>= λ z. ended z.1 >>= λ done. sizes_by x.0 y.0 z.0)
new_steps words =
    checked_same _ _ new_then words ∙ checked_then decimal32 _ words
    ∙ bind_all (first_by decimal32 words) _ _ (λ x. checked_then decimal32 _ x.1
    ∙ bind_all (first_by decimal32 x.1) _ _ (λ y. checked_then decimal32 _ y.1
    ∙ bind_all (first_by decimal32 y.1) _ _ (λ z. checked_nothing _ z.1)))

-- ---- drop

pub drop_then : (words : List (List ℕ)) → drop_of words ≡ word_then decimal32 (λ a. word_then decimal32 (λ b. nothing_then (Some (Request (Drop a b))))) words
unfolding ended word_then nothing_then
drop_then [] = refl
drop_then (a ∷ []) = bind_none (decimal32 a) _ (λ x. refl)
drop_then (a ∷ b ∷ []) = refl
drop_then (a ∷ b ∷ c ∷ words) = bind_none (decimal32 a) _ (λ x. sym (bind_none (decimal32 b) _ (λ y. refl)))

pub drop_steps : (words : List (List ℕ)) → checked drop_of words ≡ (first_by decimal32 words >>= λ x. first_by decimal32 x.1 >>= λ y. ended y.1 >>= λ done. Some (Request (Drop x.0 y.0)))
drop_steps words =
    checked_same _ _ drop_then words ∙ checked_then decimal32 _ words
    ∙ bind_all (first_by decimal32 words) _ _ (λ x. checked_then decimal32 _ x.1
    ∙ bind_all (first_by decimal32 x.1) _ _ (λ y. checked_nothing _ y.1))

-- ---- read

pub read_then : (words : List (List ℕ)) → read_of words ≡ word_then decimal32 (λ a. word_then decimal64 (λ b. word_then (decimal_within read_limit) (λ c. nothing_then (Some (Request (Bytes a b c)))))) words
unfolding ended word_then nothing_then
read_then [] = refl
read_then (a ∷ []) = bind_none (decimal32 a) _ (λ x. refl)
read_then (a ∷ b ∷ []) = bind_none (decimal32 a) _ (λ x. sym (bind_none (decimal64 b) _ (λ y. refl)))
read_then (a ∷ b ∷ c ∷ []) = refl
read_then (a ∷ b ∷ c ∷ d ∷ words) = bind_none (decimal32 a) _ (λ x. sym (bind_none (decimal64 b) _ (λ y. sym (bind_none (decimal_within read_limit c) _ (λ z. refl)))))

pub read_steps : (words : List (List ℕ)) → checked read_of words ≡ (first_by decimal32 words >>= λ x. first_by decimal64 x.1 >>= λ y. first_by (decimal_within read_limit) y.1 >>= λ z. ended z.1 >>= λ done. Some (Request (Bytes x.0 y.0 z.0)))
read_steps words =
    checked_same _ _ read_then words ∙ checked_then decimal32 _ words
    ∙ bind_all (first_by decimal32 words) _ _ (λ x. checked_then decimal64 _ x.1
    ∙ bind_all (first_by decimal64 x.1) _ _ (λ y. checked_then (decimal_within read_limit) _ y.1
    ∙ bind_all (first_by (decimal_within read_limit) y.1) _ _ (λ z. checked_nothing _ z.1)))

-- ---- docket

pub docket_then : (words : List (List ℕ)) → docket_of words ≡ nothing_then (Some (Request DocketLength)) words
unfolding docket_of ended nothing_then
docket_then [] = refl
docket_then (a ∷ words) = refl

pub docket_steps : (words : List (List ℕ)) → checked docket_of words ≡ (ended words >>= λ done. Some (Request DocketLength))
docket_steps words = checked_same _ _ docket_then words ∙ checked_nothing _ words

-- ---- image and save

pub load_then : (words : List (List ℕ)) → load_of words ≡ word_then hexadecimal (λ bytes. nothing_then (Some (Load bytes))) words
unfolding ended word_then nothing_then
load_then [] = refl
load_then (a ∷ []) = refl
load_then (a ∷ b ∷ words) = bind_none (hexadecimal a) _ (λ x. refl)

pub load_steps : (words : List (List ℕ)) → checked load_of words ≡ (first_by hexadecimal words >>= λ x. ended x.1 >>= λ done. Some (Load x.0))
load_steps words = checked_same _ _ load_then words ∙ checked_then hexadecimal _ words ∙ bind_all (first_by hexadecimal words) _ _ (λ x. checked_nothing _ x.1)

pub save_then : (words : List (List ℕ)) → save_of words ≡ nothing_then (Some (Request Save)) words
unfolding save_of ended nothing_then
save_then [] = refl
save_then (a ∷ words) = refl

pub save_steps : (words : List (List ℕ)) → checked save_of words ≡ (ended words >>= λ done. Some (Request Save))
save_steps words = checked_same _ _ save_then words ∙ checked_nothing _ words

-- ---- plan

pub plan_then : (words : List (List ℕ)) → plan_of words ≡ word_then decimal32 (λ a. word_then hexadecimal (λ b. nothing_then (Some (Request (Plan a b))))) words
unfolding ended word_then nothing_then
plan_then [] = refl
plan_then (a ∷ []) = bind_none (decimal32 a) _ (λ x. refl)
plan_then (a ∷ b ∷ []) = refl
plan_then (a ∷ b ∷ c ∷ words) = bind_none (decimal32 a) _ (λ x. sym (bind_none (hexadecimal b) _ (λ y. refl)))

pub plan_steps : (words : List (List ℕ)) → checked plan_of words ≡ (first_by decimal32 words >>= λ x. first_by hexadecimal x.1 >>= λ y. ended y.1 >>= λ done. Some (Request (Plan x.0 y.0)))
plan_steps words =
    checked_same _ _ plan_then words ∙ checked_then decimal32 _ words
    ∙ bind_all (first_by decimal32 words) _ _ (λ x. checked_then hexadecimal _ x.1
    ∙ bind_all (first_by hexadecimal x.1) _ _ (λ y. checked_nothing _ y.1))

-- ---- submit and judge

submission_then : (words : List (List ℕ)) → submission_in words ≡ word_then decimal32 (λ a. word_then hexadecimal (λ b. word_then hexadecimal (λ c. nothing_then (Some (submission_with a b c))))) words
unfolding ended word_then nothing_then
submission_then [] = refl
submission_then (a ∷ []) = bind_none (decimal32 a) _ (λ x. refl)
submission_then (a ∷ b ∷ []) = bind_none (decimal32 a) _ (λ x. sym (bind_none (hexadecimal b) _ (λ y. refl)))
submission_then (a ∷ b ∷ c ∷ []) = refl
submission_then (a ∷ b ∷ c ∷ d ∷ words) = bind_none (decimal32 a) _ (λ x. sym (bind_none (hexadecimal b) _ (λ y. sym (bind_none (hexadecimal c) _ (λ z. refl)))))

pub submission_steps : (words : List (List ℕ)) → checked submission_in words ≡ (first_by decimal32 words >>= λ x. first_by hexadecimal x.1 >>= λ y. first_by hexadecimal y.1 >>= λ z. ended z.1 >>= λ done. Some (submission_with x.0 y.0 z.0))
submission_steps words =
    checked_same _ _ submission_then words ∙ checked_then decimal32 _ words
    ∙ bind_all (first_by decimal32 words) _ _ (λ x. checked_then hexadecimal _ x.1
    ∙ bind_all (first_by hexadecimal x.1) _ _ (λ y. checked_then hexadecimal _ y.1
    ∙ bind_all (first_by hexadecimal y.1) _ _ (λ z. checked_nothing _ z.1)))

next_if : {X T : Type 0} (are : Bool) (o : Option X) (next : X → Option T) → (if are then (o >>= next) else None) ≡ ((if are then o else None) >>= next)
next_if true o next = refl
next_if false o next = refl

-- what is made of a reading of all words
checked_next : {X T : Type 0} (read : List (List ℕ) → Option X) (next : X → Option T) (words : List (List ℕ)) → checked (λ left. read left >>= next) words ≡ (checked read words >>= next)
unfolding checked
checked_next read next words = next_if (are_words words) (read words) next

abbrev handed_in : ℕ → List ℕ → List ℕ → Command
handed_in client log plan = Request (Submit (submission_with client log plan))

-- a log and a plan that are read together
both_then : (client : ℕ) (words : List (List ℕ))
    → ((first_by hexadecimal words >>= λ y. first_by hexadecimal y.1 >>= λ z. ended z.1 >>= λ done. Some (submission_with client y.0 z.0)) >>= λ submission. Some (Request (Submit submission)))
    ≡ (both_hexadecimal words >>= λ pair. Some (handed_in client pair.0 pair.1))
both_then client words = by (first_by hexadecimal words)
  where
    at_end : (log plan : List ℕ) (done : Option (Unit {0})) → ((done >>= λ d. Some (submission_with client log plan)) >>= λ submission. Some (Request (Submit submission)))
        ≡ ((done >>= λ d. Some (log, plan)) >>= λ (pair : List ℕ × List ℕ). Some (handed_in client pair.0 pair.1))
    at_end log plan None = refl
    at_end log plan (Some d) = refl

    behind : (log : List ℕ) (read : Option (List ℕ × List (List ℕ))) → ((read >>= λ z. ended z.1 >>= λ done. Some (submission_with client log z.0)) >>= λ submission. Some (Request (Submit submission)))
        ≡ ((read >>= λ z. ended z.1 >>= λ done. Some (log, z.0)) >>= λ (pair : List ℕ × List ℕ). Some (handed_in client pair.0 pair.1))
    behind log None = refl
    behind log (Some z) = at_end log z.0 (ended z.1)

    by : (read : Option (List ℕ × List (List ℕ))) → ((read >>= λ y. first_by hexadecimal y.1 >>= λ z. ended z.1 >>= λ done. Some (submission_with client y.0 z.0)) >>= λ submission. Some (Request (Submit submission)))
        ≡ ((read >>= λ y. first_by hexadecimal y.1 >>= λ z. ended z.1 >>= λ done. Some (y.0, z.0)) >>= λ (pair : List ℕ × List ℕ). Some (handed_in client pair.0 pair.1))
    by None = refl
    by (Some y) = behind y.0 (first_by hexadecimal y.1)

pub submit_steps : (words : List (List ℕ)) → checked submit_of words ≡ (first_by decimal32 words >>= λ x. both_hexadecimal x.1 >>= λ pair. Some (Request (Submit (submission_with x.0 pair.0 pair.1))))
submit_steps words =
    checked_next submission_in (λ submission. Some (Request (Submit submission))) words
    ∙ ap (λ read. read >>= λ submission. Some (Request (Submit submission))) (submission_steps words)
    ∙ bind_bind (first_by decimal32 words) _ _
    ∙ bind_all (first_by decimal32 words) _ _ (λ x. both_then x.0 x.1)

pub judge_then : (words : List (List ℕ)) → judge_of words ≡ word_then (decimal_within last_worker) (λ worker left. submission_in left >>= λ submission. Some (Request (Judge worker submission))) words
unfolding word_then
judge_then [] = refl
judge_then (a ∷ words) = refl

pub judge_steps : (words : List (List ℕ)) → checked judge_of words ≡ (first_by (decimal_within last_worker) words >>= λ worker. checked submission_in worker.1 >>= λ submission. Some (Request (Judge worker.0 submission)))
judge_steps words =
    checked_same _ _ judge_then words ∙ checked_then (decimal_within last_worker) _ words
    ∙ bind_all (first_by (decimal_within last_worker) words) _ _ (λ worker. checked_next submission_in (λ submission. Some (Request (Judge worker.0 submission))) worker.1)

-- ---- lease

abbrev word_itself : List ℕ → Option (List ℕ)
word_itself word = Some word

pub lease_then : (words : List (List ℕ)) → lease_of words ≡ word_then decimal32 (λ a. word_then word_itself (λ path. word_then kind_named (λ kind. word_then decimal64 (λ end. nothing_then (Some (Request (Lease a path kind end))))))) words
unfolding ended word_then nothing_then
lease_then [] = refl
lease_then (a ∷ []) = bind_none (decimal32 a) _ (λ x. refl)
lease_then (a ∷ path ∷ []) = bind_none (decimal32 a) _ (λ x. refl)
lease_then (a ∷ path ∷ b ∷ []) = bind_none (decimal32 a) _ (λ x. sym (bind_none (kind_named b) _ (λ y. refl)))
lease_then (a ∷ path ∷ b ∷ c ∷ []) = refl
lease_then (a ∷ path ∷ b ∷ c ∷ d ∷ words) = bind_none (decimal32 a) _ (λ x. sym (bind_none (kind_named b) _ (λ y. sym (bind_none (decimal64 c) _ (λ z. refl)))))

pub lease_steps : (words : List (List ℕ)) → checked lease_of words ≡ (first_by decimal32 words >>= λ x. first_by (λ word. Some word) x.1 >>= λ path. first_by kind_named path.1 >>= λ kind. first_by decimal64 kind.1 >>= λ end. ended end.1 >>= λ done. Some (Request (Lease x.0 path.0 kind.0 end.0)))
lease_steps words =
    checked_same _ _ lease_then words ∙ checked_then decimal32 _ words
    ∙ bind_all (first_by decimal32 words) _ _ (λ x. checked_then word_itself _ x.1
    ∙ bind_all (first_by word_itself x.1) _ _ (λ path. checked_then kind_named _ path.1
    ∙ bind_all (first_by kind_named path.1) _ _ (λ kind. checked_then decimal64 _ kind.1
    ∙ bind_all (first_by decimal64 kind.1) _ _ (λ end. checked_nothing _ end.1))))

-- ---- client

pub client_then : (words : List (List ℕ)) → client_of words ≡ word_then decimal32 (λ a. word_then decimal32 (λ b. word_then decimal32 (λ c. word_then (decimal_within 1) (λ d. word_then decimal32 (λ e. word_then decimal32 (λ f.
    decimals_then (λ groups. Setup (Row (client_row a b c groups (d == 1) e f))))))))) words
unfolding word_then decimals_then
client_then [] = refl
client_then (a ∷ []) = bind_none (decimal32 a) _ (λ x. refl)
client_then (a ∷ b ∷ []) = bind_none (decimal32 a) _ (λ x. sym (bind_none (decimal32 b) _ (λ y. refl)))
client_then (a ∷ b ∷ c ∷ []) = bind_none (decimal32 a) _ (λ x. sym (bind_none (decimal32 b) _ (λ y. sym (bind_none (decimal32 c) _ (λ z. refl)))))
client_then (a ∷ b ∷ c ∷ d ∷ []) = bind_none (decimal32 a) _ (λ x. sym (bind_none (decimal32 b) _ (λ y. sym (bind_none (decimal32 c) _ (λ z. sym (bind_none (decimal_within 1 d) _ (λ p. refl)))))))
client_then (a ∷ b ∷ c ∷ d ∷ e ∷ []) = bind_none (decimal32 a) _ (λ x. sym (bind_none (decimal32 b) _ (λ y. sym (bind_none (decimal32 c) _ (λ z. sym (bind_none (decimal_within 1 d) _ (λ p. sym (bind_none (decimal32 e) _ (λ q. refl)))))))))
client_then (a ∷ b ∷ c ∷ d ∷ e ∷ f ∷ words) = refl

pub client_steps : (words : List (List ℕ)) → checked client_of words ≡ (first_by decimal32 words >>= λ number. first_by decimal32 number.1 >>= λ uid. first_by decimal32 uid.1 >>= λ gid. first_by (decimal_within 1) gid.1 >>= λ privileged. first_by decimal32 privileged.1 >>= λ first. first_by decimal32 first.1 >>= λ last.
    option_map (λ ns. take 17 ns) (decimals32 last.1) >>= λ groups. Some (Setup (Row (client_row number.0 uid.0 gid.0 groups (privileged.0 == 1) first.0 last.0))))
client_steps words =
    checked_same _ _ client_then words ∙ checked_then decimal32 _ words
    ∙ bind_all (first_by decimal32 words) _ _ (λ number. checked_then decimal32 _ number.1
    ∙ bind_all (first_by decimal32 number.1) _ _ (λ uid. checked_then decimal32 _ uid.1
    ∙ bind_all (first_by decimal32 uid.1) _ _ (λ gid. checked_then (decimal_within 1) _ gid.1
    ∙ bind_all (first_by (decimal_within 1) gid.1) _ _ (λ privileged. checked_then decimal32 _ privileged.1
    ∙ bind_all (first_by decimal32 privileged.1) _ _ (λ first. checked_then decimal32 _ first.1
    ∙ bind_all (first_by decimal32 first.1) _ _ (λ last. checked_decimals _ last.1 ∙ kept_groups number.0 uid.0 gid.0 (privileged.0 == 1) first.0 last.0 (decimals32 last.1)))))))

-- ---- lines

name_or : (is : Bool) (name : Keyword) (others : Option Keyword) (other : Option Command) (words : List (List ℕ)) → other ≡ command_named others words
    → (if is then command_named (Some name) words else other) ≡ command_named (if is then Some name else others) words
name_or true name others other words same = refl
name_or false name others other words same = same

-- a word's command is that of its name
pub command_by_name : (word : List ℕ) (name : Option Keyword) → name ≡ named_by word → (words : List (List ℕ)) → command_of word words ≡ command_named name words
unfolding begin_of tick_of node_of listing_of docket_of land_of save_of
command_by_name word name is words =
    name_or (bytes_eq word (codes "submit")) names.Submit _ _ words
    (name_or (bytes_eq word (codes "lease")) names.Lease _ _ words
    (name_or (bytes_eq word (codes "new")) names.New _ _ words
    (name_or (bytes_eq word (codes "client")) names.Client _ _ words
    (name_or (bytes_eq word (codes "begin")) names.Begin _ _ words
    (name_or (bytes_eq word (codes "drop")) names.Drop _ _ words
    (name_or (bytes_eq word (codes "tick")) names.Tick _ _ words
    (name_or (bytes_eq word (codes "node")) names.Node _ _ words
    (name_or (bytes_eq word (codes "list")) names.List _ _ words
    (name_or (bytes_eq word (codes "read")) names.Read _ _ words
    (name_or (bytes_eq word (codes "docket")) names.Docket _ _ words
    (name_or (bytes_eq word (codes "judge")) names.Judge _ _ words
    (name_or (bytes_eq word (codes "land")) names.Land _ _ words
    (name_or (bytes_eq word (codes "image")) names.Image _ _ words
    (name_or (bytes_eq word (codes "save")) names.Save _ _ words
    (name_or (bytes_eq word (codes "move")) names.Move _ _ words
    (name_or (bytes_eq word (codes "plan")) names.Plan None None words refl))))))))))))))))
    ∙ ap (λ n. command_named n words) (sym is)

-- a word that names nothing begins no command
pub nameless : (words : List (List ℕ)) → checked (command_named None) words ≡ None
unfolding checked
nameless words = if_none (are_words words) None refl

asked_parts : (parts : List (List ℕ)) (word : List ℕ) (left : List (List ℕ)) (name : Option Keyword) → first_by (λ w. Some w) parts ≡ Some (word, left) → ((words : List (List ℕ)) → command_of word words ≡ command_named name words)
    → asked_in parts ≡ checked (command_named name) left
unfolding first_by checked
asked_parts [] word left name is named = cc
asked_parts (first ∷ words) word left name is named =
    let same = first_if (nat_lt 0 (length first)) first word words left is in
    ap (λ some. if some && are_words words then command_of first words else None) same.0
    ∙ ap (λ w. if are_words words then command_of w words else None) same.1
    ∙ ap (λ ws. if are_words ws then command_of word ws else None) same.2
    ∙ ap (λ o. if are_words left then o else None) (named left)

-- a line asks for the command that its first word names, of the words behind it
pub asked_named : (line word : List ℕ) (left : List (List ℕ)) (name : Option Keyword) → first_by (λ w. Some w) (cut space line) ≡ Some (word, left) → ((words : List (List ℕ)) → command_of word words ≡ command_named name words)
    → asked_by line ≡ checked (command_named name) left
asked_named line word left name is named = asked_parts (cut space line) word left name is named

nothing_parts : (parts : List (List ℕ)) → first_by (λ w. Some w) parts ≡ None → asked_in parts ≡ None
unfolding first_by
nothing_parts [] is = refl
nothing_parts (first ∷ words) is = nothing_if (nat_lt 0 (length first)) (are_words words) first words (command_of first words) is

-- a line without a first word asks for nothing
pub nothing_asked : (line : List ℕ) → first_by (λ w. Some w) (cut space line) ≡ None → asked_by line ≡ None
nothing_asked line is = nothing_parts (cut space line) is
