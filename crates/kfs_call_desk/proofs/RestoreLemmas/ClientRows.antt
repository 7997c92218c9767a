-- Rows of clients, one after another: the first that can't be a client's is told.
use Rattle.std.proofs.Common.{◌≡◌, ℕ, zero, suc, ◌+◌, ◌<◌, ◌≤◌, ◌||◌, Bool, true, false, cond, List, [], ◌∷◌, ◌++◌, length, map, take, drop, get_or, Option, Some, None, is_some, nat_lt, refl, sym, ap, subst, ◌∙◌, arith, take-append-drop}
use Rattle.std.proofs.Math.Bool.{or-true}
use Rattle.std.proofs.lemmas.Bool.{le-ltb, lt-ltb}
use Rattle.std.proofs.lemmas.List.{drop_more, take_more, length-take-le}
use Rattle.std.specs.List.{AllByRecursion, list_any}
use Rattle.kfs_model.specs.Access.{Client, is_grant}
use Rattle.kfs_model.specs.CleanStep.{IsClient}
use Rattle.kfs_model.specs.Limits.{group_limit}
use Rattle.kfs_model.proofs.FirstAnswer.{first_is, none_more, none_from_each}
use Rattle.kfs_mode.specs.declared.client.ClientFault.TheVariants.{TooManyGroups, BadGrant}
use Rattle.kfs_call.specs.StateRows.{IsClientRow}
use Rattle.kfs_call_desk.specs.Restore.Restored.{Refusal, BadClient, client_refusal, clients_refusal}

-- ---- one row

module _ (earlier : List Client) (client : Client) where
  abbrev by_tests : (many granted : Bool) → Option Refusal
  by_tests many granted = cond many (Some (BadClient (length earlier) TooManyGroups)) (cond granted None (Some (BadClient (length earlier) BadGrant)))

  abbrev many : Bool
  many = nat_lt group_limit (length client.groups)

  pub with_many : group_limit < length client.groups → client_refusal earlier client ≡ Some (BadClient (length earlier) TooManyGroups)
  with_many more = ap (λ b. by_tests b (is_grant client.first client.last)) (lt-ltb group_limit (length client.groups) more)

  pub with_grant : length client.groups ≤ group_limit → (granted : Bool) → is_grant client.first client.last ≡ granted → client_refusal earlier client ≡ by_tests false granted
  with_grant few granted is = ap (λ b. by_tests b (is_grant client.first client.last)) (le-ltb group_limit (length client.groups) few) ∙ ap (λ b. by_tests false b) is

-- ---- rows that are clients

at_split : {X : Type 0} (P : X → Type 0) (before : List X) (x : X) (rest : List X) → AllByRecursion P (before ++ x ∷ rest) → P x
at_split P [] x rest all = all.0
at_split P (y ∷ before) x rest all = at_split P before x rest all.1

pub clients_pass : (clients : List Client) → AllByRecursion IsClient clients → AllByRecursion IsClientRow clients → clients_refusal clients ≡ None
clients_pass clients in_range fit = none_from_each client_refusal clients passes
  where
    passes : (before : List Client) (client : Client) (rest : List Client) → clients ≡ before ++ client ∷ rest → client_refusal before client ≡ None
    passes before client rest is =
        let is_client = at_split IsClient before client rest (subst (AllByRecursion IsClient) is in_range) in
        let is_row = at_split IsClientRow before client rest (subst (AllByRecursion IsClientRow) is fit) in
        with_grant before client is_row.5.0 true is_client.grant

-- ---- the rows before one, and those up to it

module _ {R : Type 0} (view : R → Client) (rows : List R) (i : ℕ) (d : R) (below : i < length rows) where
  abbrev earlier : List Client
  earlier = map view (take i rows)

  abbrev here : Client
  here = view (get_or rows i d)

  map_append : (xs ys : List R) → map view (xs ++ ys) ≡ map view xs ++ map view ys
  map_append [] ys = refl
  map_append (x ∷ xs) ys = ap (λ rest. view x ∷ rest) (map_append xs ys)

  length_map : (xs : List R) → length (map view xs) ≡ length xs
  length_map [] = refl
  length_map (x ∷ xs) = ap suc (length_map xs)

  whole : map view rows ≡ earlier ++ here ∷ map view (drop (i + 1) rows)
  whole = ap (map view) (sym (take-append-drop i rows)) ∙ map_append (take i rows) (drop i rows) ∙ ap (λ rest. earlier ++ map view rest) (drop_more rows i d below)

  pub grown : map view (take (i + 1) rows) ≡ earlier ++ here ∷ []
  grown = ap (map view) (take_more rows i d below) ∙ map_append (take i rows) (get_or rows i d ∷ [])

  counted : length earlier ≡ i
  counted = length_map (take i rows) ∙ length-take-le i rows (omega (arith, below))

  -- a refusal of a row behind rows without one is the first
  pub first_refusal : (refusal : ℕ → Refusal) → clients_refusal earlier ≡ None → client_refusal earlier here ≡ Some (refusal (length earlier)) → clients_refusal (map view rows) ≡ Some (refusal i)
  first_refusal refusal none found =
      ap clients_refusal whole
      ∙ first_is client_refusal earlier here (map view (drop (i + 1) rows)) none (ap is_some found)
      ∙ found
      ∙ ap (λ n. Some (refusal n)) counted

  pub none_yet : clients_refusal earlier ≡ None → client_refusal earlier here ≡ None → clients_refusal (map view (take (i + 1) rows)) ≡ None
  none_yet none passed = ap clients_refusal grown ∙ none_more client_refusal earlier here none passed

-- ---- too many groups

pub any_there : {X : Type 0} (test : X → Bool) (xs : List X) (i : ℕ) (d : X) → i < length xs → test (get_or xs i d) ≡ true → list_any test xs ≡ true
any_there test [] i d below is = absurd (omega arith)
any_there test (x ∷ xs) zero d below is = ap (λ b. b || list_any test xs) is
any_there test (x ∷ xs) (suc i) d below is = ap (λ b. test x || b) (any_there test xs i d (omega arith) is) ∙ or-true (test x)

-- ---- rows that are written

map_more : {R : Type 0} (view : R → Client) (rows : List R) (row : R) → map view (rows ++ row ∷ []) ≡ map view rows ++ view row ∷ []
map_more view [] row = refl
map_more view (x ∷ rows) row = ap (λ rest. view x ∷ rest) (map_more view rows row)

pub row_written : {R : Type 0} (view : R → Client) (rows : List R) (row : R) (clients : List Client) (i : ℕ) (d : Client) → i < length clients → map view rows ≡ take i clients → view row ≡ get_or clients i d → map view (rows ++ row ∷ []) ≡ take (i + 1) clients
row_written view rows row clients i d below those this =
    map_more view rows row ∙ ap (λ xs. xs ++ view row ∷ []) those ∙ ap (λ x. take i clients ++ x ∷ []) this ∙ sym (take_more clients i d below)
