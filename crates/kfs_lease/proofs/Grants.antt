-- A grant, an ended lease and the refusals of both, from what each test found.
use Rattle.std.proofs.Common.{◌≡◌, ℕ, ◌<◌, ◌≤◌, ◌==◌, Bool, true, false, cond, not, List, [], ◌∷◌, Option, Some, None, Ok, Err, refl, sym, ap, ◌∙◌, arith}
use Rattle.std.specs.Prelude.{nat_le, option_map, is_none, is_some, IfSome, IsSomeAnd, if◌then◌else◌}
use Rattle.std.proofs.lemmas.Bool.Decides.{nat_tests}
use Rattle.std.proofs.lemmas.Bool.{eqb-true}
use Rattle.kfs_model.specs.Access.{Client}
use Rattle.kfs_model.specs.Header.{Header}
use Rattle.kfs_model.specs.Sight.{Sight}
use Rattle.kfs_model.specs.Table.{get, insert, remove}
use Rattle.kfs_model.specs.Lease.{Leases, Lease, LeaseKind, LeaseFault, LeaseOutcome, UnknownClient, Past, LeaseHeld, NoLeaseHeld, NoSuchNode, NotAllowed, BadPath, refused, row_of, names_of, walked, in_conflict, granted_at, granted_by_walk, granted_on, granted, granted_to_node, granted_by_number, may_lease, dropped}

-- the row of a number has that number
pub number_of_row : (clients : List Client) (number : ℕ) (client : Client) → Some client ≡ row_of clients number → client.number ≡ number
number_of_row [] number client found = cc
number_of_row (row ∷ rows) number client found = at (row.number == number) refl found (number_of_row rows number client)
  where
    at : (b : Bool) → (row.number == number) ≡ b → Some client ≡ cond b (Some row) (row_of rows number) → (Some client ≡ row_of rows number → client.number ≡ number) → client.number ≡ number
    at true is found later = let same : client ≡ row = cc in ap (λ (c : Client). c.number) same ∙ eqb-true row.number number is
    at false other found later = later found

-- ---- on a node that was found

module _ (old : Leases) (clients : List Client) (number : ℕ) (client : Client) (row : Some client ≡ row_of clients number) (node : ℕ) (kind : LeaseKind) (end : ℕ) where
  abbrev past_it : Option ((ℕ × ℕ) × Lease) → LeaseOutcome
  past_it conflict = elim conflict [
    | Some row ↦ refused (LeaseHeld row.0.0) old
    | None ↦ (Ok node, record old { rows = insert old.rows (client.number, node) (record { kind = kind; end = end }) })
  ]

  abbrev by_time : Bool → LeaseOutcome
  by_time past = if past then refused Past old else past_it (in_conflict old client.number node kind)

  granted_in_the_past : end ≤ old.moment → granted_at old client node kind end ≡ refused Past old
  granted_in_the_past over = let past : nat_le end old.moment ≡ true = grind (arith, nat_tests) in ap by_time past

  granted_later : old.moment < end → granted_at old client node kind end ≡ past_it (in_conflict old number node kind)
  granted_later before =
      let past : nat_le end old.moment ≡ false = grind (arith, nat_tests) in
      ap by_time past ∙ ap (λ n. past_it (in_conflict old n node kind)) (number_of_row clients number client row)

  granted_held : old.moment < end → (holder : ℕ) → Some holder ≡ option_map (λ row. row.0.0) (in_conflict old number node kind) → granted_at old client node kind end ≡ refused (LeaseHeld holder) old
  granted_held before holder is = granted_later before ∙ at (in_conflict old number node kind) is
    where
      at : (o : Option ((ℕ × ℕ) × Lease)) → Some holder ≡ option_map (λ row. row.0.0) o → past_it o ≡ refused (LeaseHeld holder) old
      at None is = cc
      at (Some row) is = let same : holder ≡ row.0.0 = cc in ap (λ h. refused (LeaseHeld h) old) (sym same)

  granted_free : old.moment < end → None ≡ option_map (λ row. row.0.0) (in_conflict old number node kind)
      → granted_at old client node kind end ≡ (Ok node, record old { rows = insert old.rows (number, node) (record { kind = kind; end = end }) })
  granted_free before is =
      granted_later before ∙ at (in_conflict old number node kind) is
      ∙ (λ i. (Ok node, record old { rows = insert old.rows (number_of_row clients number client row i, node) (record { kind = kind; end = end }) }))
    where
      at : (o : Option ((ℕ × ℕ) × Lease)) → None ≡ option_map (λ row. row.0.0) o
          → past_it o ≡ (Ok node, record old { rows = insert old.rows (client.number, node) (record { kind = kind; end = end }) })
      at None is = refl
      at (Some row) is = cc

-- ---- by a path

module _ (old : Leases) (sight : Sight) (clients : List Client) (number : ℕ) (path : List ℕ) (kind : LeaseKind) (end : ℕ) where
  abbrev by_row : Option Client → LeaseOutcome
  by_row row = elim row [ None ↦ refused UnknownClient old | Some client ↦ granted_on old sight (names_of path) client kind end ]

  in_order : granted old sight clients number path kind end ≡ by_row (row_of clients number)
  unfolding granted
  in_order = refl

  pub no_client : None ≡ row_of clients number → granted old sight clients number path kind end ≡ refused UnknownClient old
  no_client none = in_order ∙ ap by_row (sym none)

  module _ (client : Client) (row : Some client ≡ row_of clients number) where
    on_path : granted old sight clients number path kind end ≡ granted_on old sight (names_of path) client kind end
    on_path = in_order ∙ ap by_row (sym row)

    pub no_path : None ≡ names_of path → granted old sight clients number path kind end ≡ refused BadPath old
    no_path none = on_path ∙ ap (λ names. granted_on old sight names client kind end) (sym none)

    module _ (names : List (List ℕ)) (path_names : Some names ≡ names_of path) where
      on_walk : granted old sight clients number path kind end ≡ granted_by_walk old (walked sight client 1 0 names) client kind end
      on_walk = on_path ∙ ap (λ names. granted_on old sight names client kind end) (sym path_names)

      pub no_node : (fault : LeaseFault) → walked sight client 1 0 names ≡ Err fault → granted old sight clients number path kind end ≡ refused fault old
      no_node fault stopped = on_walk ∙ ap (λ walk. granted_by_walk old walk client kind end) stopped

      module _ (node : ℕ) (reached : walked sight client 1 0 names ≡ Ok node) where
        at_node : granted old sight clients number path kind end ≡ granted_at old client node kind end
        at_node = on_walk ∙ ap (λ walk. granted_by_walk old walk client kind end) reached

        pub in_the_past : end ≤ old.moment → granted old sight clients number path kind end ≡ refused Past old
        in_the_past over = at_node ∙ granted_in_the_past old clients number client row node kind end over

        pub held_by_another : old.moment < end → (holder : ℕ) → Some holder ≡ option_map (λ row. row.0.0) (in_conflict old number node kind)
            → granted old sight clients number path kind end ≡ refused (LeaseHeld holder) old
        held_by_another before holder is = at_node ∙ granted_held old clients number client row node kind end before holder is

        pub given : old.moment < end → None ≡ option_map (λ row. row.0.0) (in_conflict old number node kind)
            → granted old sight clients number path kind end ≡ (Ok node, record old { rows = insert old.rows (number, node) (record { kind = kind; end = end }) })
        given before is = at_node ∙ granted_free old clients number client row node kind end before is

-- ---- by number

module _ (old : Leases) (sight : Sight) (clients : List Client) (number node : ℕ) (kind : LeaseKind) (end : ℕ) where
  abbrev to_row : Option Client → LeaseOutcome
  to_row row = elim row [ None ↦ refused UnknownClient old | Some client ↦ granted_to_node old (sight.head node) client node kind end ]

  by_number_in_order : granted_by_number old sight clients number node kind end ≡ to_row (row_of clients number)
  unfolding granted_by_number
  by_number_in_order = refl

  pub no_client_there : None ≡ row_of clients number → granted_by_number old sight clients number node kind end ≡ refused UnknownClient old
  no_client_there none = by_number_in_order ∙ ap to_row (sym none)

  module _ (client : Client) (row : Some client ≡ row_of clients number) where
    to_client : granted_by_number old sight clients number node kind end ≡ granted_to_node old (sight.head node) client node kind end
    to_client = by_number_in_order ∙ ap to_row (sym row)

    pub no_node_there : None ≡ sight.head node → granted_by_number old sight clients number node kind end ≡ refused NoSuchNode old
    no_node_there none = to_client ∙ ap (λ head. granted_to_node old head client node kind end) (sym none)

    module _ (h : Header) (there : Some h ≡ sight.head node) where
      abbrev if_allowed : Bool → LeaseOutcome
      if_allowed allowed = if allowed then granted_at old client node kind end else refused NotAllowed old

      to_header : granted_by_number old sight clients number node kind end ≡ if_allowed (may_lease client kind h)
      to_header = to_client ∙ ap (λ head. granted_to_node old head client node kind end) (sym there)

      pub not_allowed : may_lease client kind h ≡ false → granted_by_number old sight clients number node kind end ≡ refused NotAllowed old
      not_allowed isnt = to_header ∙ ap if_allowed isnt

      module _ (allows : may_lease client kind h ≡ true) where
        -- what is left is as where a path has led to the node
        at_this_node : granted_by_number old sight clients number node kind end ≡ granted_at old client node kind end
        at_this_node = to_header ∙ ap if_allowed allows

        pub in_the_past_there : end ≤ old.moment → granted_by_number old sight clients number node kind end ≡ refused Past old
        in_the_past_there over = at_this_node ∙ granted_in_the_past old clients number client row node kind end over

        pub held_there : old.moment < end → (holder : ℕ) → Some holder ≡ option_map (λ row. row.0.0) (in_conflict old number node kind)
            → granted_by_number old sight clients number node kind end ≡ refused (LeaseHeld holder) old
        held_there before holder is = at_this_node ∙ granted_held old clients number client row node kind end before holder is

        pub given_there : old.moment < end → None ≡ option_map (λ row. row.0.0) (in_conflict old number node kind)
            → granted_by_number old sight clients number node kind end ≡ (Ok node, record old { rows = insert old.rows (number, node) (record { kind = kind; end = end }) })
        given_there before is = at_this_node ∙ granted_free old clients number client row node kind end before is

-- whether a look-up found nothing, where what it finds is shown by a function
pub none_shown : {X Y : Type 0} (f : X → Y) (o : Option X) (shown : Option Y) → option_map f o ≡ shown → is_none shown ≡ not (is_some o)
none_shown {X = X} f o shown same = ap is_none (sym same) ∙ at o
  where
    at : (o : Option X) → is_none (option_map f o) ≡ not (is_some o)
    at None = refl
    at (Some x) = refl

pub some_not_none : {X : Type 0} (o : Option X) → is_none o ≡ not (is_some o)
some_not_none None = refl
some_not_none (Some x) = refl

pub if_weaker : {X : Type 0} (o : Option X) (P Q : X → Type 0) → ((x : X) → P x → Q x) → IsSomeAnd o P → IfSome o Q
if_weaker None P Q h p = tt
if_weaker (Some x) P Q h p = h x p

module _ (old : Leases) (clients : List Client) (number node : ℕ) where
  abbrev by_lease : Bool → LeaseOutcome
  by_lease none = if none then refused NoLeaseHeld old else (Ok node, record old { rows = remove old.rows (number, node) })

  abbrev by_client : Bool → LeaseOutcome
  by_client none = if none then refused UnknownClient old else by_lease (is_none (get old.rows (number, node)))

  drop_in_order : dropped old clients number node ≡ by_client (is_none (row_of clients number))
  unfolding dropped
  drop_in_order = refl

  pub drop_without_client : is_none (row_of clients number) ≡ true → dropped old clients number node ≡ refused UnknownClient old
  drop_without_client none = drop_in_order ∙ ap by_client none

  pub drop_without_lease : is_none (row_of clients number) ≡ false → is_none (get old.rows (number, node)) ≡ true → dropped old clients number node ≡ refused NoLeaseHeld old
  drop_without_lease some none = drop_in_order ∙ ap by_client some ∙ ap by_lease none

  pub lease_dropped : is_none (row_of clients number) ≡ false → is_none (get old.rows (number, node)) ≡ false
      → dropped old clients number node ≡ (Ok node, record old { rows = remove old.rows (number, node) })
  lease_dropped some held = drop_in_order ∙ ap by_client some ∙ ap by_lease held
