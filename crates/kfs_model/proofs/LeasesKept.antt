-- What a grant, a drop and a tick keep of leases: each is on a node, and they are compatible.
use Rattle.std.proofs.Common.{◌≡◌, ◌≢◌, ℕ, ◌≤◌, ◌⊎◌, ◌&&◌, ◌||◌, Bool, true, false, cond, List, [], ◌∷◌, Option, Some, None, is_some, option_map, IsTrue, Result, Ok, Err, refl, sym, ap, subst, ◌∙◌, inl, inr, arith}
use Rattle.std.specs.Prelude.{find, nat_le, nat_lt, is_none, not}
use Rattle.std.specs.List.{list_any}
use Rattle.std.specs.declared.cmp.Ordering.{Ordering}
use Rattle.std.specs.declared.cmp.Ordering.TheVariants.{Less, Equal, Greater}
use Rattle.std.specs.Ordering.{is_eq, eq_by_cmp}
use Rattle.std.proofs.lemmas.Bool.{both_ways, eq-eqb, false_from_ne_true, lt-ltb, ltb-false, ltb-true, ne_eqb, or_parts}
use Rattle.kfs_model.specs.Access.{Client}
use Rattle.kfs_model.specs.Check.{is_some_and}
use Rattle.kfs_model.specs.Header.{Header}
use Rattle.kfs_model.specs.Table.{numbers, pairs, get, insert, remove, retain}
use Rattle.kfs_model.proofs.TableLaws.{get-insert, get-retain}
use Rattle.kfs_model.specs.Tree.{Tree, Node, headers, node_header}
use Rattle.kfs_model.specs.Sight.{Sight}
use Rattle.kfs_model.specs.Lease.{Lease, LeaseKind, ReadLease, WriteLease, LeaseFault, LeaseTable, Leases, LeaseOutcome, live_at, on_those, row_of, names_of, walked, conflicts, in_conflict, is_live, is_write, refused, granted, granted_at, granted_on, granted_by_walk, granted_to_node, granted_by_number, may_lease, dropped, ticked, without_gone, HasLive, AreCompatible, KeepsCompatible, Past, LeaseHeld, UnknownClient, NoLeaseHeld, NoSuchNode, NotAllowed, Backwards}
use Rattle.kfs_model.proofs.Heads.{get-headers}
use Rattle.kfs_model.proofs.Tables.{any_from_found}

-- ---- what holds of the leases before holds of those after a call, where it holds of those that a grant, drop or tick makes

module _ (leases : Leases) (Kept : Leases → Type 0) (kept : Kept leases) where
  abbrev KeptBy : LeaseOutcome → Type 0
  KeptBy outcome = Kept outcome.1

  pub granted_keeps : (sight : Sight) (clients : List Client) (number : ℕ) (path : List ℕ) (kind : LeaseKind) (end : ℕ)
      → ((client : Client) (names : List (List ℕ)) (n : ℕ) → walked sight client 1 0 names ≡ Ok n → in_conflict leases client.number n kind ≡ None
      → Kept (record leases { rows = insert leases.rows (client.number, n) (record { kind = kind; end = end }) }))
      → KeptBy (granted leases sight clients number path kind end)
  unfolding granted
  granted_keeps sight clients number path kind end made = by_client (row_of clients number)
    where
      by_conflict : (client : Client) (names : List (List ℕ)) (n : ℕ) → walked sight client 1 0 names ≡ Ok n → (found : Option ((ℕ × ℕ) × Lease)) → in_conflict leases client.number n kind ≡ found
          → KeptBy (elim found [ Some row ↦ refused (LeaseHeld row.0.0) leases | None ↦ (Ok n, record leases { rows = insert leases.rows (client.number, n) (record { kind = kind; end = end }) }) ])
      by_conflict client names n came None is = made client names n came is
      by_conflict client names n came (Some row) is = kept

      by_end : (client : Client) (names : List (List ℕ)) (n : ℕ) → walked sight client 1 0 names ≡ Ok n → (past : Bool)
          → KeptBy (cond past (refused Past leases) (elim (in_conflict leases client.number n kind) [ Some row ↦ refused (LeaseHeld row.0.0) leases | None ↦ (Ok n, record leases { rows = insert leases.rows (client.number, n) (record { kind = kind; end = end }) }) ]))
      by_end client names n came true = kept
      by_end client names n came false = by_conflict client names n came (in_conflict leases client.number n kind) refl

      by_walk : (client : Client) (names : List (List ℕ)) (came : Result ℕ LeaseFault) → walked sight client 1 0 names ≡ came → KeptBy (granted_by_walk leases came client kind end)
      by_walk client names (Err fault) is = kept
      by_walk client names (Ok n) is = by_end client names n is (nat_le end leases.moment)

      by_path : (client : Client) (names : Option (List (List ℕ))) → KeptBy (granted_on leases sight names client kind end)
      by_path client None = kept
      by_path client (Some names) = by_walk client names (walked sight client 1 0 names) refl

      by_client : (found : Option Client) → KeptBy (elim found [ None ↦ refused UnknownClient leases | Some client ↦ granted_on leases sight (names_of path) client kind end ])
      by_client None = kept
      by_client (Some client) = by_path client (names_of path)

  pub granted_by_number_keeps : (sight : Sight) (clients : List Client) (number n : ℕ) (kind : LeaseKind) (end : ℕ)
      → ((client : Client) (h : Header) → sight.head n ≡ Some h → in_conflict leases client.number n kind ≡ None
      → Kept (record leases { rows = insert leases.rows (client.number, n) (record { kind = kind; end = end }) }))
      → KeptBy (granted_by_number leases sight clients number n kind end)
  unfolding granted_by_number
  granted_by_number_keeps sight clients number n kind end made = by_client (row_of clients number)
    where
      by_conflict : (client : Client) (h : Header) → sight.head n ≡ Some h → (found : Option ((ℕ × ℕ) × Lease)) → in_conflict leases client.number n kind ≡ found
          → KeptBy (elim found [ Some row ↦ refused (LeaseHeld row.0.0) leases | None ↦ (Ok n, record leases { rows = insert leases.rows (client.number, n) (record { kind = kind; end = end }) }) ])
      by_conflict client h there None is = made client h there is
      by_conflict client h there (Some row) is = kept

      by_end : (client : Client) (h : Header) → sight.head n ≡ Some h → (past : Bool)
          → KeptBy (cond past (refused Past leases) (elim (in_conflict leases client.number n kind) [ Some row ↦ refused (LeaseHeld row.0.0) leases | None ↦ (Ok n, record leases { rows = insert leases.rows (client.number, n) (record { kind = kind; end = end }) }) ]))
      by_end client h there true = kept
      by_end client h there false = by_conflict client h there (in_conflict leases client.number n kind) refl

      by_permission : (client : Client) (h : Header) → sight.head n ≡ Some h → (allowed : Bool)
          → KeptBy (cond allowed (granted_at leases client n kind end) (refused NotAllowed leases))
      by_permission client h there true = by_end client h there (nat_le end leases.moment)
      by_permission client h there false = kept

      by_head : (client : Client) (head : Option Header) → sight.head n ≡ head → KeptBy (granted_to_node leases head client n kind end)
      by_head client None is = kept
      by_head client (Some h) is = by_permission client h is (may_lease client kind h)

      by_client : (found : Option Client) → KeptBy (elim found [ None ↦ refused UnknownClient leases | Some client ↦ granted_to_node leases (sight.head n) client n kind end ])
      by_client None = kept
      by_client (Some client) = by_head client (sight.head n) refl

  -- a drop and a tick take leases away alone
  abbrev pub KeptByFewer : Type 0
  KeptByFewer = (stays : ℕ × ℕ → Bool) (moment : ℕ) → leases.moment ≤ moment → Kept (record { rows = retain stays leases.rows; moment = moment })

  pub dropped_keeps : (clients : List Client) (client number : ℕ) → KeptByFewer → KeptBy (dropped leases clients client number)
  unfolding dropped remove
  dropped_keeps clients client number fewer = by (is_none (row_of clients client)) (is_none (get leases.rows (client, number)))
    where
      by : (unknown none : Bool) → KeptBy (cond unknown (refused UnknownClient leases) (cond none (refused NoLeaseHeld leases) (Ok number, record leases { rows = remove leases.rows (client, number) })))
      by true none = kept
      by false true = kept
      by false false = fewer (λ key. not (eq_by_cmp (pairs numbers numbers).compare (client, number) key)) leases.moment (omega arith)

  pub ticked_keeps : (moment : ℕ) → KeptByFewer → KeptBy (ticked leases moment)
  unfolding ticked live_at
  ticked_keeps moment fewer = by (nat_lt moment leases.moment) refl
    where
      by : (back : Bool) → nat_lt moment leases.moment ≡ back → KeptBy (cond back (refused Backwards leases) (Ok moment, record { rows = live_at moment leases.rows; moment = moment }))
      by true is = kept
      by false is = let not_before = ltb-false moment leases.moment is in fewer (λ key. is_some_and (get leases.rows key) (is_live moment)) moment (omega arith)

-- ---- one row more, or some rows fewer

module _ (rows : LeaseTable) where
  -- a lease that stands there after an insert is the new one or an old one
  with_row : (holder node : ℕ) (new : Lease) (client number : ℕ) (lease : Lease) → get (insert rows (holder, node) new) (client, number) ≡ Some lease
      → ((client ≡ holder) × (number ≡ node) × (new ≡ lease)) ⊎ (get rows (client, number) ≡ Some lease)
  with_row holder node new client number lease there =
      by ((pairs numbers numbers).compare (client, number) (holder, node)) refl (sym (get-insert rows (holder, node) new (client, number)) ∙ there)
    where
      by : (o : Ordering) → (pairs numbers numbers).compare (client, number) (holder, node) ≡ o → cond (is_eq o) (Some new) (get rows (client, number)) ≡ Some lease
          → ((client ≡ holder) × (number ≡ node) × (new ≡ lease)) ⊎ (get rows (client, number) ≡ Some lease)
      by Less tie is = inr is
      by Equal tie is =
          let same = (pairs numbers numbers).exact (client, number) (holder, node) tie in
          inl (ap (λ (key : ℕ × ℕ). key.0) same, ap (λ (key : ℕ × ℕ). key.1) same, cc)
      by Greater tie is = inr is

  -- a lease that is left stood there
  was_there : (stays : ℕ × ℕ → Bool) (key : ℕ × ℕ) (lease : Lease) → get (retain stays rows) key ≡ Some lease → (stays key ≡ true) × (get rows key ≡ Some lease)
  was_there stays key lease there = by (stays key) refl (sym (get-retain stays rows key) ∙ there)
    where
      by : (b : Bool) → stays key ≡ b → cond b (get rows key) None ≡ Some lease → (stays key ≡ true) × (get rows key ≡ Some lease)
      by true is there' = (is, there')
      by false is there' = cc

-- ---- on nodes

abbrev pub IsNode : Tree ℕ → ℕ → Type 0
IsNode t n = IsTrue (is_some (get (headers t) n))

some_is : (o : Option Lease) → is_some o ≡ true → (lease : Lease) × (o ≡ Some lease)
some_is None some = cc
some_is (Some lease) some = (lease, refl)

module _ (t : Tree ℕ) where
  abbrev pub AreOnNodes : LeaseTable → Type 0
  AreOnNodes rows = (client number : ℕ) → IsTrue (is_some (get rows (client, number))) → IsNode t number

  pub on_nodes-insert : (rows : LeaseTable) (holder node : ℕ) (lease : Lease) → AreOnNodes rows → IsNode t node → AreOnNodes (insert rows (holder, node) lease)
  on_nodes-insert rows holder node lease on_nodes there client number leased =
      let (found, is) = some_is (get (insert rows (holder, node) lease) (client, number)) leased in
      by found (with_row rows holder node lease client number found is)
    where
      by : (found : Lease) → ((client ≡ holder) × (number ≡ node) × (lease ≡ found)) ⊎ (get rows (client, number) ≡ Some found) → IsNode t number
      by found (inl new) = subst (IsNode t) (sym new.1) there
      by found (inr old) = on_nodes client number (ap is_some old)

  pub on_nodes-retain : (rows : LeaseTable) (stays : ℕ × ℕ → Bool) → AreOnNodes rows → AreOnNodes (retain stays rows)
  on_nodes-retain rows stays on_nodes client number leased =
      let (found, is) = some_is (get (retain stays rows) (client, number)) leased in
      on_nodes client number (ap is_some (was_there rows stays (client, number) found is).1)

-- ---- compatible

none_any : {X : Type 0} (test : X → Bool) (xs : List X) → find test xs ≡ None → list_any test xs ≡ false
none_any test [] none = refl
none_any test (x ∷ xs) none = by (test x) none (none_any test xs)
  where
    by : (b : Bool) → cond b (Some x) (find test xs) ≡ None → (find test xs ≡ None → list_any test xs ≡ false) → (b || list_any test xs) ≡ false
    by true none' rest = cc
    by false none' rest = rest none'

for_reading : (kind : LeaseKind) → is_write kind ≡ false → kind ≡ ReadLease
for_reading ReadLease is = refl
for_reading WriteLease is = cc

abbrev lease_until : LeaseKind → ℕ → Lease
lease_until kind end = record { kind = kind; end = end }

module _ (leases : Leases) where
  -- what a grant looks at: another client's live lease on the node, and the new one
  both_for_reading : (client number : ℕ) (kind : LeaseKind) → in_conflict leases client number kind ≡ None → (other : ℕ) (lease : Lease) → other ≢ client → HasLive leases other number lease → (is_write kind ≡ false) × (is_write lease.kind ≡ false)
  unfolding get
  both_for_reading client number kind none other lease apart live = or_parts _ _ (false_from_ne_true _ barred)
    where
      barred : (is_write kind || is_write lease.kind) ≡ true → ⊥
      barred one_writes =
          let here = eq-eqb number number refl in
          let other_client = ne_eqb other client apart in
          let bars : conflicts leases client number kind ((other, number), lease) ≡ true = λ i. here i && not (other_client i) && live.1 i && one_writes i in
          both_ways _ (none_any (conflicts leases client number kind) leases.rows.entries none) (any_from_found (pairs numbers numbers) (conflicts leases client number kind) leases.rows.entries (other, number) lease live.0 bars)

  pub compatible-insert : (holder node : ℕ) (kind : LeaseKind) (end : ℕ) → AreCompatible leases → in_conflict leases holder node kind ≡ None → AreCompatible (record leases { rows = insert leases.rows (holder, node) (record { kind = kind; end = end }) })
  compatible-insert holder node kind end compatible none client other number one two apart first second =
      by (with_row leases.rows holder node (lease_until kind end) client number one first.0) (with_row leases.rows holder node (lease_until kind end) other number two second.0)
    where
      by : ((client ≡ holder) × (number ≡ node) × (lease_until kind end ≡ one)) ⊎ (get leases.rows (client, number) ≡ Some one) → ((other ≡ holder) × (number ≡ node) × (lease_until kind end ≡ two)) ⊎ (get leases.rows (other, number) ≡ Some two) → one.kind ≡ ReadLease
      by (inl mine) (inl theirs) = absurd (apart (mine.0 ∙ sym theirs.0))
      by (inl mine) (inr theirs) =
          let live = subst (λ n. HasLive leases other n two) mine.1 (theirs, second.1) in
          let read = both_for_reading holder node kind none other two (λ same. apart (mine.0 ∙ sym same)) live in
          sym (ap (λ (l : Lease). l.kind) mine.2) ∙ for_reading kind read.0
      by (inr mine) (inl theirs) =
          let live = subst (λ n. HasLive leases client n one) theirs.1 (mine, first.1) in
          let read = both_for_reading holder node kind none client one (λ same. apart (same ∙ sym theirs.0)) live in
          for_reading one.kind read.1
      by (inr mine) (inr theirs) = compatible client other number one two apart (mine, first.1) (theirs, second.1)

  -- what is live later was live before
  live_before : (lease : Lease) (moment : ℕ) → leases.moment ≤ moment → is_live moment lease ≡ true → is_live leases.moment lease ≡ true
  live_before lease moment later live = let before = ltb-true moment lease.end live in lt-ltb leases.moment lease.end (omega arith)

  pub compatible-retain : (stays : ℕ × ℕ → Bool) (moment : ℕ) → leases.moment ≤ moment → AreCompatible leases → AreCompatible (record { rows = retain stays leases.rows; moment = moment })
  compatible-retain stays moment later compatible client other number one two apart first second =
      compatible client other number one two apart
      ((was_there leases.rows stays (client, number) one first.0).1, live_before one moment later first.1)
      ((was_there leases.rows stays (other, number) two second.0).1, live_before two moment later second.1)

pub granted_compatible : (sight : Sight) (clients : List Client) (client : ℕ) (path : List ℕ) (kind : LeaseKind) (end : ℕ) → KeepsCompatible (λ leases. granted leases sight clients client path kind end)
granted_compatible sight clients number path kind end leases compatible =
    granted_keeps leases AreCompatible compatible sight clients number path kind end (λ client names n came none. compatible-insert leases client.number n kind end compatible none)

pub granted_by_number_compatible : (sight : Sight) (clients : List Client) (client number : ℕ) (kind : LeaseKind) (end : ℕ) → KeepsCompatible (λ leases. granted_by_number leases sight clients client number kind end)
granted_by_number_compatible sight clients number n kind end leases compatible =
    granted_by_number_keeps leases AreCompatible compatible sight clients number n kind end (λ client h there none. compatible-insert leases client.number n kind end compatible none)

pub dropped_compatible : (clients : List Client) (client number : ℕ) → KeepsCompatible (λ leases. dropped leases clients client number)
dropped_compatible clients client number leases compatible = dropped_keeps leases AreCompatible compatible clients client number (λ stays moment later. compatible-retain leases stays moment later compatible)

pub ticked_compatible : (moment : ℕ) → KeepsCompatible (λ leases. ticked leases moment)
ticked_compatible moment leases compatible = ticked_keeps leases AreCompatible compatible moment (λ stays moment' later. compatible-retain leases stays moment' later compatible)

-- ---- what is left where nodes have gone is on nodes

header_there : (t : Tree ℕ) (n : ℕ) → is_some (get t.nodes n) ≡ true → IsNode t n
header_there t n some = ap is_some (get-headers t n) ∙ by (get t.nodes n) some
  where
    by : (found : Option (Node ℕ)) → is_some found ≡ true → is_some (option_map (node_header t.names n) found) ≡ true
    by None some = cc
    by (Some node) some = refl

pub without_gone_on_nodes : (leases : Leases) (t : Tree ℕ) → AreOnNodes t (without_gone leases (λ n. is_some (get t.nodes n))).rows
unfolding without_gone on_those
without_gone_on_nodes leases t client number leased =
    let stays : ℕ × ℕ → Bool = λ key. is_some (get t.nodes key.1) in
    let (found, is) = some_is (get (retain stays leases.rows) (client, number)) leased in
    header_there t number (was_there leases.rows stays (client, number) found is).0

pub without_gone_compatible : (leases : Leases) (is_node : ℕ → Bool) → AreCompatible leases → AreCompatible (without_gone leases is_node)
unfolding without_gone on_those
without_gone_compatible leases is_node compatible = compatible-retain leases (λ key. is_node key.1) leases.moment (omega arith) compatible
