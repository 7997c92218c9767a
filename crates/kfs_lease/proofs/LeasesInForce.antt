-- A grant, an ended lease, a later moment and a removal leave leases that are in force.
use Rattle.std.proofs.Common.{◌≡◌, ℕ, ◌<◌, ◌≤◌, Bool, true, false, cond, not, ◌==◌, List, [], ◌∷◌, Option, Some, None, option_map, Result, Ok, Err, refl, sym, ap, subst, ◌∙◌, arith}
use Rattle.std.specs.Prelude.{is_some, OnOk, OnErr, if◌then◌else◌}
use Rattle.std.specs.Ordering.{eq_by_cmp}
use Rattle.std.proofs.lemmas.Bool.{lt-ltb}
use Rattle.kfs_model.specs.Table.{numbers, pairs, get, insert, remove, retain, empty}
use Rattle.kfs_model.specs.Check.{is_some_and}
use Rattle.kfs_model.specs.Lease.{Lease, LeaseKind, LeaseTable, Leases, is_live, live_at, on_those, in_conflict, no_leases}
use Rattle.kfs_model.proofs.TableLaws.{get-insert, get-retain}
use Rattle.kfs_model.proofs.LeasesKept.{compatible-insert, compatible-retain}
use Rattle.kfs_lease.specs.InForce.{AreInForce}
use Rattle.kfs_lease.specs.Removed.{without_nodes_in}
use Rattle.kfs_lease.specs.declared.rows.rows.LeaseRows.{LeaseRows}
use Rattle.kfs_lease.specs.Rows.Rows.{table_in, without_node}
use Rattle.kfs_lease.specs.Writer.{first_write, with_write, with_writes, leases_of_writer}
use Rattle.kfs_lease.proofs.RowsLemmas.RowTables.{tied}

pub none_in_force : AreInForce no_leases
unfolding get
none_in_force = record { live = λ client number lease has. cc; compatible = λ client other number one two apart first second. let has = first.0 in cc }

abbrev lease_at : LeaseTable → (moment : ℕ) → Leases
lease_at rows moment = record { rows = rows; moment = moment }

module _ (leases : Leases) (in_force : AreInForce leases) where
  pub in_force-insert : (holder node : ℕ) (kind : LeaseKind) (end : ℕ) → leases.moment < end → in_conflict leases holder node kind ≡ None
      → AreInForce (lease_at (insert leases.rows (holder, node) (record { kind = kind; end = end })) leases.moment)
  in_force-insert holder node kind end later none = record { live = live; compatible = compatible-insert leases holder node kind end in_force.compatible none }
    where
      new : Lease
      new = record { kind = kind; end = end }

      live : (client number : ℕ) (lease : Lease) → get (insert leases.rows (holder, node) new) (client, number) ≡ Some lease → is_live leases.moment lease ≡ true
      live client number lease has = by (eq_by_cmp (pairs numbers numbers).compare (client, number) (holder, node)) (sym (get-insert leases.rows (holder, node) new (client, number)) ∙ has)
        where
          by : (b : Bool) → cond b (Some new) (get leases.rows (client, number)) ≡ Some lease → is_live leases.moment lease ≡ true
          by true is = let same : new ≡ lease = cc in ap (is_live leases.moment) (sym same) ∙ lt-ltb leases.moment end later
          by false is = in_force.live client number lease is

  -- where some leases go, and those that stay are live at a later moment
  in_force-retain : (stays : ℕ × ℕ → Bool) (moment : ℕ) → leases.moment ≤ moment
      → ((client number : ℕ) (lease : Lease) → stays (client, number) ≡ true → get leases.rows (client, number) ≡ Some lease → is_live moment lease ≡ true)
      → AreInForce (lease_at (retain stays leases.rows) moment)
  in_force-retain stays moment later live_still = record { live = live; compatible = compatible-retain leases stays moment later in_force.compatible }
    where
      live : (client number : ℕ) (lease : Lease) → get (retain stays leases.rows) (client, number) ≡ Some lease → is_live moment lease ≡ true
      live client number lease has = by (stays (client, number)) refl (sym (get-retain stays leases.rows (client, number)) ∙ has)
        where
          by : (b : Bool) → stays (client, number) ≡ b → cond b (get leases.rows (client, number)) None ≡ Some lease → is_live moment lease ≡ true
          by true is there = live_still client number lease is there
          by false is there = cc

  pub in_force-fewer : (stays : ℕ × ℕ → Bool) → AreInForce (lease_at (retain stays leases.rows) leases.moment)
  in_force-fewer stays = in_force-retain stays leases.moment (omega arith) (λ client number lease is has. in_force.live client number lease has)

  pub in_force-remove : (key : ℕ × ℕ) → AreInForce (lease_at (remove leases.rows key) leases.moment)
  unfolding remove
  in_force-remove key = in_force-fewer (λ k. not (eq_by_cmp (pairs numbers numbers).compare key k))

  pub in_force-live_at : (moment : ℕ) → leases.moment ≤ moment → AreInForce (lease_at (live_at moment leases.rows) moment)
  unfolding live_at
  in_force-live_at moment later =
      in_force-retain (λ key. is_some_and (get leases.rows key) (is_live moment)) moment later
      (λ client number lease is has. sym (ap (λ o. is_some_and o (is_live moment)) has) ∙ is)

  in_force-without_node : (node : ℕ) → AreInForce (lease_at (without_node leases.rows node) leases.moment)
  unfolding on_those
  in_force-without_node node = in_force-fewer (λ key. not (key.1 == node))

pub in_force-without_nodes : (leases : Leases) → AreInForce leases → (nodes : List ℕ) → AreInForce (without_nodes_in leases nodes)
in_force-without_nodes leases in_force [] = in_force
in_force-without_nodes leases in_force (node ∷ nodes) =
    in_force-without_nodes (lease_at (without_node leases.rows node) leases.moment) (in_force-without_node leases in_force node) nodes

-- where rows were changed, or stay as they were, they are in force
module _ {A E : Type 0} (old new : LeaseRows A) (table : LeaseTable) (moment : ℕ) where
  pub in_force-changed : (result : Result (Unit {0}) E) → AreInForce (lease_at (table_in old) moment) → AreInForce (lease_at table moment)
      → OnOk result (table_in new ≡ table) → OnErr result (new ≡ old) → AreInForce (lease_at (table_in new) moment)
  in_force-changed (Ok done) before after made kept = subst (λ t. AreInForce (lease_at t moment)) (sym made) after
  in_force-changed (Err error) before after made kept = subst (λ (r : LeaseRows A). AreInForce (lease_at (table_in r) moment)) (sym kept) before

pub none_mapped : {X Y : Type 0} (f : X → Y) (o : Option X) → None ≡ option_map f o → o ≡ None
none_mapped f None none = refl
none_mapped f (Some x) none = cc

-- ---- the leases of one client alone

module _ (client : ℕ) where
  -- all leases are the client's, and each is for writing up to moment 1
  AreWritesAlone : LeaseTable → Type 0
  AreWritesAlone rows = (holder number : ℕ) (lease : Lease) → get rows (holder, number) ≡ Some lease → (holder ≡ client) × (lease ≡ first_write)

  inserted_alone : (rows : LeaseTable) (node : ℕ) → AreWritesAlone rows → AreWritesAlone (insert rows (client, node) first_write)
  unfolding AreWritesAlone
  inserted_alone rows node alone holder number lease has =
      by (eq_by_cmp (pairs numbers numbers).compare (holder, number) (client, node)) refl (sym (get-insert rows (client, node) first_write (holder, number)) ∙ has)
    where
      by : (b : Bool) → eq_by_cmp (pairs numbers numbers).compare (holder, number) (client, node) ≡ b → cond b (Some first_write) (get rows (holder, number)) ≡ Some lease → (holder ≡ client) × (lease ≡ first_write)
      by true tie is = (ap (λ (k : ℕ × ℕ). k.0) (tied (pairs numbers numbers) (holder, number) (client, node) tie), cc)
      by false tie is = alone holder number lease is

  write_alone : (rows : LeaseTable) (node : ℕ) → AreWritesAlone rows → AreWritesAlone (with_write rows client node)
  write_alone rows node alone = at (is_some (get rows (client, node)))
    where
      at : (b : Bool) → AreWritesAlone (if b then rows else insert rows (client, node) first_write)
      at true = alone
      at false = inserted_alone rows node alone

  writes_alone : (rows : LeaseTable) (nodes : List ℕ) → AreWritesAlone rows → AreWritesAlone (with_writes rows client nodes)
  writes_alone rows [] alone = alone
  writes_alone rows (node ∷ nodes) alone = writes_alone (with_write rows client node) nodes (write_alone rows node alone)

  none_alone : AreWritesAlone empty
  unfolding AreWritesAlone get
  none_alone holder number lease has = cc

  pub writer_in_force : (nodes : List ℕ) → AreInForce (leases_of_writer client nodes)
  unfolding AreWritesAlone
  writer_in_force nodes =
      let alone = writes_alone empty nodes none_alone in
      record {
        live = λ holder number lease has. ap (is_live 0) (alone holder number lease has).1;
        compatible = λ one other number first second apart has has'. absurd (apart ((alone one number first has.0).0 ∙ sym (alone other number second has'.0).0));
      }
