-- The leases of one client, listed one behind another.
use Rattle.std.proofs.Common.{◌≡◌, ℕ, ◌+◌, ◌-◌, ◌*◌, ◌<◌, ◌≤◌, ◌&&◌, Bool, true, false, cond, List, [], ◌∷◌, ◌++◌, drop, filter, get_or, length, length-append, min, take, refl, sym, ap, subst, ◌∙◌, append-nil, append_assoc, arith}
use Rattle.std.specs.Prelude.{nat_lt}
use Rattle.std.specs.List.{flat_map}
use Rattle.std.proofs.lemmas.Grind.{flat_map-append}
use Rattle.std.proofs.lemmas.List.{take_all}
use Rattle.kfs_model.specs.Lease.{LeaseKind, Leases, ReadLease, WriteLease}
use Rattle.kfs_model.specs.Spelling.{number32, number64}
use Rattle.kfs_model.specs.Table.{get}
use Rattle.kfs_lease.specs.InForce.{AreLive}
use Rattle.kfs_lease.specs.LeaseLists.{AreFirstOf, Ascend, LeaseRow, lease_in, listed_leases, listed_table}
use Rattle.kfs_lease.specs.ShownLists.{row_shown, rows_shown}
use Rattle.kfs_lease.specs.declared.leases.listed.LeaseRow.{LeaseRow as CodeRow}
use Rattle.kfs_lease.proofs.ListLemmas.HandedIn.{shown_more, whole}
use Rattle.kfs_lease.proofs.ListLemmas.Lawful.{stands}
use Rattle.kfs_desk.specs.Machine.{Desk}
use Rattle.kfs_server.specs.LookUps.Found.{AreFirst, AreLeases, HasNext, LeasesAre, found_limit, held_bytes, is_asked, is_held}

-- a test that each row passes leaves all of them
both_filter : (test more : LeaseRow → Bool) (rows : List LeaseRow) → ((before : List LeaseRow) (row : LeaseRow) (rest : List LeaseRow) → rows ≡ before ++ row ∷ rest → more row ≡ true)
    → filter (λ row. test row && more row) rows ≡ filter test rows
both_filter test more [] each = refl
both_filter test more (row ∷ rows) each =
    by (test row) (more row) (each [] row rows refl) (both_filter test more rows (λ before other rest is. each (row ∷ before) other rest (ap (λ (rs : List LeaseRow). row ∷ rs) is)))
  where
    by : (a b : Bool) → b ≡ true → filter (λ r. test r && more r) rows ≡ filter test rows → cond (a && b) (row ∷ filter (λ r. test r && more r) rows) (filter (λ r. test r && more r) rows) ≡ cond a (row ∷ filter test rows) (filter test rows)
    by true true passes same = ap (λ (rs : List LeaseRow). row ∷ rs) same
    by true false passes same = cc
    by false b passes same = same

-- leases in force are live
pub held_is_asked : (leases : Leases) (rows : List LeaseRow) (client first : ℕ) → Ascend rows → listed_leases leases.moment rows ≡ leases → AreLive leases → filter (is_held leases.moment client first) rows ≡ filter (is_asked client first) rows
held_is_asked leases rows client first ascend all live =
    both_filter (is_asked client first) (λ row. nat_lt leases.moment row.end) rows (λ before row rest is.
    live row.client row.number (lease_in row)
    (ap (λ (l : Leases). get l.rows (row.client, row.number)) (sym all) ∙ ap (λ (rs : List LeaseRow). get (listed_table rs) (row.client, row.number)) is ∙ stands before row rest (ascend before row rest is)))

kind_len : (kind : LeaseKind) (number end : ℕ) → length (held_bytes (record { number = number; client = 0; kind = kind; end = end })) ≡ 13
unfolding number32 number64
kind_len ReadLease number end = refl
kind_len WriteLease number end = refl

held_len : (row : LeaseRow) → length (held_bytes row) ≡ 13
held_len row = kind_len row.kind row.number row.end

held_lens : (rows : List LeaseRow) → length (flat_map held_bytes rows) ≡ 13 * length rows
held_lens [] = refl
held_lens (row ∷ rows) = omega (arith, length-append (held_bytes row) (flat_map held_bytes rows), held_len row, held_lens rows)

module _ (room : ℕ) (rows : List CodeRow) (i : ℕ) (d : CodeRow) (below : i < length rows) where
  abbrev row : LeaseRow
  row = row_shown (get_or rows i d)

  pub taken_in : (bytes new : List ℕ) → bytes ≡ flat_map held_bytes (rows_shown (take i rows)) → new ≡ bytes ++ held_bytes row → new ≡ flat_map held_bytes (rows_shown (take (i + 1) rows))
  taken_in bytes new so_far more =
      more
      ∙ ap (λ (bs : List ℕ). bs ++ held_bytes row) so_far
      ∙ ap (λ (bs : List ℕ). flat_map held_bytes (rows_shown (take i rows)) ++ bs) (sym (append-nil (held_bytes row)))
      ∙ sym (flat_map-append held_bytes (rows_shown (take i rows)) (row ∷ []))
      ∙ ap (flat_map held_bytes) (sym (shown_more rows i d below))

  pub taken_len : (bytes new : List ℕ) → length bytes + 13 ≤ room → new ≡ bytes ++ held_bytes row → length new ≤ room
  taken_len bytes new fits more = omega (arith, fits, ap length more ∙ length-append bytes (held_bytes row), held_len row)

  -- the next one has no room
  pub held_full : (bytes : List ℕ) → bytes ≡ flat_map held_bytes (rows_shown (take i rows)) → length bytes ≤ room → room - length bytes < 13 → AreFirst (rows_shown rows) room true bytes
  held_full bytes so_far within full = record {
    listed = rows_shown (take i rows);
    left = row ∷ rows_shown (drop (i + 1) rows);
    parts = whole rows i d below;
    said = so_far;
    fit = within;
    next = (omega arith, full);
  }

-- all are gone through
pub held_ends : (room : ℕ) (rows : List CodeRow) (i : ℕ) (bytes : List ℕ) → length rows ≤ i → bytes ≡ flat_map held_bytes (rows_shown (take i rows)) → length bytes ≤ room → AreFirst (rows_shown rows) room false bytes
held_ends room rows i bytes all so_far within = record {
  listed = rows_shown rows;
  left = [];
  parts = sym (append-nil (rows_shown rows));
  said = so_far ∙ ap (λ (rs : List CodeRow). flat_map held_bytes (rows_shown rs)) (take_all i rows all);
  fit = within;
  next = refl;
}

-- the first of more leases than so many bytes hold are the first of all
first_of_all : (own rows left : List LeaseRow) (room at_most : ℕ) (more : Bool) (bytes : List ℕ) → own ≡ rows ++ left → (length rows < at_most → left ≡ []) → room < 13 * at_most → AreFirst rows room more bytes
    → AreFirst own room more bytes
first_of_all own rows left room at_most more bytes parts whole fewer found = record {
  listed = found.listed;
  left = found.left ++ left;
  parts = parts ∙ ap (λ (rs : List LeaseRow). rs ++ left) found.parts ∙ append_assoc found.listed found.left left;
  said = found.said;
  fit = found.fit;
  next = next more found.next;
}
  where
    next : (m : Bool) → HasNext (room - length bytes) m found.left → HasNext (room - length bytes) m (found.left ++ left)
    next true (some, less) = (omega (arith, some, length-append found.left left), less)
    next false none =
        let listed : length rows ≡ length found.listed + length found.left = ap length found.parts ∙ length-append found.listed found.left in
        let long : length bytes ≡ 13 * length found.listed = ap length found.said ∙ held_lens found.listed in
        ap (λ (rs : List LeaseRow). rs ++ left) none ∙ whole (omega (arith, listed, long, ap length none, found.fit, fewer))

-- so a desk is answered, from the client's rows
pub held_found : (desk : Desk) (client first limit at_most : ℕ) (leases : Leases) (rows asked : List LeaseRow) (room : ℕ) (more : Bool) (bytes : List ℕ) → leases ≡ desk.state.leases → AreLive desk.state.leases
    → AreFirstOf leases client first at_most rows → asked ≡ rows → room ≡ min limit found_limit → room < 13 * at_most → AreFirst asked room more bytes → AreLeases desk client first limit (LeasesAre more bytes)
held_found desk client first limit at_most leases rows asked room more bytes shown live of_client is room_is fewer found =
    let all = subst (λ (l : Leases). listed_leases l.moment of_client.all ≡ l) shown of_client.same in
    let own = held_is_asked desk.state.leases of_client.all client first of_client.ascend all live ∙ of_client.parts in
    record {
      rows = of_client.all;
      ascend = of_client.ascend;
      all = all;
      more = more;
      bytes = bytes;
      held = subst (λ (n : ℕ). AreFirst (filter (is_held desk.state.leases.moment client first) of_client.all) n more bytes) room_is
          (first_of_all _ rows of_client.left room at_most more bytes own of_client.whole fewer (subst (λ (rs : List LeaseRow). AreFirst rs room more bytes) is found));
      said = refl;
    }
