-- A writer holds each node for which leases were made.
use Rattle.std.proofs.Common.{◌≡◌, ℕ, Bool, true, false, cond, List, [], ◌∷◌, Some, None, refl, sym, ap, subst, ◌∙◌, ◌⊎◌, inl, inr}
use Rattle.std.specs.Prelude.{◌&&◌, nat_lt, is_some, if◌then◌else◌}
use Rattle.std.specs.List.{AllByRecursion}
use Rattle.std.specs.Ordering.{eq_by_cmp}
use Rattle.std.specs.Cmp.{eq_by_cmp_equiv}
use Rattle.kfs_model.specs.Table.{numbers, pairs, get, insert, empty}
use Rattle.kfs_model.proofs.TableLaws.{get-insert}
use Rattle.kfs_model.specs.Check.{is_some_and}
use Rattle.kfs_model.specs.Lease.{LeaseTable, Leases, holds, is_write, is_live}
use Rattle.kfs_lease.specs.Writer.{first_write, with_write, with_writes, leases_of_writer}

module _ (client : ℕ) where
  -- the client has no other leases than those for writing up to moment 1
  AreWrites : LeaseTable → Type 0
  AreWrites rows = (number : ℕ) → (get rows (client, number) ≡ None) ⊎ (get rows (client, number) ≡ Some first_write)

  abbrev HasWrite : LeaseTable → ℕ → Type 0
  HasWrite rows number = get rows (client, number) ≡ Some first_write

  inserted_keeps : (rows : LeaseTable) (other number : ℕ) → HasWrite rows number → HasWrite (insert rows (client, other) first_write) number
  inserted_keeps rows other number has =
      get-insert rows (client, other) first_write (client, number) ∙ at (eq_by_cmp (pairs numbers numbers).compare (client, number) (client, other))
    where
      at : (b : Bool) → cond b (Some first_write) (get rows (client, number)) ≡ Some first_write
      at true = refl
      at false = has

  inserted_writes : (rows : LeaseTable) (other : ℕ) → AreWrites rows → AreWrites (insert rows (client, other) first_write)
  unfolding AreWrites
  inserted_writes rows other are number =
      subst (λ o. (o ≡ None) ⊎ (o ≡ Some first_write)) (sym (get-insert rows (client, other) first_write (client, number))) (at (eq_by_cmp (pairs numbers numbers).compare (client, number) (client, other)))
    where
      at : (b : Bool) → (cond b (Some first_write) (get rows (client, number)) ≡ None) ⊎ (cond b (Some first_write) (get rows (client, number)) ≡ Some first_write)
      at true = inr refl
      at false = are number

  inserted_has : (rows : LeaseTable) (number : ℕ) → HasWrite (insert rows (client, number) first_write) number
  inserted_has rows number =
      get-insert rows (client, number) first_write (client, number)
      ∙ ap (λ b. cond b (Some first_write) (get rows (client, number))) ((eq_by_cmp_equiv (pairs numbers numbers).total).refl (client, number))

  -- by whether the client has a lease on the node
  abbrev by_there : LeaseTable → ℕ → Bool → LeaseTable
  by_there rows number there = if there then rows else insert rows (client, number) first_write

  write_keeps : (rows : LeaseTable) (other number : ℕ) → HasWrite rows number → HasWrite (with_write rows client other) number
  write_keeps rows other number has = at (is_some (get rows (client, other)))
    where
      at : (b : Bool) → HasWrite (by_there rows other b) number
      at true = has
      at false = inserted_keeps rows other number has

  write_writes : (rows : LeaseTable) (other : ℕ) → AreWrites rows → AreWrites (with_write rows client other)
  write_writes rows other are = at (is_some (get rows (client, other)))
    where
      at : (b : Bool) → AreWrites (by_there rows other b)
      at true = are
      at false = inserted_writes rows other are

  write_has : (rows : LeaseTable) (number : ℕ) → AreWrites rows → HasWrite (with_write rows client number) number
  unfolding AreWrites
  write_has rows number are = at (is_some (get rows (client, number))) refl (are number)
    where
      at : (b : Bool) → is_some (get rows (client, number)) ≡ b → (get rows (client, number) ≡ None) ⊎ HasWrite rows number → HasWrite (by_there rows number b) number
      at true there (inl none) = let never : false ≡ true = sym (ap is_some none) ∙ there in absurd cc
      at true there (inr has) = has
      at false there some = inserted_has rows number

  writes_keep : (ns : List ℕ) (rows : LeaseTable) (number : ℕ) → HasWrite rows number → HasWrite (with_writes rows client ns) number
  writes_keep [] rows number has = has
  writes_keep (n ∷ ns) rows number has = writes_keep ns (with_write rows client n) number (write_keeps rows n number has)

  writes_have : (ns : List ℕ) (rows : LeaseTable) → AreWrites rows → AllByRecursion (HasWrite (with_writes rows client ns)) ns
  writes_have [] rows are = tt
  writes_have (n ∷ ns) rows are = (writes_keep ns (with_write rows client n) n (write_has rows n are), writes_have ns (with_write rows client n) (write_writes rows n are))

  none_yet : AreWrites empty
  unfolding AreWrites get
  none_yet number = inl refl

  held_with : (leases : Leases) (number : ℕ) → leases.moment ≡ 0 → get leases.rows (client, number) ≡ Some first_write → holds leases client number ≡ true
  held_with leases number moment has = ap (λ o. is_some_and o (λ lease. is_write lease.kind && is_live leases.moment lease)) has ∙ ap (λ m. nat_lt m 1) moment

  -- a writer holds each node for which leases were made
  pub writer_holds : (ns : List ℕ) → AllByRecursion (λ n. holds (leases_of_writer client ns) client n ≡ true) ns
  writer_holds ns = all ns (writes_have ns empty none_yet)
    where
      all : (ms : List ℕ) → AllByRecursion (HasWrite (with_writes empty client ns)) ms → AllByRecursion (λ n. holds (leases_of_writer client ns) client n ≡ true) ms
      all [] have = tt
      all (m ∷ ms) have = (held_with (leases_of_writer client ns) m refl have.0, all ms have.1)
