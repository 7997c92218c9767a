-- What the table of a map's entries shows, and the table once one entry has changed.
use Rattle.std.proofs.Common.{◌≡◌, ℕ, Bool, true, false, cond, not, List, [], ◌∷◌, length, Option, Some, None, unwrap_or, Result, Ok, Err, refl, sym, ap, subst, ◌∙◌, inl, inr, arith}
use Rattle.std.specs.Prelude.{IfSome, OnOk, OnErr}
use Rattle.std.specs.Ordering.{nat_cmp, eq_by_cmp}
use Rattle.std.specs.Map.{lookup}
use Rattle.std.specs.BTreeMap.{is_at}
use Rattle.std.specs.Cmp.{eq_by_cmp_equiv, nat_cmp_total}
use Rattle.std.proofs.lemmas.Bool.{cases_eq}
use Rattle.std.proofs.lemmas.Bool.Decides.{nat_tests}
use Rattle.kfs_model.specs.Limits.{block_size}
use Rattle.kfs_model.specs.Table.{empty, get, insert, remove}
use Rattle.kfs_model.proofs.TableLaws.{get-insert, get-remove, same_table}
use Rattle.kfs_image.specs.Tier.Blocks.{BlockTable, block_at, with_room, without_room, KeepsBlocks, AreWhole}
use Rattle.kfs_image.specs.Tier.Slots.{Slots, held_at, SetsSlot, blocks_of}

pub get-blocks_of : (entries : List (ℕ × Option (List ℕ))) (q : ℕ) → get (blocks_of entries) q ≡ lookup (is_at (nat_cmp q)) entries
unfolding blocks_of get
get-blocks_of [] q = refl
get-blocks_of (entry ∷ entries) q =
    get-insert (blocks_of entries) entry.0 entry.1 q ∙ ap (λ rest. cond (eq_by_cmp nat_cmp q entry.0) (Some entry.1) rest) (get-blocks_of entries q)

pub blocks_of-none : (entries : List (ℕ × Option (List ℕ))) → entries ≡ [] → blocks_of entries ≡ empty
unfolding blocks_of
blocks_of-none entries none = ap blocks_of none

pub ruleset shown = (get-blocks_of)

-- what the place's slot shows
shown_there : (slots : Slots) (place : ℕ) → block_at (blocks_of slots.entries) place ≡ held_at slots place
shown_there slots place = ap (λ slot. unwrap_or slot None) (get-blocks_of slots.entries place)

module _ (old new : Slots) (place : ℕ) where
  pub blocks_of-insert : (slot : Option (List ℕ)) → SetsSlot old new place (Some slot) → blocks_of new.entries ≡ insert (blocks_of old.entries) place slot
  blocks_of-insert slot changed =
      same_table (blocks_of new.entries) (insert (blocks_of old.entries) place slot)
      (λ q.
      get-blocks_of new.entries q ∙ changed q ∙ ap (λ rest. cond (eq_by_cmp nat_cmp q place) (Some slot) rest) (sym (get-blocks_of old.entries q))
      ∙ sym (get-insert (blocks_of old.entries) place slot q))

  pub blocks_of-with_room : SetsSlot old new place (Some (held_at old place)) → blocks_of new.entries ≡ with_room (blocks_of old.entries) place
  blocks_of-with_room changed = blocks_of-insert (held_at old place) changed ∙ ap (insert (blocks_of old.entries) place) (sym (shown_there old place))

  turned : (a b : Bool) (rest : Option (Option (List ℕ))) → a ≡ b → cond a None rest ≡ cond (not b) rest None
  turned a true rest same = ap (λ b. cond b None rest) same
  turned a false rest same = ap (λ b. cond b None rest) same

  pub blocks_of-remove : SetsSlot old new place None → blocks_of new.entries ≡ remove (blocks_of old.entries) place
  blocks_of-remove changed =
      same_table (blocks_of new.entries) (remove (blocks_of old.entries) place)
      (λ q.
      get-blocks_of new.entries q ∙ changed q ∙ ap (λ rest. cond (eq_by_cmp nat_cmp q place) None rest) (sym (get-blocks_of old.entries q))
      ∙ turned (eq_by_cmp nat_cmp q place) (eq_by_cmp nat_cmp place q) (get (blocks_of old.entries) q) ((eq_by_cmp_equiv nat_cmp_total).symm q place)
      ∙ sym (get-remove (blocks_of old.entries) place q))

  pub blocks_of-without_room : (held_at old place ≡ None → SetsSlot old new place None) → IfSome (held_at old place) (λ _. new.entries ≡ old.entries)
      → blocks_of new.entries ≡ without_room (blocks_of old.entries) place
  blocks_of-without_room unwritten written =
      by_slot (block_at (blocks_of old.entries) place) (λ none. blocks_of-remove (unwritten (sym (shown_there old place) ∙ none)))
      (subst (λ slot. IfSome slot (λ _. new.entries ≡ old.entries)) (sym (shown_there old place)) written)
    where
      by_slot : (slot : Option (List ℕ)) → (slot ≡ None → blocks_of new.entries ≡ remove (blocks_of old.entries) place) → IfSome slot (λ _. new.entries ≡ old.entries)
          → blocks_of new.entries ≡ elim slot as (λ _. BlockTable) [ None ↦ remove (blocks_of old.entries) place | Some bytes ↦ blocks_of old.entries ]
      by_slot None gone same = gone refl
      by_slot (Some bytes) gone same = ap blocks_of same

pub eq_by_cmp-same : (k q : ℕ) → k ≡ q → eq_by_cmp nat_cmp k q ≡ true
eq_by_cmp-same k q same = grind (arith, nat_tests)

pub eq_by_cmp-other : (k q : ℕ) → (k ≡ q → ⊥) → eq_by_cmp nat_cmp k q ≡ false
eq_by_cmp-other k q other = grind (arith, nat_tests)

module _ (blocks : BlockTable) (place : ℕ) where
  KeepsBlocks-with_room : KeepsBlocks blocks (with_room blocks place)
  KeepsBlocks-with_room q =
      ap (λ slot. unwrap_or slot None) (get-insert blocks place (block_at blocks place) q)
      ∙ elim (cases_eq q place) [
        | inl same ↦ ap (λ b. unwrap_or (cond b (Some (block_at blocks place)) (get blocks q)) None) (eq_by_cmp-same q place same) ∙ ap (block_at blocks) (sym same)
        | inr other ↦ ap (λ b. unwrap_or (cond b (Some (block_at blocks place)) (get blocks q)) None) (eq_by_cmp-other q place other)
      ]

  KeepsBlocks-remove : block_at blocks place ≡ None → KeepsBlocks blocks (remove blocks place)
  KeepsBlocks-remove unwritten q =
      ap (λ slot. unwrap_or slot None) (get-remove blocks place q)
      ∙ elim (cases_eq place q) [
        | inl same ↦ ap (λ b. unwrap_or (cond (not b) (get blocks q) None) None) (eq_by_cmp-same place q same) ∙ sym (ap (block_at blocks) (sym same) ∙ unwritten)
        | inr other ↦ ap (λ b. unwrap_or (cond (not b) (get blocks q) None) None) (eq_by_cmp-other place q other)
      ]

  pub KeepsBlocks-without_room : KeepsBlocks blocks (without_room blocks place)
  KeepsBlocks-without_room = by_slot (block_at blocks place) refl
    where
      by_slot : (slot : Option (List ℕ)) → block_at blocks place ≡ slot → KeepsBlocks blocks (elim slot as (λ _. BlockTable) [ None ↦ remove blocks place | Some bytes ↦ blocks ])
      by_slot None unwritten = KeepsBlocks-remove unwritten
      by_slot (Some bytes) written = λ q. refl

-- a slot was made, or there was no memory for it
pub KeepsBlocks-after : {E : Type 0} (result : Result (Unit {0}) E) (old new : Slots) (place : ℕ) → OnOk result (SetsSlot old new place (Some (held_at old place)))
    → OnErr result (new.entries ≡ old.entries) → KeepsBlocks (blocks_of old.entries) (blocks_of new.entries)
KeepsBlocks-after (Ok done) old new place made kept = subst (KeepsBlocks (blocks_of old.entries)) (sym (blocks_of-with_room old new place made)) (KeepsBlocks-with_room (blocks_of old.entries) place)
KeepsBlocks-after (Err error) old new place made kept = λ q. ap (λ entries. block_at (blocks_of entries) q) kept

pub AreWhole-empty : AreWhole empty
unfolding get
AreWhole-empty = record { whole = λ place bytes none. cc }

pub AreWhole-kept : (old new : BlockTable) → KeepsBlocks old new → AreWhole old → AreWhole new
AreWhole-kept old new keeps are = record { whole = λ place bytes there. are.whole place bytes (sym (keeps place) ∙ there) }

module _ (blocks : BlockTable) (place : ℕ) (are : AreWhole blocks) where
  pub AreWhole-insert : (slot : Option (List ℕ)) → ((bytes : List ℕ) → slot ≡ Some bytes → length bytes ≡ block_size) → AreWhole (insert blocks place slot)
  AreWhole-insert slot whole = record {
    whole = λ q bytes there. at q bytes (eq_by_cmp nat_cmp q place) (ap (λ o. unwrap_or o None) (sym (get-insert blocks place slot q)) ∙ there);
  }
    where
      at : (q : ℕ) (bytes : List ℕ) (b : Bool) → unwrap_or (cond b (Some slot) (get blocks q)) None ≡ Some bytes → length bytes ≡ block_size
      at q bytes true there = whole bytes there
      at q bytes false there = are.whole q bytes there

  pub AreWhole-remove : AreWhole (remove blocks place)
  AreWhole-remove = record {
    whole = λ q bytes there. at q bytes (not (eq_by_cmp nat_cmp place q)) (ap (λ o. unwrap_or o None) (sym (get-remove blocks place q)) ∙ there);
  }
    where
      at : (q : ℕ) (bytes : List ℕ) (b : Bool) → unwrap_or (cond b (get blocks q) None) None ≡ Some bytes → length bytes ≡ block_size
      at q bytes true there = are.whole q bytes there
      at q bytes false there = cc
