-- Where the entries of a log, or the rows of a plan's part, stop, by the code's fault.
use Rattle.std.specs.Prelude.{◌≡◌, ℕ, List}
use Rattle.kfs_model.specs.Spelling.{LacksRowBy}
use Rattle.kfs_entry.specs.declared.fault.SpellFault.{SpellFault}
use Rattle.kfs_entry.specs.declared.fault.SpellFault.TheVariants as faults

-- the fault is right: the entries stop at the index that it names, or memory ran out
abbrev pub EntryMissing : {R : Type 0} → (R → Type 0) → (R → List ℕ) → (List ℕ → Type 0) → ℕ → List ℕ → SpellFault → Type 0
EntryMissing fits spelling begins count bytes (faults.BadEntry k) = LacksRowBy fits spelling begins count k bytes
EntryMissing fits spelling begins count bytes faults.OutOfMemory = Unit {0}
EntryMissing fits spelling begins count bytes faults.BadHeader = ⊥
EntryMissing fits spelling begins count bytes faults.Trailing = ⊥
EntryMissing fits spelling begins count bytes (faults.BadRow part k) = ⊥

-- the same for the rows of this part of a plan
abbrev pub PartRowMissing : {R : Type 0} → (R → Type 0) → (R → List ℕ) → (List ℕ → Type 0) → ℕ → ℕ → List ℕ → SpellFault → Type 0
PartRowMissing fits spelling begins count number bytes (faults.BadRow part k) = (part ≡ number) × LacksRowBy fits spelling begins count k bytes
PartRowMissing fits spelling begins count number bytes faults.OutOfMemory = Unit {0}
PartRowMissing fits spelling begins count number bytes faults.BadHeader = ⊥
PartRowMissing fits spelling begins count number bytes faults.Trailing = ⊥
PartRowMissing fits spelling begins count number bytes (faults.BadEntry k) = ⊥
