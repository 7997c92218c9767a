-- What a decoder answered, in terms of the definitions.
use Rattle.std.specs.Prelude.{ℕ, List, map, Result, Ok, Err}
use Rattle.std.specs.List.{AllByRecursion}
use Rattle.kfs_entry.specs.declared.fault.SpellFault.{SpellFault}
use Rattle.kfs_entry.specs.declared.fault.SpellFault.TheVariants as faults
use Rattle.kfs_types.specs.declared.entry.Log.{Log as CodeLog}
use Rattle.kfs_types.specs.declared.plan.Plan.{Plan as CodePlan}
use Rattle.kfs_model.specs.Entry.{Log}
use Rattle.kfs_model.specs.PlanRow.{Plan}
use Rattle.kfs_model.specs.Spelling.{SpellingFault, BadHeader, BadEntry, Trailing, BadRow}
use Rattle.kfs_types.specs.Views.{entry_of, name_row_of, node_row_of, piece_of, IsSpanned, IsWithin}

-- the log, with the payloads' bytes in place of their spans
abbrev pub log_of : {A : Type 0} → List ℕ → CodeLog A (List ℕ) → Log
log_of source l = record { version = l.version; client = l.client; entries = map (entry_of source) l.entries }

-- each payload's span lies in a source of this length
abbrev pub SpansAreWithin : {A : Type 0} → ℕ → CodeLog A (List ℕ) → Type 0
SpansAreWithin len l = AllByRecursion (IsWithin len) l.entries

-- no payload's span ends before it starts or is longer than a payload may be
abbrev pub AreSpanned : {A : Type 0} → CodeLog A (List ℕ) → Type 0
AreSpanned l = AllByRecursion IsSpanned l.entries

abbrev pub plan_of : {A : Type 0} → CodePlan A (List ℕ) → Plan
plan_of p = record { version = p.version; names = map name_row_of p.names; nodes = map node_row_of p.nodes; pieces = map piece_of p.pieces }

-- P holds of the refusal, unless it is that memory ran out
abbrev pub OnRefusal : {M : Type 0} → (Result M SpellingFault → Type 0) → SpellFault → Type 0
OnRefusal P faults.BadHeader = P (Err BadHeader)
OnRefusal P (faults.BadEntry k) = P (Err (BadEntry k))
OnRefusal P faults.Trailing = P (Err Trailing)
OnRefusal P (faults.BadRow part k) = P (Err (BadRow part k))
OnRefusal P faults.OutOfMemory = Unit {0}

-- P holds of the answer, unless it is that memory ran out
abbrev pub OnAnswer : {V M : Type 0} → (V → M) → (Result M SpellingFault → Type 0) → Result V SpellFault → Type 0
OnAnswer view P (Ok v) = P (Ok (view v))
OnAnswer view P (Err fault) = OnRefusal P fault
