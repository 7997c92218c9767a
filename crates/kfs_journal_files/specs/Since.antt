-- What might have been left since.
use Rattle.std.specs.Prelude.{◌⊎◌, ◌≤◌, ℕ, List, [], ◌∷◌, length}
use Rattle.std.proofs.Common.{inl, inr, arith}
use Rattle.kfs_journal.specs.Disk.{Files}
use Rattle.kfs_journal_files.specs.Events.{Event, Leaves}

abbrev pub Since : List Event → ℕ → Files → Type 0
Since [] t c = Leaves [] c
Since (event ∷ rest) t c = Leaves (event ∷ rest) c ⊎ ((t ≤ length rest) × Since rest t c)

pub now_counts : (events : List Event) (t : ℕ) (c : Files) → t ≤ length events → Leaves events c → Since events t c
now_counts [] t c le now = now
now_counts (event ∷ rest) t c le now = inl now

pub no_other : (events : List Event) (c : Files) → Since events (length events) c → Leaves events c
no_other [] c now = now
no_other (event ∷ rest) c (inl now) = now
no_other (event ∷ rest) c (inr past) = absurd (omega (arith, past.0))
