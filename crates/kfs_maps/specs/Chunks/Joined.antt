-- The entries of runs in a row. A run is a chunk, or a part of several chunks.
use Rattle.std.specs.Prelude.{◌≡◌, T, ℕ, ◌≤◌, Bool, false, Result, Ok, Err, Option, List, [], ◌∷◌, ◌++◌, length, if◌then◌else◌}
use Rattle.std.specs.declared.cmp.Ordering.{Ordering}
use Rattle.std.specs.declared.ops.Bound.{Bound}
use Rattle.std.specs.declared.sync.Arc.{Arc}
use Rattle.std.specs.FinMap.Entries.{find, is_sorted}
use Rattle.kfs_maps.specs.Chunks.Buffer.{Buffer}
use Rattle.kfs_maps.specs.Chunks.Starts.{before, reaches}

-- a chunk may have so many entries: 1 to 256
abbrev pub IsSized : {X : Type 0} → List X → Type 0
IsSized entries = (1 ≤ length entries) × (length entries ≤ 256)

-- there is at least one entry
abbrev pub IsNotEmpty : {X : Type 0} → List X → Type 0
IsNotEmpty entries = 1 ≤ length entries

module _ {K V A B : Type 0} (entries : B → List (K × V)) where
  -- the entries of all runs
  abbrev pub joined_by : List (Arc B A) → List (K × V)
  joined_by [] = []
  joined_by (run ∷ runs) = entries run.value ++ joined_by runs

  -- P holds of the entries of each run
  abbrev pub EachBy : (List (K × V) → Type 0) → List (Arc B A) → Type 0
  EachBy P [] = Unit {0}
  EachBy P (run ∷ runs) = P (entries run.value) × EachBy P runs

module _ {K V A : Type 0} where
  -- the entries of all chunks
  abbrev pub joined : List (Arc (Buffer K V) A) → List (K × V)
  joined chunks = joined_by (λ (chunk : Buffer K V). chunk.pairs) chunks

  -- P holds of the entries of each chunk
  abbrev pub Each : (List (K × V) → Type 0) → List (Arc (Buffer K V) A) → Type 0
  Each P chunks = EachBy (λ (chunk : Buffer K V). chunk.pairs) P chunks

  -- each chunk has 1 to 256 entries
  abbrev pub AreSized : List (Arc (Buffer K V) A) → Type 0
  AreSized chunks = Each IsSized chunks

  -- each part has an entry
  abbrev pub AreFilled : List (Arc (Buffer K V) A) → Type 0
  AreFilled parts = Each IsNotEmpty parts

module _ {K V A B : Type 0} (cmp : K → K → Ordering) (entries : B → List (K × V)) where
  -- the index of the first run with an entry at the start or behind it, or the number of runs
  abbrev pub first_run_from : Bound K → List (Arc B A) → ℕ
  first_run_from start runs = before (λ (run : Arc B A). reaches cmp start (entries run.value)) runs

module _ {K V A : Type 0} (cmp : K → K → Ordering) where
  -- the same of chunks
  abbrev pub first_chunk_from : Bound K → List (Arc (Buffer K V) A) → ℕ
  first_chunk_from start chunks = first_run_from cmp (λ (chunk : Buffer K V). chunk.pairs) start chunks

module _ {K V : Type 0} (cmp : K → K → Ordering) where
  -- This is found at the key among the entries, whatever stands in front of them and behind them.
  abbrev pub Tells : K → (entries : List (K × V)) → Option V → Type 0
  Tells q entries told = (xs ys : List (K × V)) → T (is_sorted cmp (xs ++ (entries ++ ys))) → find cmp q (xs ++ (entries ++ ys)) ≡ told

  -- The value at the key among the entries is that among a few of them, whatever stands in front of
  -- the entries and behind them.
  abbrev pub TellsAlone : K → (entries few : List (K × V)) → Type 0
  TellsAlone q entries few = Tells q entries (find cmp q few)

-- whether the edits were made in the present chunks
abbrev pub were_made : {E : Type 0} → Result Bool E → Bool
were_made (Ok made) = made
were_made (Err error) = false

-- the first value if the edits were made, else the second
abbrev pub if_made : {E X : Type 0} → Result Bool E → X → X → X
if_made result made kept = if were_made result then made else kept
