-- The places in which no block of a file lies, as runs.
use Rattle.std.specs.Prelude.{ℕ, ◌+◌, ◌<◌, ◌==◌, ◌&&◌, nat_lt, nat_le, Bool, List, [], ◌∷◌, filter, if◌then◌else◌}
use Rattle.std.specs.List.{list_any}
use Rattle.kfs_model.specs.Placement.{TierSizes, Placement, tier_size, is_free, below}

-- a run of places: the first one, and how many
pub record Run : Type 0 where
  pub first : ℕ
  pub count : ℕ

-- whether the place is in the run
abbrev pub is_in : Run → (place : ℕ) → Bool
is_in run place = nat_le run.first place && nat_lt place (run.first + run.count)

abbrev pub is_in_one : List Run → (place : ℕ) → Bool
is_in_one runs place = list_any (λ run. is_in run place) runs

-- the runs with this place added in front: it joins the first run if it is next to it, and else is a
-- run of its own
abbrev pub joined : (place : ℕ) → List Run → List Run
joined place [] = record { first = place; count = 1 } ∷ []
joined place (run ∷ runs) =
    if place + 1 == run.first then record { first = place; count = run.count + 1 } ∷ runs else record { first = place; count = 1 } ∷ run ∷ runs

-- the runs that ascending places form
unfoldable pub runs_of : List ℕ → List Run
runs_of [] = []
runs_of (place ∷ places) = joined place (runs_of places)

-- the runs of the places of a tier in which no block lies
abbrev pub free_runs : TierSizes → Placement → (tier : ℕ) → List Run
free_runs sizes placement tier = runs_of (filter (λ place. is_free placement (record { tier = tier; place = place })) (below (tier_size sizes tier)))

-- no run is empty, and between two runs there is a place
abbrev pub AreApart : List Run → Type 0
AreApart [] = Unit {0}
AreApart (run ∷ []) = 0 < run.count
AreApart (run ∷ next ∷ runs) = (0 < run.count) × (run.first + run.count < next.first) × AreApart (next ∷ runs)
