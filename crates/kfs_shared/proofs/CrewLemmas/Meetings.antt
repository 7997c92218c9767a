-- Workers whose passes met.
use Rattle.std.proofs.Common.{◌≡◌, ℕ, List, [], ◌∷◌, ◌++◌, All, map, subst}
use Rattle.std.proofs.lemmas.List.Elements.{All-push, All-same}
use Rattle.std.specs.List.{concat}
use Rattle.kfs_shared.specs.Turns.Lists.{StartsWith}
use Rattle.kfs_shared.specs.declared.docketed.Docketed.{Ghosts}
use Rattle.kfs_shared.specs.declared.pass.Shared.{Shared}
use Rattle.kfs_shared.specs.Passes.{IsPassOf, started, seen, own}
use Rattle.kfs_shared.specs.declared.crew.worker.Worker.{Worker}
use Rattle.kfs_shared.specs.Crew.Crew.{Pairs, Achieved}
use Rattle.kfs_shared.proofs.CrewLemmas.Crews.{pairs_all, achieved}

module _ {D A T O W : Type 0} {G : Ghosts D O W} where
  abbrev Began : Shared D A O W → List W → Worker D T O W G → Type 0
  Began s from w = IsPassOf s w.pass × (own w.pass ≡ []) × (seen w.pass ≡ from)

  abbrev Did : (O → List W → List W → List ℕ → T → T → Type 0) → Shared D A O W → Worker D T O W G → Worker D T O W G → Type 0
  Did P s v w = IsPassOf s w.pass × P (started G.opening s) (seen v.pass) (seen w.pass) (own w.pass) v.duty w.duty

  pub passes : (P : O → List W → List W → List ℕ → T → T → Type 0) (s : Shared D A O W) (from : List W) (xs ys : List (Worker D T O W G)) → Pairs (Did P s) xs ys → All (Began s from) xs → All (λ w. IsPassOf s w.pass) ys
  passes P s from xs ys h q = pairs_all (Began s from) (Did P s) (λ w. IsPassOf s w.pass) (λ v w b d. d.0) xs ys h q

  pub crew_achieved : (P : O → List W → List W → List ℕ → T → T → Type 0) (s : Shared D A O W) (from upto : List W) (xs ys : List (Worker D T O W G)) (zs : List T) (all : List ℕ) → Pairs (Did P s) xs ys → All (Began s from) xs → All (λ w. StartsWith upto (seen w.pass)) ys → zs ≡ map (λ (w : Worker D T O W G). w.duty) ys → all ≡ concat (map (λ (w : Worker D T O W G). own w.pass) ys) → Achieved (P (started G.opening s)) from upto all (map (λ (w : Worker D T O W G). w.duty) xs) zs
  crew_achieved P s from upto xs ys zs all = achieved (λ w. w.duty) (λ w. seen w.pass) (λ w. own w.pass) (Began s from) (Did P s) (P (started G.opening s)) from upto
      (λ v w b d. subst (λ h. P (started G.opening s) h (seen w.pass) (own w.pass) v.duty w.duty) b.2 d.1) xs ys zs all

  -- one more is hired
  pub hired : (s : Shared D A O W) (from : List W) (xs ys : List (Worker D T O W G)) (x : Worker D T O W G) → ys ≡ xs ++ x ∷ [] → All (Began s from) xs → IsPassOf s x.pass → own x.pass ≡ [] → seen x.pass ≡ from → All (Began s from) ys
  hired s from xs ys x is all of none same = All-same (Began s from) ys (xs ++ x ∷ []) is (All-push (Began s from) xs x all (of, none, same))
