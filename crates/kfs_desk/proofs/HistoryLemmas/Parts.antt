-- A legal docket from one of its states on.
use Rattle.std.proofs.Common.{◌≡◌, ℕ, zero, suc, List, [], ◌∷◌, take, drop, Option, None, Some, refl, subst}
use Rattle.kfs_model.specs.Judgement.{State}
use Rattle.kfs_model.specs.Machine.{Row, after, next}
use Rattle.kfs_desk.specs.History.Legal.{IsLegalDocket}

-- The rows that are left are a legal docket from the state on to which the first ones lead.
pub legal_since : (m : ℕ) (opening s t : State) (docket : List Row) → IsLegalDocket opening docket t → after opening (take m docket) ≡ Some s → IsLegalDocket s (drop m docket) t
unfolding after
legal_since zero opening s t docket legal leads = let same : opening ≡ s = cc in subst (λ o. IsLegalDocket o docket t) same legal
legal_since (suc m) opening s t [] legal leads = let same : opening ≡ s = cc in subst (λ o. IsLegalDocket o [] t) same legal
legal_since (suc m) opening s t (row ∷ rows) legal leads =
    by (next opening row) refl legal.fit leads (λ u is fit first. legal_since m u s t rows (record { read = legal.read.1; fit = fit; least = legal.least.1 u is }) first)
  where
    by : (found : Option State) → next opening row ≡ found → ◌≡◌ {A = Option State} (elim found [ None ↦ None | Some u ↦ after u rows ]) (Some t)
        → ◌≡◌ {A = Option State} (elim found [ None ↦ None | Some u ↦ after u (take m rows) ]) (Some s)
        → ((u : State) → next opening row ≡ Some u → after u rows ≡ Some t → after u (take m rows) ≡ Some s → IsLegalDocket s (drop m rows) t) → IsLegalDocket s (drop m rows) t
    by None is fit first later = cc
    by (Some u) is fit first later = later u is fit first
