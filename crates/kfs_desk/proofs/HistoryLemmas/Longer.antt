-- A docket with a row more is legal where the row fits.
use Rattle.std.proofs.Common.{◌≡◌, List, [], ◌∷◌, ◌++◌, Option, None, Some, refl, sym, ap, subst, ◌∙◌}
use Rattle.std.specs.List.{AllByRecursion}
use Rattle.kfs_model.specs.Judgement.{State}
use Rattle.kfs_model.specs.Machine.{IsRead, Row, after, next}
use Rattle.kfs_desk.specs.History.Least.{AreLeast, HaveLeastPlaces}
use Rattle.kfs_desk.specs.History.Legal.{IsLegalDocket}

-- The empty docket leads nowhere else.
pub leads_nowhere : (opening : State) → IsLegalDocket opening [] opening
unfolding after
leads_nowhere opening = record { read = tt; fit = refl; least = tt }

module _ (row : Row) where
  read_with : (rows : List Row) → AllByRecursion IsRead rows → IsRead row → AllByRecursion IsRead (rows ++ row ∷ [])
  read_with [] read last = (last, tt)
  read_with (first ∷ rows) read last = (read.0, read_with rows read.1 last)

  after_with : (opening s t : State) (rows : List Row) → after opening rows ≡ Some s → next s row ≡ Some t → after opening (rows ++ row ∷ []) ≡ Some t
  unfolding after
  after_with opening s t [] fit last = let same : opening ≡ s = cc in subst (λ o. after o (row ∷ []) ≡ Some t) (sym same) (by (next s row) last)
    where
      by : (found : Option State) → found ≡ Some t → elim found [ None ↦ None | Some t ↦ Some t ] ≡ Some t
      by None none = cc
      by (Some u) is = is
  after_with opening s t (first ∷ rows) fit last = by (next opening first) (λ u is. after_with u s t rows is last) fit
    where
      by : (found : Option State) → ((u : State) → after u rows ≡ Some s → after u (rows ++ row ∷ []) ≡ Some t)
          → ◌≡◌ {A = Option State} (elim found [ None ↦ None | Some u ↦ after u rows ]) (Some s) → ◌≡◌ {A = Option State} (elim found [ None ↦ None | Some u ↦ after u (rows ++ row ∷ []) ]) (Some t)
      by None later none = cc
      by (Some u) later is = later u is

  least_with : (opening s : State) (rows : List Row) → after opening rows ≡ Some s → HaveLeastPlaces opening rows → AreLeast s row.places → HaveLeastPlaces opening (rows ++ row ∷ [])
  unfolding after
  least_with opening s [] fit least last = let same : opening ≡ s = cc in (subst (λ o. AreLeast o row.places) (sym same) last, λ t is. tt)
  least_with opening s (first ∷ rows) fit least last = (
    least.0,
    λ u is. least_with u s rows (sym (ap (λ (found : Option State). elim found [ None ↦ None | Some v ↦ after v rows ]) is) ∙ fit) (least.1 u is) last,
  )

  -- With the row it leads to the state after the row.
  pub leads_on : (opening s t : State) (docket : List Row) → IsLegalDocket opening docket s → IsRead row → next s row ≡ Some t → AreLeast s row.places → IsLegalDocket opening (docket ++ row ∷ []) t
  leads_on opening s t docket leads read fits least = record {
    read = read_with docket leads.read read;
    fit = after_with opening s t docket leads.fit fits;
    least = least_with opening s docket leads.fit leads.least least;
  }
