-- One step of a walk along a path.
use Rattle.std.proofs.Common.{◌≡◌, ℕ, ◌+◌, Bool, true, false, List, ◌∷◌, Option, Some, None, Result, Err, refl, ap, ◌∙◌}
use Rattle.kfs_model.specs.Header.{Header}
use Rattle.kfs_model.specs.Access.{Client, Search, may_header}
use Rattle.kfs_model.specs.Sight.{Sight, is_directory}
use Rattle.kfs_model.specs.Check.{is_some_and}
use Rattle.kfs_model.specs.Lease.{LeaseFault, walked, NotDirectory, NoSearch, NoSuchName}

module _ (sight : Sight) (client : Client) (node component : ℕ) (name : List ℕ) (names : List (List ℕ)) where
  abbrev pub led : Option ℕ → Result ℕ LeaseFault
  led to = elim to [ None ↦ Err (NoSuchName component) | Some next ↦ walked sight client next (component + 1) names ]

  abbrev searched : Bool → Result ℕ LeaseFault
  searched granted = elim granted [ false ↦ Err (NoSearch component) | true ↦ led (sight.name node name) ]

  abbrev entered : Bool → Result ℕ LeaseFault
  entered directory = elim directory [ false ↦ Err (NotDirectory component) | true ↦ searched (is_some_and (sight.head node) (λ h. may_header client h Search)) ]

  in_order : walked sight client node component (name ∷ names) ≡ entered (is_directory (sight.head node))
  unfolding walked
  in_order = refl

  pub stops_at_file : is_directory (sight.head node) ≡ false → walked sight client node component (name ∷ names) ≡ Err (NotDirectory component)
  stops_at_file other = in_order ∙ ap entered other

  module _ (header : Header) (there : sight.head node ≡ Some header) (directory : is_directory (Some header) ≡ true) where
    may_search : walked sight client node component (name ∷ names) ≡ searched (may_header client header Search)
    may_search = in_order ∙ ap entered (ap is_directory there ∙ directory) ∙ ap (λ h. searched (is_some_and h (λ h. may_header client h Search))) there

    pub stops_unsearched : may_header client header Search ≡ false → walked sight client node component (name ∷ names) ≡ Err (NoSearch component)
    stops_unsearched barred = may_search ∙ ap searched barred

    pub stops_unnamed : may_header client header Search ≡ true → sight.name node name ≡ None → walked sight client node component (name ∷ names) ≡ Err (NoSuchName component)
    stops_unnamed granted none = may_search ∙ ap searched granted ∙ ap led none

    pub goes_on : may_header client header Search ≡ true → (next : ℕ) → sight.name node name ≡ Some next → walked sight client node component (name ∷ names) ≡ walked sight client next (component + 1) names
    goes_on granted next leads = may_search ∙ ap searched granted ∙ ap led leads
