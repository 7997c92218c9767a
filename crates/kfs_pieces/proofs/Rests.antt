-- What is left of a list, by its first item.
use Rattle.std.proofs.Common.{◌≡◌, List, [], ◌∷◌, drop, Some, None, ap}
use Rattle.kfs_pieces.specs.declared.compare.Rest.{Rest}
use Rattle.kfs_pieces.specs.Rests.{rest_of}

pub rest_some : {T : Type 0} (list : List T) (rest : Rest T) (s : T) → rest.front ≡ Some s → rest_of list rest ≡ s ∷ drop rest.next list
rest_some list rest s is = ap (λ o. rest_of list (record rest { front = o })) is

pub rest_none : {T : Type 0} (list : List T) (rest : Rest T) → rest.front ≡ None → rest_of list rest ≡ []
rest_none list rest is = ap (λ o. rest_of list (record rest { front = o })) is
