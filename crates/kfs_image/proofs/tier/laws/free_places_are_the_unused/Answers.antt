use Rattle.kfs_image.proofs.TierLemmas.MovedPlaces.{CanFollow-holds, KeepsUnused-holds}
use Rattle.kfs_image.proofs.TierLemmas.UnusedPlaces.{CountsUnused-holds, FindsUnused-holds, MissesNone-holds}
use Rattle.kfs_image.proofs.tier.laws.free_places_are_the_unused.Goals as goal

pub returns-clause-counted : goal.returns-clause-counted
returns-clause-counted g = CountsUnused-holds

pub returns-clause-found : goal.returns-clause-found
returns-clause-found g = FindsUnused-holds

pub returns-clause-none : goal.returns-clause-none
returns-clause-none g = MissesNone-holds

pub returns-clause-movable : goal.returns-clause-movable
returns-clause-movable g = CanFollow-holds

pub returns-clause-kept : goal.returns-clause-kept
returns-clause-kept g = KeepsUnused-holds
