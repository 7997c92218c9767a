use Rattle.std.proofs.Common.{◌≡◌, None, take}
use Rattle.std.specs.List.{AllByRecursion}
use Rattle.kfs_model.specs.CleanStep.{IsClient}
use Rattle.kfs_mode.specs.Clients.{ClientsAreDistinct}
use Rattle.kfs_desk.specs.Opening.{begin_fault}
use Rattle.kfs_desk.proofs.GrantedNumbers.{AreGrantsOf}
use Rattle.kfs_desk.proofs.NumberSet.{AreNumbersOf}
use Rattle.kfs_desk.proofs.first_fault.first_fault.Given as goal

abbrev pub invariant-loop-index : goal.invariant-loop-index
invariant-loop-index g l = record {
  first : begin_fault (take l.index l.clients) ≡ None;
  distinct : ClientsAreDistinct (take l.index l.clients);
  in_range : AllByRecursion IsClient (take l.index l.clients);
  numbers : AreNumbersOf (take l.index l.clients) l.numbers;
  grants : AreGrantsOf (take l.index l.clients) l.ungranted;
}
