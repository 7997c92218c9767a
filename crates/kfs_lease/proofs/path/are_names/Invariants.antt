use Rattle.std.proofs.Common.{◌≡◌}
use Rattle.std.specs.List.{list_all}
use Rattle.kfs_model.specs.Spelling.{is_name}
use Rattle.kfs_lease.specs.Paths.{parts_left}
use Rattle.kfs_lease.proofs.path.are_names.Given as goal

abbrev pub invariant-loop-part : goal.invariant-loop-part
invariant-loop-part l = list_all is_name (parts_left l.part-iterator) ≡ list_all is_name (parts_left l.parts)
