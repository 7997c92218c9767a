use Rattle.std.proofs.Common.{◌≡◌}
use Rattle.std.specs.Prelude.{IsTrue}
use Rattle.std.specs.List.{list_all}
use Rattle.std.specs.Iterator.Adapters.{enumerate_source, enumerate_count}
use Rattle.kfs_model.specs.Lease.{walked}
use Rattle.kfs_model.specs.Spelling.{is_name}
use Rattle.kfs_image_nodes.specs.Contents.{sight_of}
use Rattle.kfs_lease.specs.Paths.{parts_left}
use Rattle.kfs_lease.proofs.path.walk.Given as goal

abbrev pub invariant-loop-index : goal.invariant-loop-index
invariant-loop-index g l = record {
  ready : (goal.iterator-loop-index g).can_next l.index-iterator;
  ends : (goal.iterator-loop-index g).is_finite l.index-iterator;
  names : IsTrue (list_all is_name (parts_left (enumerate_source l.index-iterator)));
  same : walked (sight_of l.shape) l.client l.number (enumerate_count l.index-iterator) (parts_left (enumerate_source l.index-iterator))
      ≡ walked (sight_of l.shape) l.client 1 0 (parts_left l.fn.names);
}
