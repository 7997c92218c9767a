-- The map of names shows its change.
use Rattle.std.specs.Prelude.{Contains}
use Rattle.std.proofs.Common.{subst}
use Rattle.kfs_model.specs.Sight.{NameIn}
use Rattle.kfs_model.specs.Tree.{name_order}
use Rattle.kfs_judge_reads.specs.Draft.Few.{entries_of, PutsIn}
use Rattle.kfs_judge_reads.proofs.DraftLemmas.Overlays.{target_shown, put_among}
use Rattle.kfs_judge_reads.proofs.draft.draft.Draft.set_target.Goals as goal

pub returns-clause-shown : goal.returns-clause-shown
returns-clause-shown g c s =
    let puts = subst (λ key. PutsIn name_order.compare (entries_of c.args.self.now.names) (entries_of c.put.new.self) key c.args.target) c.again.ensures c.in_ok-put.ensures in
    target_shown c.args.self.now c.put.new.self c.args.key.now.0 c.args.key.now.1 c.args.target puts s

pub returns-clause-written : goal.returns-clause-written
returns-clause-written g c among written here =
    let puts = subst (λ key. PutsIn name_order.compare (entries_of c.args.self.now.names) (entries_of c.put.new.self) key c.args.target) c.again.ensures c.in_ok-put.ensures in
    record {
      names = put_among name_order (entries_of c.args.self.now.names) (entries_of c.put.new.self) c.args.key.now c.args.target puts (λ key. Contains among (NameIn key.0 key.1)) written.names here;
      heads = written.heads;
    }

pub returns-clause-shifts : goal.returns-clause-shifts
returns-clause-shifts g c most bound = record { above = bound.above; below = bound.below }
