-- The map of headers shows its change.
use Rattle.std.specs.Prelude.{Contains}
use Rattle.kfs_model.specs.Sight.{HeaderOf}
use Rattle.kfs_model.specs.Table.{numbers}
use Rattle.kfs_judge_reads.specs.Draft.Few.{entries_of}
use Rattle.kfs_judge_reads.proofs.DraftLemmas.Overlays.{header_put, header_shown, headers_kept, put_among}
use Rattle.kfs_judge_reads.proofs.draft.draft.Draft.set_header.Goals as goal

pub returns-clause-shown : goal.returns-clause-shown
returns-clause-shown g c s = header_shown c.args.self.now c.put.new.self c.args.number c.args.header c.in_ok-put.ensures s

pub returns-clause-written : goal.returns-clause-written
returns-clause-written g c among written here = record {
  names = written.names;
  heads = put_among numbers (entries_of c.args.self.now.heads) (entries_of c.put.new.self) c.args.number c.args.header c.in_ok-put.ensures (λ n. Contains among (HeaderOf n)) written.heads here;
}

pub returns-clause-put : goal.returns-clause-put
returns-clause-put g c = header_put c.args.self.now c.put.new.self c.args.number c.args.header c.in_ok-put.ensures

pub returns-clause-kept : goal.returns-clause-kept
returns-clause-kept g c = headers_kept c.args.self.now c.put.new.self c.args.number c.args.header c.in_ok-put.ensures

pub returns-clause-shifts : goal.returns-clause-shifts
returns-clause-shifts g c most bound = record { above = bound.above; below = bound.below }
