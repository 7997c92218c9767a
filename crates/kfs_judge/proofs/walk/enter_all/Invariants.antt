-- What the entries so far have come to, in every state that agrees.
use Rattle.std.proofs.Common.{◌≡◌, ℕ, ◌*◌, List, map, drop}
use Rattle.kfs_types.specs.Views.{entry_of}
use Rattle.kfs_judge_reads.specs.Draft.Overlay.{ShiftsBy}
use Rattle.kfs_judge_reads.specs.Recorders.{GoesOn}
use Rattle.kfs_judge.proofs.CheckLemmas.Entering.{RunsOn}
use Rattle.kfs_judge.proofs.CheckLemmas.Looking.{LooksOn}
use Rattle.kfs_judge.proofs.StepLemmas.ReachedFiles.{ReachesOn}
use Rattle.kfs_judge.specs.EntriesEntered.{AreWithin}
use Rattle.kfs_judge.proofs.walk.enter_all.Given as goal

abbrev pub invariant-loop-index : goal.invariant-loop-index
invariant-loop-index g l = record {
  client : l.judge.client.now ≡ l.initial.judge.client.now;
  goes : GoesOn l.initial.judge.recorder l.judge.recorder;
  shifts : ShiftsBy (3 * l.index) l.judge.draft;
  runs : (source : List ℕ) → AreWithin source l.entries → RunsOn l.initial.judge.client.now l.judge.draft l.judge.recorder.reads.entries (map (entry_of source) l.entries) (map (entry_of source) (drop l.index l.entries)) l.index;
  reached : (source : List ℕ) → AreWithin source l.entries → ReachesOn l.judge.draft (map (entry_of source) l.entries) (map (entry_of source) (drop l.index l.entries));
  looks : (source : List ℕ) → AreWithin source l.entries → LooksOn l.initial.judge.client.now l.judge.draft l.initial.judge.recorder.reads.entries l.judge.recorder.reads.entries (map (entry_of source) l.entries) (map (entry_of source) (drop l.index l.entries));
}
