-- Whatever the rest comes to, the whole comes to that behind the answers so far.
use Rattle.std.proofs.Common.{◌≡◌, ◌≤◌, ◌++◌, List, length, Result}
use Rattle.std.specs.Vec.Iter.{into_iter_items, into_iter_len}
use Rattle.kfs_desk.specs.History.Legal.{IsLegalDocket}
use Rattle.kfs_desk.specs.declared.history.answers.Reply.{Reply}
use Rattle.kfs_plan.specs.declared.submission.Back.{Back}
use Rattle.kfs_desk.specs.Machine.{Desk, RunsThrough}
use Rattle.kfs_types.specs.Room.{spare_of}
use Rattle.kfs_desk.proofs.desk.Desk.submit_all.Given as goal

abbrev pub invariant-loop-submission : goal.invariant-loop-submission
invariant-loop-submission g l = record {
  runs : (answers : List (Result Reply (Back g.row.A.Denot))) (last : Desk) → RunsThrough l.self (into_iter_items l.submission-iterator) answers last → RunsThrough l.initial.self (into_iter_items l.initial.submission-iterator) (l.answers.items ++ answers) last;
  room : length (into_iter_items l.submission-iterator) ≤ spare_of l.answers;
  count : into_iter_len l.submission-iterator ≡ length (into_iter_items l.submission-iterator);
  opening : l.self.opening ≡ l.initial.self.opening;
  limit : l.self.limit ≡ l.initial.self.limit;
  legal : IsLegalDocket l.self.opening l.self.docket l.self.state;
}
