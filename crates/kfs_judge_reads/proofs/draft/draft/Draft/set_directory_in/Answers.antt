-- A directory's parent is put.
use Rattle.std.proofs.Common.{sym, ◌∙◌}
use Rattle.kfs_types.specs.Views.{kind_of}
use Rattle.kfs_judge_reads.specs.Draft.Overlay.{over, with_directory_in}
use Rattle.kfs_judge_reads.proofs.draft.draft.Draft.set_directory_in.Goals as goal

pub returns-in_ok-set_parent-in-Directory-clause-shown : goal.returns-in_ok-set_parent-in-Directory-clause-shown
returns-in_ok-set_parent-in-Directory-clause-shown g c s =
    c.in_ok-set_parent-in-Directory.ensures.shown s ∙ λ i. with_directory_in (kind_of (sym c.in-Directory.is i)) c.args.number c.args.dir (over c.args.self.now s)
