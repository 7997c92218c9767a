-- What crates above say of views and of what was read of them.
pub use Rattle.kfs_judge_reads.specs.declared.view.View.{View}
pub use Rattle.kfs_judge_reads.specs.declared.reads.Read.{Read}
pub use Rattle.kfs_judge_reads.specs.declared.reads.ReadAnswer.{ReadAnswer}
pub use Rattle.kfs_judge_reads.specs.View.{clients_of, contents_of, leases_of, client_sight_in}
pub use Rattle.kfs_judge_reads.specs.Reads.{look_answer_of, cell_of, answer_of, AgreesAlong, Agrees, AreAmong}
pub use Rattle.kfs_judge_reads.specs.Kept.{keeps_reads}
