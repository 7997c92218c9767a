use Rattle.std.proofs.Common.{sym, ◌∙◌}
use Rattle.kfs_server.proofs.FramesLemmas.OneCut.{one_cut}
use Rattle.kfs_server.proofs.frames.laws.a_stream_has_one_cut.Goals as goal

pub returns : goal.returns
returns c = λ stream frames others rest other a b. one_cut frames others rest other a.each b.each a.partial b.partial (sym a.whole ∙ b.whole)
