use Rattle.kfs_model.proofs.Cut.{right_say_same, right_cut_anew}
use Rattle.kfs_model.proofs.laws.right_plans_differ_in_their_cut.Goals as goal

pub returns-clause-same : goal.returns-clause-same
returns-clause-same c before after plan other right also = right_say_same before after plan other right also

pub returns-clause-cut_anew : goal.returns-clause-cut_anew
returns-clause-cut_anew c before after plan other right cut = right_cut_anew before after plan other right cut.same cut.order
