use Rattle.kfs_desk.proofs.HistoryLemmas.Parts.{legal_since}
use Rattle.kfs_desk.proofs.HistoryLemmas.SameAsked.{same_asked}
use Rattle.kfs_desk.proofs.laws.same_calls_give_the_same_state.Goals as goal

pub returns : goal.returns
returns g c = λ m n s first second bytes alike.
    let a = c.args.one.now in
    let b = c.args.other.now in
    let one = legal_since m a.opening s a.state a.docket c.docket-docket.ensures.legal first in
    let other = legal_since n b.opening s b.state b.docket c.docket-other.ensures.legal second in
    same_asked s a.state b.state _ _ one.read other.read bytes (record { fit = one.fit; least = one.least }) (record { fit = other.fit; least = other.least }) alike
