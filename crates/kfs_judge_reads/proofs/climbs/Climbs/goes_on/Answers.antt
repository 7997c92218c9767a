-- A list that begins with another is that one with what is behind it.
use Rattle.std.proofs.Common.{◌≡◌, ◌++◌, length, drop, subst}
use Rattle.std.proofs.lemmas.Bool.Decides.{Decides-eqb}
use Rattle.std.proofs.lemmas.Slice.Eq.{starts_is}
use Rattle.kfs_judge_reads.proofs.climbs.Climbs.goes_on.Goals as goal

pub returns-then-self-len-clause-begins : goal.returns-then-self-len-clause-begins
returns-then-self-len-clause-begins g c is =
    subst (λ taken. c.args.moved.now ≡ taken ++ drop (length taken) c.args.moved.now) c.as_slice.ensures.value
    ((starts_is Decides-eqb c.args.moved.now c.as_slice.result.now c.starts_with.result c.starts_with.ensures.value).0 is)
