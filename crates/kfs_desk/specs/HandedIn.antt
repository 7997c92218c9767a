-- What a client hands in, as contracts see it.
use Rattle.kfs_model.specs.Judgement.{Submission}
use Rattle.kfs_plan.specs.Judging.{submission_with}
use Rattle.kfs_desk.specs.declared.docket.HandedIn.{HandedIn}

abbrev pub handed_in : HandedIn → Submission
handed_in given = submission_with given.client given.log.now given.plan.now
