-- Both lists are texts by computation.
use Rattle.std.specs.Prelude.{refl}
use Rattle.std.specs.Fmt.{digits}
use Rattle.hex.specs.Hex.{encode_with}
use Rattle.kfs_program.specs.Engine.Listing.{names_text}
use Rattle.kfs_program.proofs.sessions.examples.lists.Goals as goal

pub returns-clause-of_root : goal.returns-clause-of_root
unfolding digits names_text encode_with
returns-clause-of_root c = refl

pub returns-clause-of_another : goal.returns-clause-of_another
unfolding digits names_text
returns-clause-of_another c = refl
