use Rattle.std.proofs.Common.{◌==◌}
use Rattle.kfs_program_text.proofs.FirstPlace.{first_is}
use Rattle.kfs_program_text.proofs.words.first_place.Goals as goal

pub returns : goal.returns
returns c = first_is (λ other. other == c.args.byte) c.args.bytes.now c.memchr.result c.memchr.ensures
