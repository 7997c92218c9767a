use Rattle.std.proofs.Common.{◌≡◌, ◌++◌, length}
use Rattle.kfs_program.specs.Engine.Listing.{names_in, names_text}
use Rattle.kfs_program.proofs.EngineLemmas.Listed.{names_after}
use Rattle.kfs_program.proofs.sessions.listing.push_names.Given as goal

abbrev pub invariant-loop-name : goal.invariant-loop-name
invariant-loop-name g l = l.out.items ++ names_text (names_after l.image.names l.dir l.after) ≡ l.fn.out.items ++ names_text (names_in l.image.names l.dir)

abbrev pub decreases-loop-name : goal.decreases-loop-name
decreases-loop-name g l = length (names_after l.image.names l.dir l.after)
