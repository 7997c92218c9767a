-- The line's first word says whether a verdict is to be landed, and the words behind it whose.
use Rattle.std.proofs.Common.{◌≡◌, Some, subst}
use Rattle.kfs_program_text.specs.Reading.{words_left}
use Rattle.kfs_program_text.specs.CommandReading.{named_by}
use Rattle.kfs_program_text.proofs.Landings.{another_name, land_named, no_name, no_word}
use Rattle.kfs_program_text.proofs.command.worker_to_land.Goals as goal

pub returns-in_default : goal.returns-in_default
returns-in_default c = no_word c.args.line.now (rw c.new-words.ensures at c.in_default.ensures.1)

pub returns-in_default-name_in : goal.returns-in_default-name_in
returns-in_default-name_in c = no_name c.args.line.now c.in-Ok.word.now (words_left c.word.new.self) (rw c.new-words.ensures at c.in-Ok.ensures) c.in_default-name_in.ensures

pub returns-in-Land : goal.returns-in-Land
returns-in-Land c =
    let word = c.in-Ok.word.now in
    land_named c.args.line.now word (words_left c.word.new.self) (rw c.new-words.ensures at c.in-Ok.ensures) (subst (λ name. Some name ≡ named_by word) c.in-Land.is c.in-Some.ensures) c.only_worker.result c.only_worker.ensures

pub returns-in_default-name : goal.returns-in_default-name
returns-in_default-name c =
    another_name c.args.line.now c.in-Ok.word.now (words_left c.word.new.self) (rw c.new-words.ensures at c.in-Ok.ensures) c.in-Some.name c.in-Some.ensures c.in_default-name.not-Land
