use Rattle.std.proofs.Common.{rules, ◌≡◌, None}
use Rattle.kfs_program_text.specs.Reading.{both_hexadecimal, words_left}
use Rattle.kfs_program_text.proofs.BothWords.{no_back, no_front}
use Rattle.kfs_program_text.proofs.LastWord.{two_words}
use Rattle.kfs_program_text.proofs.words.Words.last_bytes.Goals as goal

pub returns-in_err-front : goal.returns-in_err-front
returns-in_err-front g c =
    let none : both_hexadecimal (words_left c.args.self) ≡ None = no_front _ c.in_err-front.ensures.1 in
    search rules

pub returns-in_err-back : goal.returns-in_err-back
returns-in_err-back g c =
    let none : both_hexadecimal (words_left c.args.self) ≡ None = no_back _ _ _ c.in_ok-front.ensures c.in_err-back.ensures.bad.1 in
    search rules

pub returns : goal.returns
returns g c = rw (two_words _ _ _ _ c.in_ok-front.ensures c.in_ok-back.ensures.ok.0 c.in_ok-back.ensures.ok.1) c.both_in.ensures
