-- Each word that is left is read in turn.
use Rattle.std.proofs.Common.{◌≡◌, [], None, sym, subst, ◌∙◌, rules}
use Rattle.kfs_program_text.specs.Command.{moves_in}
use Rattle.kfs_program_text.specs.Reading.{checked, ended, words_left}
use Rattle.kfs_program_text.specs.declared.words.Refusal.TheVariants.{BadLine}
use Rattle.kfs_program_text.proofs.MovesRead.{AreMoves, all_read, fewer_left, no_move, none_left, none_read, one_left, one_read}
use Rattle.kfs_program_text.proofs.command.moves_left.Goals as goal

pub returns-in_err-read_move : goal.returns-in_err-read_move
returns-in_err-read_move g c =
    let some : ended (words_left c.loop-moves.words) ≡ None = one_left _ c.end.result c.end.ensures (sym c.is_err.ensures.value ∙ c.loop-moves-test.true) in
    let none : c.in_err-read_move.field-0.0 ≡ BadLine → checked moves_in (words_left c.args.words.now) ≡ None =
    λ bad. no_move _ _ _ c.loop-moves.invariant some (c.in_err-read_move.ensures bad) in
    search (rules, none)

pub loop-moves-init : goal.loop-moves-init
loop-moves-init g c =
    let words = words_left c.args.words.now in
    let none : c.new-moves.result.items ≡ [] = cc in
    subst (AreMoves words words) (sym none) (none_read words)

pub loop-moves-smaller : goal.loop-moves-smaller
loop-moves-smaller g c = fewer_left _ _ c.in_ok-read_move.ensures

pub loop-moves-preserved : goal.loop-moves-preserved
loop-moves-preserved g c =
    let some : ended (words_left c.loop-moves.words) ≡ None = one_left _ c.end.result c.end.ensures (sym c.is_err.ensures.value ∙ c.loop-moves-test.true) in
    rw c.in_ok-push.ensures.items (one_read _ _ _ _ _ c.loop-moves.invariant some c.in_ok-read_move.ensures)

pub returns : goal.returns
returns g c =
    all_read _ _ (subst (λ left. AreMoves (words_left c.args.words.now) left c.loop-moves.moves.items) (none_left _ c.end.result c.end.ensures (sym c.is_err.ensures.value ∙ c.loop-moves-test.false)) c.loop-moves.invariant)
