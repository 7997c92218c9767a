use Rattle.std.proofs.Common.{ℕ, List, ◌++◌, ap, ◌∙◌}
use Rattle.std.proofs.KnownBytes.{Appends-trans}
use Rattle.kfs_server.proofs.ServingLemmas.Looks.{written_behind}
use Rattle.kfs_server.proofs.serving.looking.say_found.Goals as goal

pub returns : goal.returns
returns g c =
    let one = c.in_ok-write_whole.ensures in
    let two = c.write_out.ensures in
    let head = c.spell_found_head-head.result.items in
    let tail = c.found_tail.result.now in
    let parts = ap (λ (bs : List ℕ). bs ++ tail) c.as_slice.ensures.value ∙ ap (λ (bs : List ℕ). head ++ bs) c.found_tail.ensures ∙ c.spell_found_head-head.ensures in
    (one.0 ++ two.0, Appends-trans _ _ _ _ _ one.1 two.1, written_behind c.write_out.result c.as_slice.result.now tail _ one.0 two.0 parts one.2 two.2)
