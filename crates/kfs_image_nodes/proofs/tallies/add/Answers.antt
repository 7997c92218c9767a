use Rattle.std.proofs.Common.{◌+◌, None, Some, refl, ap, ◌∙◌}
use Rattle.std.specs.Prelude.{unwrap_or}
use Rattle.kfs_model.specs.Table.{numbers, empty, get}
use Rattle.kfs_image_nodes.proofs.NameEdits.{read_seen, seen_more}
use Rattle.kfs_image_nodes.proofs.tallies.add.Goals as goal

pub returns : goal.returns
unfolding get
returns g c = λ q.
    let old = c.args.overlay.now.latest in
    let seen = read_seen {R = numbers} empty old c.args.key None refl in
    seen_more {R = numbers} empty old c.set.new.self.latest c.args.key (Some c.in-Some.now) c.args.more
    (c.in-Some.ensures.1 ∙ ap (λ n. n + c.args.more) (c.unwrap_or-before.ensures ∙ ap (λ o. unwrap_or o 0) (c.get_or.ensures ∙ seen))) c.in_ok-set.ensures q
