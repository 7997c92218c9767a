use Rattle.std.proofs.Common.{rules, ◌≡◌, ◌<◌, ◌≤◌, ◌∙◌, true, false, cond, length, get_or, ap, sym, Ok, Err}
use Rattle.std.specs.Ordering.{eq_by_cmp}
use Rattle.kfs_maps.proofs.ChunksLemmas.Sorted.{order_by, searched_at, searched_past}
use Rattle.kfs_maps.proofs.chunks.entries.found_at.Goals as goal

pub returns-in_default : goal.returns-in_default
returns-in_default g c =
    let past : length c.args.pairs.now ≤ c.args.at = search rules in
    sym (searched_past (order_by g.K.Key.order g.K.Ord.cmp g.met.K.Key.compared) (g.Q.Sought.key c.args.key) c.args.pairs.now c.args.at c.requires.first past)

pub returns-then-is_eq : goal.returns-then-is_eq
returns-then-is_eq g c =
    let at = c.args.at in
    let pair = c.in-Some.pair.now in
    let within : at < length c.args.pairs.now = search rules in
    let here : pair ≡ get_or c.args.pairs.now at pair = search rules in
    let tied : eq_by_cmp g.K.Ord.cmp (g.Q.Sought.key c.args.key) pair.0 ≡ true = search rules in
    sym (searched_at (order_by g.K.Key.order g.K.Ord.cmp g.met.K.Key.compared) (g.Q.Sought.key c.args.key) c.args.pairs.now at pair c.requires.sorted c.requires.first within here ∙ ap (λ b. cond b (Ok at) (Err at)) tied)

pub returns-else-is_eq : goal.returns-else-is_eq
returns-else-is_eq g c =
    let at = c.args.at in
    let pair = c.in-Some.pair.now in
    let within : at < length c.args.pairs.now = search rules in
    let here : pair ≡ get_or c.args.pairs.now at pair = search rules in
    let apart : eq_by_cmp g.K.Ord.cmp (g.Q.Sought.key c.args.key) pair.0 ≡ false = search rules in
    sym (searched_at (order_by g.K.Key.order g.K.Ord.cmp g.met.K.Key.compared) (g.Q.Sought.key c.args.key) c.args.pairs.now at pair c.requires.sorted c.requires.first within here ∙ ap (λ b. cond b (Ok at) (Err at)) apart)
