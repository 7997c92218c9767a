use Rattle.std.proofs.Common.{Some, length, ap, arith}
use Rattle.kfs_program.proofs.EngineLemmas.Listed.{names_after, next_after, none_after, written_all, written_next}
use Rattle.kfs_program.proofs.sessions.listing.push_names.Goals as goal

pub loop-name-smaller : goal.loop-name-smaller
loop-name-smaller g c =
    omega (arith, ap length (next_after c.args.image.now.names c.args.dir c.loop-name.after c.in-Some.name c.in-Some.node c.in-Some.ensures.found))

pub loop-name-preserved : goal.loop-name-preserved
loop-name-preserved g c =
    let names = c.args.image.now.names in
    let dir = c.args.dir in
    let left = names_after names dir c.loop-name.after in
    let rest = names_after names dir (Some c.in-Some.name) in
    let next = next_after names dir c.loop-name.after c.in-Some.name c.in-Some.node c.in-Some.ensures.found in
    written_next c.loop-name.out.items c.push_name.new.out.items _ ((dir, c.in-Some.name.now), c.in-Some.node) left rest next c.in_ok-push_name.ensures c.loop-name.invariant

pub returns : goal.returns
returns g c =
    let left = names_after c.args.image.now.names c.args.dir c.loop-name.after in
    written_all c.loop-name.out.items _ left (none_after c.args.image.now.names c.args.dir c.loop-name.after c.in_default.ensures.none) c.loop-name.invariant
