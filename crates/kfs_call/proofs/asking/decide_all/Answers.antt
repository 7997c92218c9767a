use Rattle.std.proofs.Common.{◌+◌, List, take, sym, subst}
use Rattle.std.specs.List.{AllZip}
use Rattle.kfs_call.specs.Asking.{IsDecidedFor}
use Rattle.kfs_call.specs.declared.asking.Decided.{Decided}
use Rattle.kfs_call.proofs.Zips.{zip_take}
use Rattle.kfs_call.proofs.asking.decide_all.Goals as goal

pub loop-incoming-preserved : goal.loop-incoming-preserved
loop-incoming-preserved g c =
    let group = c.args.group.now in
    let i = c.loop-incoming.incoming-index in
    subst (λ (xs : List Decided). AllZip IsDecidedFor (take (i + 1) group) xs) (sym c.in_ok-push.ensures.items)
    (zip_take IsDecidedFor group c.loop-incoming.decided.items i c.incoming-item.result c.decide.result c.loop-incoming-test.true c.incoming-item.is c.loop-incoming.invariant c.decide.ensures)
