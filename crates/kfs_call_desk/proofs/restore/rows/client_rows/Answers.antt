use Rattle.std.proofs.Common.{map, subst, ap, ◌∙◌}
use Rattle.std.proofs.lemmas.List.Elements.{All-more}
use Rattle.kfs_call.specs.StateRows.{IsClientRow}
use Rattle.kfs_call.specs.StateViews.{client_shown}
use Rattle.kfs_call_desk.proofs.RestoreLemmas.ClientRows.{row_written}
use Rattle.kfs_call_desk.proofs.restore.rows.client_rows.Goals as goal

pub loop-client-preserved : goal.loop-client-preserved
loop-client-preserved g c =
    let clients = c.args.clients.now in
    let i = c.loop-client.client-index in
    let client = c.client-item.result in
    record {
      rows = ap (map client_shown) c.in_ok-push.ensures.items
          ∙ row_written client_shown c.loop-client.rows.items c.in-Some.row clients i client c.loop-client-test.true c.loop-client.invariant.rows (c.in-Some.ensures.row ∙ c.client-item.is);
      fit = All-more IsClientRow clients i client c.loop-client-test.true c.loop-client.invariant.fit (subst IsClientRow c.client-item.is c.in-Some.ensures.fits);
    }
