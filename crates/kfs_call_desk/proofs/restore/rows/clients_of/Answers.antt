use Rattle.std.proofs.Common.{◌∷◌, [], ◌++◌, inr, map, take, option_map, refl, sym, ap, ◌∙◌}
use Rattle.kfs_call.specs.StateViews.{client_shown}
use Rattle.kfs_call_desk.specs.Restore.Restored.{BadClient, Refused, client_refusal}
use Rattle.kfs_call_desk.proofs.RestoreLemmas.ClientRows.{first_refusal, grown, none_yet}
use Rattle.kfs_call_desk.proofs.restore.rows.clients_of.Goals as goal

pub returns-in-Err-clause-err : goal.returns-in-Err-clause-err
returns-in-Err-clause-err g c =
    let rows = c.args.rows.now in
    let i = c.loop-index.index in
    let row = c.index-rows-index.result in
    let fault = c.in-Err.fault in
    let found = c.in-Err.ensures.refusal (map client_shown (take i rows)) ∙ refl in
    let here = ap (λ r. client_refusal (map client_shown (take i rows)) (client_shown r)) (sym c.index-rows-index.is) ∙ found in
    inr (Refused (BadClient i fault), refl, ap (option_map Refused) (first_refusal client_shown rows i row c.loop-index-test.true (λ n. BadClient n fault) c.loop-index.invariant.none here))

pub loop-index-preserved : goal.loop-index-preserved
loop-index-preserved g c =
    let rows = c.args.rows.now in
    let i = c.loop-index.index in
    let row = c.index-rows-index.result in
    let earlier = map client_shown (take i rows) in
    let here = ap (λ r. client_refusal earlier (client_shown r)) (sym c.index-rows-index.is) ∙ c.in-Ok.ensures.refusal earlier in
    record {
      clients = c.in_ok-push-in-Ok.ensures.items
          ∙ ap (λ xs. xs ++ c.in-Ok.client ∷ []) c.loop-index.invariant.clients
          ∙ ap (λ x. earlier ++ x ∷ []) (c.in-Ok.ensures.client ∙ ap client_shown c.index-rows-index.is)
          ∙ sym (grown client_shown rows i row c.loop-index-test.true);
      none = none_yet client_shown rows i row c.loop-index-test.true c.loop-index.invariant.none here;
    }
