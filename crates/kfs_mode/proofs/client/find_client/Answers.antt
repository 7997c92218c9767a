use Rattle.std.proofs.Common.{ap, sym, ◌∙◌}
use Rattle.std.proofs.lemmas.Bool.{ltb-true}
use Rattle.kfs_model.specs.Access.{Client}
use Rattle.kfs_mode.proofs.Rows.{row_is_found}
use Rattle.kfs_mode.proofs.client.find_client.Goals as goal

-- the client of the place that the search found
pub returns-then-client-number : goal.returns-then-client-number
returns-then-client-number c =
    let looked = c.in-Some.ensures.lookup in
    let number = ap (λ (r : Client). r.number) (sym c.client.view_is) ∙ c.if-client-number.true in
    sym (row_is_found c.args.clients.now c.in-Some.client.now c.args.number c.requires.distinct (c.in-Ok.place, ltb-true _ _ (sym looked.0), sym looked.1) number)
