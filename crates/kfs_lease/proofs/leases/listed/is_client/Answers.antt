use Rattle.std.proofs.Common.{◌≡◌, ◌==◌, ◌+◌, suc, false, take, sym, ap, subst, ◌∙◌, arith}
use Rattle.std.specs.List.{list_any}
use Rattle.std.proofs.lemmas.Bool.{ltb-true, ne_eqb}
use Rattle.std.proofs.lemmas.List.{take_all}
use Rattle.kfs_model.specs.Access.{Client}
use Rattle.kfs_model.specs.Lease.{row_of}
use Rattle.kfs_lease.proofs.ListLemmas.ClientRows.{any_is_found, client_there, none_further, some_not_none}
use Rattle.kfs_lease.proofs.leases.listed.is_client.Goals as goal

-- the client of the place that the search found
pub returns-then-number-clause-known : goal.returns-then-number-clause-known
returns-then-number-clause-known c =
    let looked = c.in-Some.ensures.lookup in
    sym (client_there c.args.clients.now c.in-Some.client.now c.args.number (c.in-Ok.place, ltb-true _ _ (sym looked.0), sym looked.1) (sym c.number.ensures.number ∙ c.if-number.true))

pub returns-then-number-clause-unknown : goal.returns-then-number-clause-unknown
returns-then-number-clause-unknown c = returns-then-number-clause-known c ∙ some_not_none (row_of c.args.clients.now c.args.number)

pub returns-then-number-2-clause-known : goal.returns-then-number-2-clause-known
returns-then-number-2-clause-known c =
    sym (client_there c.args.clients.now c.client-item.result c.args.number (c.loop-client.client-index, c.loop-client-test.true, sym c.client-item.is) (sym c.number-in-loop-client.ensures.number ∙ c.if-number-2.true))

pub returns-then-number-2-clause-unknown : goal.returns-then-number-2-clause-unknown
returns-then-number-2-clause-unknown c = returns-then-number-2-clause-known c ∙ some_not_none (row_of c.args.clients.now c.args.number)

pub loop-client-preserved : goal.loop-client-preserved
loop-client-preserved c =
    let clients = c.args.clients.now in
    let i = c.loop-client.client-index in
    let other = ne_eqb c.client-item.result.number c.args.number (λ same. c.if-number-2.false (c.number-in-loop-client.ensures.number ∙ same)) in
    let one_more : suc i ≡ i + 1 = omega arith in
    subst (λ n. list_any (λ (row : Client). row.number == c.args.number) (take n clients) ≡ false) one_more
    (none_further clients c.args.number i c.client-item.result c.loop-client-test.true c.loop-client.invariant (ap (λ (row : Client). row.number == c.args.number) (sym c.client-item.is) ∙ other))

pub returns-clause-known : goal.returns-clause-known
returns-clause-known c =
    let clients = c.args.clients.now in
    let i = c.loop-client.client-index in
    sym (any_is_found clients c.args.number ∙ ap (list_any (λ (row : Client). row.number == c.args.number)) (sym (take_all i clients (omega (arith, c.loop-client-test.false)))) ∙ c.loop-client.invariant)

pub returns-clause-unknown : goal.returns-clause-unknown
returns-clause-unknown c = returns-clause-known c ∙ some_not_none (row_of c.args.clients.now c.args.number)
