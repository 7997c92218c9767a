use Rattle.std.proofs.Common.{◌≡◌, ◌∷◌, ℕ, sym, ap, subst, ◌∙◌}
use Rattle.std.specs.Prelude.{Result, IsSomeAnd, Err}
use Rattle.std.proofs.lemmas.Result.{err_from_is_err_and}
use Rattle.std.specs.Iterator.Adapters.{enumerate_source, enumerate_count}
use Rattle.kfs_model.specs.Lease.{LeaseFault, walked}
use Rattle.kfs_image_nodes.specs.Contents.{sight_of}
use Rattle.kfs_lease.specs.Faults.{fault_of}
use Rattle.kfs_lease.specs.Paths.{parts_left}
use Rattle.kfs_lease.proofs.path.walk.Goals as goal

pub returns-in_err-number-clause-err : goal.returns-in_err-number-clause-err
returns-in_err-number-clause-err g c =
    let p = err_from_is_err_and c.from_residual.result c.from_residual.ensures.1 in
    let sight = sight_of c.args.shape.now in
    let rest = parts_left (enumerate_source c.next.new.self) in
    let here =
    sym c.loop-index.invariant.same
    ∙ ap (walked sight c.args.client.now c.loop-index.number (enumerate_count c.loop-index.index-iterator)) c.in-Some.ensures.steps.0
    ∙ ap (λ i. walked sight c.args.client.now c.loop-index.number i (c.in-Some.name.now ∷ rest)) (sym c.in-Some.ensures.steps.1) in
    rw (p.1, p.2)
    (subst (λ (r : Result ℕ LeaseFault). IsSomeAnd (fault_of c.in_err-number.field-0.0) (λ f. r ≡ Err f)) (sym here) (c.in_err-number.ensures.err rest))

pub returns-clause-ok : goal.returns-clause-ok
unfolding walked
returns-clause-ok g c =
    sym c.loop-index.invariant.same
    ∙ ap (walked (sight_of c.args.shape.now) c.args.client.now c.loop-index.number (enumerate_count c.loop-index.index-iterator)) c.in-None.ensures.steps.0.0
