use Rattle.std.proofs.Common.{All, subst}
use Rattle.std.proofs.lemmas.List.{take_all}
use Rattle.std.proofs.lemmas.List.Elements.{All-nil, All-more}
use Rattle.kfs_model.specs.Spelling.{IsName}
use Rattle.kfs_image.proofs.raw.spelled.tell_names.Goals as goal

pub loop-row-init : goal.loop-row-init
loop-row-init c = All-nil (λ row. IsName row.name)

pub loop-row-preserved : goal.loop-row-preserved
loop-row-preserved c =
    let row = c.row-item.result in
    All-more (λ row. IsName row.name) c.args.rows.now c.loop-row.row-index row c.loop-row-test.true c.loop-row.invariant (subst (λ r. IsName r.name) c.row-item.is (subst IsName c.as_bytes-bytes.ensures.value c.as_bytes-bytes.ensures.name))

pub returns : goal.returns
returns c = subst (All (λ row. IsName row.name)) (take_all c.loop-row.row-index c.args.rows.now c.loop-row-test.false) c.loop-row.invariant
