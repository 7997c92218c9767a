use Rattle.std.proofs.Common.{List, ℕ, [], ◌++◌, refl, rules, subst, append-nil}
use Rattle.kfs_server.specs.Frames.Frame.{head_bytes}
use Rattle.kfs_server.specs.Frames.Begun.{IsBody, IsNextFrame}
use Rattle.kfs_server.proofs.frames.begun.begin_body.Goals as goal
use Rattle.kfs_server.proofs.frames.begun.begin_body.Goals.{then-head-gt-BODY_LIMIT, else-head-gt-BODY_LIMIT}

pub returns-clause-next : goal.returns-clause-next
returns-clause-next g c =
    let head = c.args.head in
    let kept : IsBody head.len c.if-head-gt-BODY_LIMIT.body [] = elim c.if-head-gt-BODY_LIMIT.branch [ then-head-gt-BODY_LIMIT w ↦ rw w.body-is (search rules) | else-head-gt-BODY_LIMIT w ↦ rw w.body-is (search rules) ] in
    subst (λ (bs : List ℕ). IsNextFrame (bs ++ c.args.rest.now) c.args.rest.now c.went_on.result.whole c.went_on.result.begun) (append-nil (head_bytes head.len head.number head.from)) (c.went_on.ensures.next [] refl kept)
