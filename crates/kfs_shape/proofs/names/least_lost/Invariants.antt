use Rattle.std.proofs.Common.{◌≡◌, map}
use Rattle.kfs_model.specs.Device.Finding.{least_failed}
use Rattle.kfs_shape.specs.Heads.{head_at}
use Rattle.kfs_shape.specs.Least.{merged}
use Rattle.kfs_shape.specs.Links.{aim_test}
use Rattle.kfs_shape.proofs.Tests.{rest_failed}
use Rattle.kfs_shape.proofs.names.least_lost.Given as goal

abbrev pub invariant-loop-link : goal.invariant-loop-link
invariant-loop-link g l = merged l.least (rest_failed (λ link. link) (aim_test (head_at l.headers)) l.links l.link-index) ≡ least_failed (map (aim_test (head_at l.headers)) l.links)
