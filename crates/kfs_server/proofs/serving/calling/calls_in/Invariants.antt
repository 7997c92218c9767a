use Rattle.std.proofs.Common.{◌≡◌, map, take}
use Rattle.kfs_server.specs.Serving.Group.{calls_of}
use Rattle.kfs_server.proofs.serving.calling.calls_in.Given as goal

abbrev pub invariant-loop-one : goal.invariant-loop-one
invariant-loop-one g l = map (λ c. c.now) l.calls.items ≡ calls_of (take l.one-index l.decided)
