use Rattle.std.proofs.Crossing as std
use Rattle.kfs_test_image.proofs.shared.scarce.run.Goals as goal

pub batch-requires-frees-A-Allocator : goal.batch-requires-frees-A-Allocator
batch-requires-frees-A-Allocator g c κs within = record { frees = λ heap τ p. std.frees.frees heap.now.inner τ p }
