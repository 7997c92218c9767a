use Rattle.std.proofs.Common.{◌-◌, length}
use Rattle.kfs_image.proofs.BlocksLemmas.ReadAcross.{AreRead}
use Rattle.kfs_image.proofs.blocks.blocks.FileBlocks.read_bytes.Given as goal

abbrev pub invariant-loop-done : goal.invariant-loop-done
invariant-loop-done g l = AreRead l.self.placement l.self.devices l.number l.start l.buffer l.done

abbrev pub decreases-loop-done : goal.decreases-loop-done
decreases-loop-done g l = length l.initial.buffer - l.done
