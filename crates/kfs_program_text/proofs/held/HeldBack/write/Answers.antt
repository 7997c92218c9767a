use Rattle.kfs_program_text.proofs.HeldBytes.{grown}
use Rattle.kfs_program_text.proofs.held.HeldBack.write.Goals as goal

pub invariant_of-self : goal.invariant_of-self
invariant_of-self g c =
    let contents = g.W.Write.contents in
    let inside = c.self.inside in
    (grown (contents inside.first.value.now) (contents inside.inner.now) (contents c.write_whole.new.writer) c.write_whole.ensures.0 c.self.invariant.0 c.write_whole.ensures.1, c.self.invariant.1, c.self.invariant.2)
