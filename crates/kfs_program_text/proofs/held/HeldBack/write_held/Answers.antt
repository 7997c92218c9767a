use Rattle.std.proofs.Common.{◌+◌, ◌-◌, ◌≤◌, List, ℕ, length, take, drop, subst, arith}
use Rattle.std.specs.Io.KnownBytes.{Appends, Keeps, append_known}
use Rattle.kfs_program_text.specs.HeldOutput.{HeldOutput, contents_with}
use Rattle.kfs_program_text.proofs.HeldBytes.{grown, moved, within}
use Rattle.kfs_program_text.proofs.held.HeldBack.write_held.Goals as goal

pub invariant_of-self : goal.invariant_of-self
invariant_of-self g c =
    let contents = g.W.Write.contents in
    let inside = c.self.inside in
    let count = c.write_out-count.result.0 in
    let few = subst (λ (items : List ℕ). count ≤ length (take (length items - inside.taken) (drop inside.taken items))) c.deref.ensures.value c.write_out-count.ensures.bound in (
      grown (contents inside.first.value.now) (contents inside.inner.now) (contents c.write_out-count.new.writer) _ c.self.invariant.0 c.write_out-count.ensures.text,
      within inside.held.items inside.taken count c.self.invariant.1 few,
      c.self.invariant.2,
    )

pub returns-in_err-ended-clause-bytes : goal.returns-in_err-ended-clause-bytes
returns-in_err-ended-clause-bytes g c =
    let contents = g.W.Write.contents in
    let inside = c.self.inside in
    let count = c.write_out-count.result.0 in
    let before = contents inside.inner.now in
    let after = contents c.write_out-count.new.writer in
    let wrote = subst (λ (items : List ℕ). Appends before after (take count (take (length items - inside.taken) (drop inside.taken items)))) c.deref.ensures.value c.write_out-count.ensures.text in
    subst (λ (h : HeldOutput _). Keeps (contents_with contents h) (append_known after (drop (inside.taken + count) inside.held.items))) c.self.view_is (moved inside.held.items inside.taken count before after wrote)

pub invariant_of-self-2 : goal.invariant_of-self-2
invariant_of-self-2 g c =
    let contents = g.W.Write.contents in
    let inside = c.self.inside in (
      grown (contents inside.first.value.now) (contents inside.inner.now) (contents c.write_out-count.new.writer) _ c.self.invariant.0 c.write_out-count.ensures.text,
      omega arith,
      c.self.invariant.2,
    )
