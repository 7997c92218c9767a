use Rattle.std.proofs.Common.{List, ℕ, ◌+◌, ◌-◌, length, take, drop, subst}
use Rattle.std.specs.Io.KnownBytes.{Appends, Keeps, append_known}
use Rattle.kfs_program_text.specs.HeldOutput.{HasGrown, HeldOutput, contents_with}
use Rattle.kfs_program_text.proofs.HeldBytes.{grown, moved, on_err}
use Rattle.kfs_program_text.proofs.held.HeldBack.close.Goals as goal

pub returns-clause-grown : goal.returns-clause-grown
returns-clause-grown g c =
    let contents = g.W.Write.contents in
    let inside = c.self.inside in
    subst (λ (h : HeldOutput _). HasGrown (contents h.first.now) (contents c.write_out-count.new.writer)) c.self.view_is
    (grown (contents inside.first.value.now) (contents inside.inner.now) (contents c.write_out-count.new.writer) _ c.self.invariant.0 c.write_out-count.ensures.text)

pub returns-clause-part : goal.returns-clause-part
returns-clause-part g c =
    let contents = g.W.Write.contents in
    let inside = c.self.inside in
    let count = c.write_out-count.result.0 in
    let before = contents inside.inner.now in
    let after = contents c.write_out-count.new.writer in
    let wrote = subst (λ (items : List ℕ). Appends before after (take count (take (length items - inside.taken) (drop inside.taken items)))) c.deref.ensures.value c.write_out-count.ensures.text in
    on_err c.write_out-count.result.1 (
      drop (inside.taken + count) inside.held.items,
      subst (λ (h : HeldOutput _). Keeps (contents_with contents h) (append_known after (drop (inside.taken + count) inside.held.items))) c.self.view_is (moved inside.held.items inside.taken count before after wrote),
    )
