use Rattle.std.proofs.Common.{ℕ, ◌≡◌, List, [], ◌∷◌, ◌++◌, append_assoc, subst, ap, ◌∙◌, take}
use Rattle.std.proofs.KnownBytes.{Consumes-kept, Consumes-trans}
use Rattle.kfs_program_text.specs.Cut.{cut, line_end}
use Rattle.kfs_program.specs.declared.sessions.fault.EngineFault.TheVariants.{ReadFault}
use Rattle.kfs_program.specs.Lines.{IsUnreadable}
use Rattle.kfs_program.proofs.Lines.{reads_broken}
use Rattle.kfs_program.proofs.input.read_by_chunks.Goals as goal

pub returns-in_err-count : goal.returns-in_err-count
returns-in_err-count g c =
    let held = c.args.line.now.items in
    let (input, read, same, begun) = c.reads.invariant in
    let endless : cut line_end (held ++ input) ≡ (held ++ input) ∷ [] = subst (λ (l : List ℕ). cut line_end l ≡ l ∷ []) same begun.0 in
    reads_broken _ _ held input c.reads.line.items c.reads.left.items ReadFault c.from_residual.result c.from_residual.ensures.1 (Consumes-kept _ _ _ _ read c.in_err-count.ensures.bytes) (held ++ input, endless)

pub returns-in_err-hold_line : goal.returns-in_err-hold_line
returns-in_err-hold_line g c =
    let held = c.args.line.now.items in
    let bytes = take c.in-Some.count c.read_some.new.chunk in
    let (input, read, same, begun) = c.reads.invariant in
    let more = rw c.in-Some.is at c.in_ok-count.ensures.bytes in
    let whole : c.reads.line.items ++ bytes ≡ held ++ (input ++ bytes) = ap (λ (l : List ℕ). l ++ bytes) same ∙ append_assoc held input bytes in
    let fault = c.in_err-hold_line.field-0.0 in
    let broken : IsUnreadable fault (held ++ (input ++ bytes)) [] = subst (λ (l : List ℕ). IsUnreadable fault l []) whole c.in_err-hold_line.ensures in
    reads_broken _ _ held (input ++ bytes) c.hold_line.new.line.items c.hold_line.new.left.items fault c.from_residual-in_err-hold_line.result c.from_residual-in_err-hold_line.ensures.1 (Consumes-trans _ _ _ _ _ read more) broken
