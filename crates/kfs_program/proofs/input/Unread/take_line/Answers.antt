use Rattle.std.proofs.Common.{ℕ, ◌≡◌, List, ◌++◌, Bool, false, Ok, Err, subst, refl, rules}
use Rattle.kfs_program.specs.Lines.{IsLineHeld, ReadsOn}
use Rattle.kfs_program.proofs.Lines.{held_alone, none_begun, was_broken, was_read, was_unreadable, without_room}
use Rattle.kfs_program.proofs.input.Unread.take_line.Goals as goal

pub hold_line-requires : goal.hold_line-requires
hold_line-requires g c = none_begun c.clear.new.self.items c.replace-bytes.new.dest.items (search rules) (search rules)

pub returns-in_err-hold_line : goal.returns-in_err-hold_line
returns-in_err-hold_line g c =
    let own = c.args.self.now.bytes.items in
    let same : c.deref.result.now ≡ own = search rules in
    let fault = c.in_err-hold_line.field-0.0 in
    let broken = held_alone c.clear.new.self.items c.deref.result.now own c.hold_line.new.line.items c.hold_line.new.left.items (Err fault) (search rules) same c.in_err-hold_line.ensures in
    was_broken _ c.args.self.now _ c.hold_line.new.line.items fault c.from_residual.result c.from_residual.ensures.1 c.if-self.false broken

pub returns-in_err-chunk : goal.returns-in_err-chunk
returns-in_err-chunk g c =
    let result = c.from_residual-in_err-chunk.result in
    let is = rw c.in_err-chunk.ensures.fault at c.from_residual-in_err-chunk.ensures.1 in
    without_room _ c.args.self.now _ c.hold_line.new.line.items result is

pub returns-in_err-has_end : goal.returns-in_err-has_end
returns-in_err-has_end g c =
    let own = c.args.self.now.bytes.items in
    let before = g.I.Read.remaining c.args.reader.now in
    let after = g.I.Read.remaining c.read_by_chunks.new.reader in
    let line = c.read_by_chunks.new.line.items in
    let left = c.read_by_chunks.new.left.items in
    let fault = c.in_err-has_end.field-0.0 in
    let same : c.deref.result.now ≡ own = search rules in
    let on = subst (λ (has_end : Bool). IsLineHeld (c.clear.new.self.items ++ c.deref.result.now) c.hold_line.new.line.items c.hold_line.new.left.items (Ok has_end)) c.if-branch.false c.in_ok-hold_line.ensures in
    let held = held_alone c.clear.new.self.items c.deref.result.now own c.hold_line.new.line.items c.hold_line.new.left.items (Ok false) (search rules) same on in
    let read = subst (λ (l : List ℕ). ReadsOn before after l line left (Err fault)) held.0 c.in_err-has_end.ensures in
    was_unreadable before after c.args.self.now _ line left c.if-self.false held.2 fault c.from_residual-in_err-has_end.result c.from_residual-in_err-has_end.ensures.1 read

pub returns : goal.returns
returns g c =
    let own = c.args.self.now.bytes.items in
    let before = g.I.Read.remaining c.args.reader.now in
    let after = g.I.Read.remaining c.read_by_chunks.new.reader in
    let line = c.read_by_chunks.new.line.items in
    let left = c.read_by_chunks.new.left.items in
    let has_end = c.in_ok-has_end.has_end in
    let same : c.deref.result.now ≡ own = search rules in
    let on = subst (λ (ends : Bool). IsLineHeld (c.clear.new.self.items ++ c.deref.result.now) c.hold_line.new.line.items c.hold_line.new.left.items (Ok ends)) c.if-branch.false c.in_ok-hold_line.ensures in
    let held = held_alone c.clear.new.self.items c.deref.result.now own c.hold_line.new.line.items c.hold_line.new.left.items (Ok false) (search rules) same on in
    let read = subst (λ (l : List ℕ). ReadsOn before after l line left (Ok has_end)) held.0 c.in_ok-has_end.ensures in
    was_read before after c.args.self.now _ line left c.if-self.false held.2 has_end read refl refl
