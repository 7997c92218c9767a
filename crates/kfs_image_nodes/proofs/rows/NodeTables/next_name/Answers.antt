use Rattle.std.proofs.Common.{◌≡◌, ℕ, true, Some, List, sym, subst}
use Rattle.std.specs.Prelude.{IfNone}
use Rattle.kfs_model.specs.Tree.{name_order, target}
use Rattle.kfs_maps.specs.Chunks.Starts.{is_from, IsNextEntry}
use Rattle.kfs_image_nodes.specs.Look.{IsAfter}
use Rattle.kfs_image_nodes.specs.Rows.{names_in}
use Rattle.kfs_image_nodes.proofs.NextNames.{no_later, next_here, next_beyond}
use Rattle.kfs_image_nodes.proofs.rows.NodeTables.next_name.Goals as goal

pub returns-in_err-key-clause-none : goal.returns-in_err-key-clause-none
returns-in_err-key-clause-none g c =
    let start = c.start_after-start in
    subst (λ r. IfNone r ((m : List ℕ) (n : ℕ) → target (names_in c.args.self.now) c.args.dir m ≡ Some n → IsAfter c.args.after m → ⊥)) (sym c.from_residual.ensures)
    (no_later c.args.self.now.names c.requires.names start.result c.args.dir c.args.after start.ensures.within
    (λ q from. c.in_err-key.ensures.none q (subst (λ b. is_from name_order.compare b q ≡ true) (sym c.as_ref.ensures) from)))

pub returns-then-key-dir-clause-found : goal.returns-then-key-dir-clause-found
returns-then-key-dir-clause-found g c =
    let start = c.start_after-start in
    let key = c.in_ok-key.key.now in
    let number = c.in_ok-key.number.now in
    next_here c.args.self.now.names c.requires.names start.result c.args.dir c.args.after start.ensures.within key number
    (subst (λ b. IsNextEntry name_order.compare b c.args.self.now.names key number) c.as_ref.ensures c.in_ok-key.ensures.some) c.if-key-dir.true start.ensures.later

pub returns-else-key-dir-clause-none : goal.returns-else-key-dir-clause-none
returns-else-key-dir-clause-none g c =
    let start = c.start_after-start in
    let key = c.in_ok-key.key.now in
    let number = c.in_ok-key.number.now in
    let first = subst (λ b. IsNextEntry name_order.compare b c.args.self.now.names key number) c.as_ref.ensures c.in_ok-key.ensures.some in
    next_beyond c.args.self.now.names c.requires.names start.result c.args.dir c.args.after start.ensures.within key number first (start.ensures.directory key first.within) c.if-key-dir.false
