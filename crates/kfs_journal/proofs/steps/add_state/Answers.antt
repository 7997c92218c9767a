use Rattle.std.proofs.Common.{◌++◌, ◌∷◌, [], ℕ, List, length, subst, ap, sym, ◌∙◌, ◌≡◌, append_assoc}
use Rattle.std.specs.Int.{w64, to_be_bytes}
use Rattle.kfs_journal.specs.Disk.{In, LeavesOnly}
use Rattle.kfs_journal.specs.Journal.{IsOpened, IsOpening}
use Rattle.std.proofs.lemmas.Result.{on_ok_weaker}
use Rattle.kfs_journal.proofs.steps.add_state.Goals as goal

-- the length and the state, as one list
parts : (len state bytes : List ℕ) → bytes ≡ len → bytes ++ (state ++ 0 ∷ []) ≡ (len ++ state) ++ 0 ∷ []
parts len state bytes is = ap (λ (l : List ℕ). l ++ (state ++ 0 ∷ [])) is ∙ sym (append_assoc len state (0 ∷ []))

pub returns-clause-any_moment : goal.returns-clause-any_moment
returns-clause-any_moment g c =
    let is = parts (to_be_bytes w64 (length c.args.state.now)) c.args.state.now _ c.to_be_bytes-len.ensures in
    subst (λ (l : List ℕ). LeavesOnly g.D.Disk.moment g.D.Disk.left_since c.args.disk.now c.add_gated.new.disk (In c.args.file (IsOpening l) (g.D.Disk.seen c.args.disk.now))) is c.add_gated.ensures.any_moment

pub returns-clause-written : goal.returns-clause-written
returns-clause-written g c =
    let is = parts (to_be_bytes w64 (length c.args.state.now)) c.args.state.now _ c.to_be_bytes-len.ensures in
    on_ok_weaker c.add_gated.result (λ opened. subst (λ (l : List ℕ). In c.args.file (IsOpened l) (g.D.Disk.seen c.args.disk.now) (g.D.Disk.seen c.add_gated.new.disk)) is opened) c.add_gated.ensures.written
