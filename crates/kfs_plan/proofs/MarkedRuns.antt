-- The run over marks ends where the run over bytes does.
use Rattle.std.specs.Prelude.{◌≡◌, ℕ, List, Result, Ok, Err, refl}
use Rattle.std.proofs.Common.{ap, sym, ◌∙◌}
use Rattle.kfs_model.specs.Access.{Client}
use Rattle.kfs_model.specs.Entry.{Entry}
use Rattle.kfs_model.specs.Tree.{Tree, headers}
use Rattle.kfs_model.specs.Sight.{ClientSight}
use Rattle.kfs_model.specs.Run.{Mark, EntryFault, run, over_bytes, over_marks, marked, byte_of, looked_up}
use Rattle.kfs_model.proofs.Cells.{recut, headers-recut}
use Rattle.kfs_model.proofs.Marks.{marks_give_bytes}

-- the same names and headers as at the end of the run over bytes
pub record EndsBeside (client : Client) (before : ClientSight) (tree : Tree ℕ) (entries : List Entry) (after : Tree ℕ) : Type 0 where
  pub marked_after : Tree Mark
  pub ran : run over_marks client before (marked tree) entries ≡ Ok marked_after
  pub names : after.names ≡ marked_after.names
  pub heads : headers after ≡ headers marked_after

ended : (byte : Mark → ℕ) (after : Tree ℕ) (ran : Result (Tree Mark) EntryFault) → looked_up byte ran ≡ Ok after → (end : Tree Mark) × (ran ≡ Ok end) × (recut byte end ≡ after)
ended byte after (Ok end) is = (end, refl, cc)
ended byte after (Err fault) is = cc

pub ends_beside : (client : Client) (before : ClientSight) (tree : Tree ℕ) (entries : List Entry) (after : Tree ℕ) → run over_bytes client before tree entries ≡ Ok after → EndsBeside client before tree entries after
ends_beside client before tree entries after ran =
    let byte = byte_of tree entries in
    let (end, is, same) = ended byte after (run over_marks client before (marked tree) entries) (marks_give_bytes client before tree entries ∙ ran) in
    record {
      marked_after = end;
      ran = is;
      names = ap (λ (t : Tree ℕ). t.names) (sym same);
      heads = ap (λ (t : Tree ℕ). headers t) (sym same) ∙ headers-recut byte end;
    }
