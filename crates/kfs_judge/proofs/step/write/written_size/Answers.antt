-- Bytes make the size no less than where they end.
use Rattle.std.specs.Prelude.{◌≡◌, ◌≢◌, ℕ, ◌+◌, max, List, [], ◌∷◌, length}
use Rattle.std.proofs.Common.{ap, sym, ◌∙◌, arith}
use Rattle.kfs_model.specs.SeenAfter.{written_size}
use Rattle.kfs_judge.proofs.step.write.written_size.Goals as goal

bytes_written : (offset size len : ℕ) (payload : List ℕ) → length payload ≡ len → len ≢ 0 → max size (offset + len) ≡ written_size offset payload size
bytes_written offset size len [] long some = absurd (some (sym long))
bytes_written offset size len (b ∷ bs) long some = ap (λ l. max size (offset + l)) (sym long)

pub returns : goal.returns
returns c payload long fits =
    let end : c.saturating_add.result ≡ c.args.offset + c.args.len = omega (arith, c.saturating_add.ensures, fits) in
    c.max.ensures ∙ ap (max c.args.size) end ∙ bytes_written c.args.offset c.args.size c.args.len payload long c.if-len-eq0.false
