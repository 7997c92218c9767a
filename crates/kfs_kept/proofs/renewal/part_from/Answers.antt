use Rattle.std.proofs.Common.{◌≡◌, ◌-◌, ℕ, List, min, length, take, drop, ap, ◌∙◌, arith}
use Rattle.std.proofs.lemmas.List.{take_min, take_rest}
use Rattle.kfs_kept.proofs.renewal.part_from.Goals as goal

pub returns : goal.returns
returns c =
    let bytes = c.args.bytes.now in
    let behind = drop c.args.from bytes in
    let rest : take (length bytes - c.args.from) behind ≡ behind = take_rest bytes c.args.from in
    let len : c.min.result ≡ min c.args.most (length behind) = omega (arith, c.min.ensures, ap length rest) in
    ap (λ (l : List ℕ). take c.min.result l) rest ∙ ap (λ (k : ℕ). take k behind) len ∙ take_min c.args.most behind
