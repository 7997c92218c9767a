use Rattle.std.proofs.Common.{◌≡◌, ◌∙◌, ◌++◌, ◌+◌, ◌-◌, ◌<◌, length, take, replicate, ap, sym, subst, arith}
use Rattle.std.proofs.lemmas.List.{take-replicate}
use Rattle.std.proofs.Math.Seq.{take-append-add}
use Rattle.std.specs.Int.{w128, from_be_bytes}
use Rattle.kfs_types.specs.Padded.{padded}
use Rattle.kfs_types.proofs.Heads.{behind}
use Rattle.kfs_types.proofs.sought_name.head_of.Goals as goal

pub returns-in-Some-clause-bytes : goal.returns-in-Some-clause-bytes
returns-in-Some-clause-bytes c = λ i. subst (λ n. n < 256) (sym (behind c.args.bytes.now (255 - length c.args.bytes.now) i)) (c.type_inv.bytes i).fits

pub returns-in-None-clause-value : goal.returns-in-None-clause-value
returns-in-None-clause-value c =
    let bytes = c.args.bytes.now in
    let short : length bytes < 16 = c.in-None.ensures.cases in
    let sixteen : 16 ≡ length bytes + (16 - length bytes) = omega (arith, short) in
    let whole : take 16 (padded bytes) ≡ bytes ++ replicate (16 - length bytes) 0 =
    ap (λ n. take n (padded bytes)) sixteen
    ∙ take-append-add bytes (replicate (255 - length bytes) 0) (16 - length bytes)
    ∙ ap (λ zeros. bytes ++ zeros) (take-replicate (16 - length bytes) (255 - length bytes) 0 (omega (arith, short)))
    in
    c.short_head.ensures ∙ sym (ap (from_be_bytes w128) whole)

pub returns-in-None-clause-bytes : goal.returns-in-None-clause-bytes
returns-in-None-clause-bytes c = λ i. subst (λ n. n < 256) (sym (behind c.args.bytes.now (255 - length c.args.bytes.now) i)) (c.type_inv.bytes i).fits
