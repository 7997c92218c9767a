-- What was asked last goes one place back.
use Rattle.std.proofs.Common.{◌≡◌, Option, Some, ap, inl, inr, sym, ◌∙◌}
use Rattle.std.specs.Prelude.{unwrap_or}
use Rattle.kfs_judge_reads.proofs.looks.Recall.put.Goals as goal

parts_are : {K V : Type 0} (key k : K) (value v : V) → ◌≡◌ {A = Option (K × V)} (Some (key, value)) (Some (k, v)) → (k ≡ key) × (v ≡ value)
parts_are {K} {V} key k value v is = (sym (ap (λ (o : Option (K × V)). (unwrap_or o (k, v)).0) is), sym (ap (λ (o : Option (K × V)). (unwrap_or o (k, v)).1) is))

pub returns : goal.returns
returns g c k v (inl last) = inr (parts_are c.args.key k c.args.value v last)
returns g c k v (inr before) = inl (inl (sym c.take.ensures.value ∙ before))
