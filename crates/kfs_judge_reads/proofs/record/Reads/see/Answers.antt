-- Where nothing is kept, there is nothing that has to be as what is seen.
use Rattle.std.proofs.Common.{◌≡◌, Option, None, Some, ap, ◌∙◌}
use Rattle.std.specs.Prelude.{IfSome, is_some, false}
use mathlib.Core.Bool.{true≢false}
use Rattle.kfs_judge_reads.specs.Kept.{ReadsShown}
use Rattle.kfs_judge_reads.proofs.record.Reads.see.Goals as goal

unkept : {M : Type 0} (P : M → Type 0) (kept : Option M) → is_some kept ≡ false → IfSome kept P
unkept P None is = tt
unkept P (Some m) is = absurd (true≢false is)

pub invariant_of-self : goal.invariant_of-self
invariant_of-self g c = unkept (λ map. map.entries ≡ c.and-self-inside.result.items) c.self.inside.kept (ap (λ (r : ReadsShown). r.keeps) c.self.view_is ∙ c.requires)
