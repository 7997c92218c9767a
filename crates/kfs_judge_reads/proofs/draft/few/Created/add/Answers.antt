-- One more number is created.
use Rattle.std.proofs.Common.{◌≡◌, Bool, true, false, cond, ap, sym, refl, ◌∙◌}
use Rattle.std.specs.Prelude.{◌||◌, ◌==◌}
use Rattle.std.specs.Ordering.{nat_cmp}
use Rattle.std.specs.Cmp.{unsigned_tied}
use Rattle.std.specs.BTreeSet.{contains}
use Rattle.kfs_judge_reads.specs.Draft.Created.{has_number}
use Rattle.kfs_judge_reads.proofs.draft.few.Created.add.Goals as goal

turned : (first test there : Bool) → (first || cond test true there) ≡ (test || (first || there))
turned true true there = refl
turned true false there = refl
turned false true there = refl
turned false false there = refl

pub returns-in-None : goal.returns-in-None
returns-in-None g c n = ap (λ first. (c.args.number == n) || (has_number first n || contains nat_cmp c.args.self.now.others n)) (sym c.in-None.is)

pub returns-in_ok-insert-in-Some : goal.returns-in_ok-insert-in-Some
returns-in_ok-insert-in-Some g c n =
    let first = has_number c.args.self.now.first n in
    let there = contains nat_cmp c.args.self.now.others n in
    ap (λ now. first || now) (c.in_ok-insert-in-Some.ensures.updates.0 n ∙ ap (λ tie. cond tie true there) (unsigned_tied c.args.number n)) ∙ turned first (c.args.number == n) there
