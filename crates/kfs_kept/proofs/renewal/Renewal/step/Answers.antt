use Rattle.std.proofs.Common.{◌≡◌, ◌<◌, length, sym, ap, ◌∙◌, arith, rules}
use Rattle.kfs_journal.specs.Disk.{Files}
use Rattle.kfs_journal.proofs.Moments.{and_then, weaker}
use Rattle.kfs_kept.specs.Renewing.{whole_of}
use Rattle.kfs_kept.specs.Standing.{StandFor}
use Rattle.kfs_kept.proofs.Meant.{same_stand}
use Rattle.kfs_kept.proofs.UnderWay.{finish_moment, finish_stand, is_whole, keeps_all, same_whole}
use Rattle.kfs_kept.proofs.renewal.Renewal.step.Goals as goal

-- ---- a step that doesn't come to the end

pub returns-in_err-write-clause-any_moment : goal.returns-in_err-write-clause-any_moment
returns-in_err-write-clause-any_moment g c = λ s u stand.
    weaker g.D.Disk.moment g.D.Disk.left_since c.args.disk.now c.write.new.disk _ _ (λ f same. same_stand _ f s same stand) c.write.ensures.any_moment

pub returns-then-not-is_written-clause-stand : goal.returns-then-not-is_written-clause-stand
returns-then-not-is_written-clause-stand g c = λ s u stand. same_stand _ _ s c.in_ok-write.ensures.same stand

pub returns-then-not-is_written-clause-under_way : goal.returns-then-not-is_written-clause-under_way
returns-then-not-is_written-clause-under_way g c = λ s u _. c.in_ok-write.ensures.under_way s u

pub returns-then-not-is_written-clause-goes_on : goal.returns-then-not-is_written-clause-goes_on
returns-then-not-is_written-clause-goes_on g c = λ _.
    let r = c.write.new.self in
    let u = c.in_ok-write.ensures.under_way c.requires.under_way.0 c.requires.under_way.1 in
    let more : r.done ≡ length (whole_of r) → ⊥ = λ all. let written = c.is_written.ensures.1 all in search (rules, written) in
    let less : r.done < length (whole_of r) = omega (arith, u.within, more) in
    (c.in_ok-write.ensures.step, less)

pub returns-then-not-is_written-clause-any_moment : goal.returns-then-not-is_written-clause-any_moment
returns-then-not-is_written-clause-any_moment g c = λ s u stand.
    weaker g.D.Disk.moment g.D.Disk.left_since c.args.disk.now c.write.new.disk _ _ (λ f same. same_stand _ f s same stand) c.write.ensures.any_moment

-- ---- the last step

pub finish-requires-clause-whole : goal.finish-requires-clause-whole
finish-requires-clause-whole g c =
    let r = c.write.new.self in
    let u = c.in_ok-write.ensures.under_way c.requires.under_way.0 c.requires.under_way.1 in
    let all : r.done ≡ length (whole_of r) = c.is_written.ensures.0 (search rules) in
    (r.state.items, u.groups, is_whole _ c.args.journal.now r c.requires.under_way.0 u all)

pub returns-in_err-finish-clause-any_moment : goal.returns-in_err-finish-clause-any_moment
returns-in_err-finish-clause-any_moment g c = λ s u stand.
    let r = c.write.new.self in
    let P : Files → Type 0 = λ f. StandFor f s in
    let now = c.in_ok-write.ensures.under_way s u in
    let all : r.done ≡ length (whole_of r) = c.is_written.ensures.0 (search rules) in
    let still = same_stand _ _ s c.in_ok-write.ensures.same stand in
    let part = weaker g.D.Disk.moment g.D.Disk.left_since c.args.disk.now c.write.new.disk _ P (λ f same. same_stand _ f s same stand) c.write.ensures.any_moment in
    let gate = weaker g.D.Disk.moment g.D.Disk.left_since c.write.new.disk c.finish.new.disk _ P (λ f one. finish_moment _ c.args.journal.now r s now still f one) (c.finish.ensures.any_moment r.state.items now.groups (is_whole _ c.args.journal.now r s now all)) in
    and_then g.D.Disk.moment g.D.Disk.left_since c.args.disk.now c.write.new.disk c.finish.new.disk P part gate

pub returns-clause-any_moment : goal.returns-clause-any_moment
returns-clause-any_moment g c = λ s u stand.
    let r = c.write.new.self in
    let P : Files → Type 0 = λ f. StandFor f s in
    let now = c.in_ok-write.ensures.under_way s u in
    let all : r.done ≡ length (whole_of r) = c.is_written.ensures.0 (search rules) in
    let still = same_stand _ _ s c.in_ok-write.ensures.same stand in
    let part = weaker g.D.Disk.moment g.D.Disk.left_since c.args.disk.now c.write.new.disk _ P (λ f same. same_stand _ f s same stand) c.write.ensures.any_moment in
    let gate = weaker g.D.Disk.moment g.D.Disk.left_since c.write.new.disk c.finish.new.disk _ P (λ f one. finish_moment _ c.args.journal.now r s now still f one) (c.finish.ensures.any_moment r.state.items now.groups (is_whole _ c.args.journal.now r s now all)) in
    and_then g.D.Disk.moment g.D.Disk.left_since c.args.disk.now c.write.new.disk c.finish.new.disk P part gate

pub returns-clause-stand : goal.returns-clause-stand
returns-clause-stand g c = λ s u stand.
    let r = c.write.new.self in
    let now = c.in_ok-write.ensures.under_way s u in
    let all : r.done ≡ length (whole_of r) = c.is_written.ensures.0 (search rules) in
    finish_stand _ c.args.journal.now r s now _ (c.in_ok-finish.ensures.changed r.state.items now.groups (is_whole _ c.args.journal.now r s now all))

pub returns-clause-finishes : goal.returns-clause-finishes
returns-clause-finishes g c = λ _.
    let old = c.args.self.now in
    let r = c.write.new.self in
    let step = c.in_ok-write.ensures.step in
    let s = c.requires.under_way.0 in
    let now = c.in_ok-write.ensures.under_way s c.requires.under_way.1 in
    let all : r.done ≡ length (whole_of r) = c.is_written.ensures.0 (search rules) in
    let means = c.in_ok-finish.ensures.changed r.state.items now.groups (is_whole _ c.args.journal.now r s now all) in
    (sym step.done ∙ all ∙ ap length (same_whole old r step.state step.records), keeps_all _ c.args.journal.now old r s now _ step.state step.records means)
