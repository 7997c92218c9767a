-- The map of shifts shows its change.
use Rattle.std.proofs.Common.{◌≡◌, ℤ, pos, negsuc, ◌≤ℤ◌, to_z, of_z, arith, subst}
use Rattle.std.specs.Int.{w32}
use Rattle.std.proofs.lemmas.Int.{ints, to_z-of_z}
use Rattle.kfs_judge_reads.specs.Draft.Shifts.{IsShifted}
use Rattle.kfs_judge_reads.proofs.DraftLemmas.Overlays.{count_shown, shifts_by_one}
use Rattle.kfs_judge_reads.proofs.draft.draft.Draft.shift_count.Goals as goal

-- the argument as the call's clause has it
read_back : (by : ℤ) → negsuc 0 ≤ℤ by → by ≤ℤ pos 1 → to_z w32 (of_z w32 by) ≡ by
read_back by least greatest = to_z-of_z w32 by (grind (arith, ints, least, greatest))

pub count_names-requires : goal.count_names-requires
count_names-requires g c =
    let above = c.requires.room.above c.args.dir in
    let below = c.requires.room.below c.args.dir in
    grind (arith, ints, above, below, c.requires.least, c.requires.greatest)

pub returns-clause-shown : goal.returns-clause-shown
returns-clause-shown g c s =
    let same = read_back c.args.by c.requires.least c.requires.greatest in
    let shifted = subst (IsShifted c.args.self.now.shifts c.count_names.new.shifts c.args.dir) same c.in_ok-count_names.ensures in
    count_shown c.args.self.now c.count_names.new.shifts c.args.dir c.args.by shifted s

pub returns-clause-written : goal.returns-clause-written
returns-clause-written g c among written = record { names = written.names; heads = written.heads }

pub returns-clause-shifts : goal.returns-clause-shifts
returns-clause-shifts g c =
    let same = read_back c.args.by c.requires.least c.requires.greatest in
    let shifted = subst (IsShifted c.args.self.now.shifts c.count_names.new.shifts c.args.dir) same c.in_ok-count_names.ensures in
    shifts_by_one c.args.self.now c.count_names.new.shifts c.args.dir c.args.by shifted c.requires.least c.requires.greatest
