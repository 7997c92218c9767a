use Rattle.std.proofs.Common.{◌+◌, ◌++◌, length, sym, subst, arith, length-append}
use Rattle.std.proofs.lemmas.Result.{on_ok_weaker}
use Rattle.kfs_journal.specs.Disk.{Files, In, Holds}
use Rattle.kfs_journal.proofs.Moments.{goes_on}
use Rattle.kfs_journal.proofs.Parts.{none_torn, one_torn_more, holds_then, holds_size}
use Rattle.kfs_journal.proofs.steps.write_parts.Goals as goal

pub returns-in_err-write_at-clause-any_moment : goal.returns-in_err-write_at-clause-any_moment
returns-in_err-write_at-clause-any_moment g c =
    let n = length (c.args.front.now ++ (c.args.body.now ++ c.args.end.now)) in
    let seen = g.D.Disk.seen c.args.disk.now in
    let size = length-append c.args.front.now (c.args.body.now ++ c.args.end.now) in
    let size_behind = length-append c.args.body.now c.args.end.now in
    let none = none_torn g.D.Disk.moment g.D.Disk.left_since c.args.file c.args.at n seen c.args.disk.now (g.D.Disk.may_leave c.args.disk.now) c.requires.durable (λ f left. g.met.D.Disk.only_now c.args.disk.now f left) in
    let first = one_torn_more g.D.Disk.moment g.D.Disk.left_since c.args.file c.args.at n seen c.args.disk.now c.args.disk.now c.write_at.new.self (g.D.Disk.may_leave c.args.disk.now) (g.D.Disk.may_leave c.write_at.new.self) c.args.at (length c.args.front.now) (omega arith) (omega (arith, size, size_behind)) none c.write_at.ensures.crash c.write_at.ensures.time in
    first.0

pub returns-in_err-write_at-2-clause-any_moment : goal.returns-in_err-write_at-2-clause-any_moment
returns-in_err-write_at-2-clause-any_moment g c =
    let n = length (c.args.front.now ++ (c.args.body.now ++ c.args.end.now)) in
    let seen = g.D.Disk.seen c.args.disk.now in
    let size = length-append c.args.front.now (c.args.body.now ++ c.args.end.now) in
    let size_behind = length-append c.args.body.now c.args.end.now in
    let none = none_torn g.D.Disk.moment g.D.Disk.left_since c.args.file c.args.at n seen c.args.disk.now (g.D.Disk.may_leave c.args.disk.now) c.requires.durable (λ f left. g.met.D.Disk.only_now c.args.disk.now f left) in
    let first = one_torn_more g.D.Disk.moment g.D.Disk.left_since c.args.file c.args.at n seen c.args.disk.now c.args.disk.now c.write_at.new.self (g.D.Disk.may_leave c.args.disk.now) (g.D.Disk.may_leave c.write_at.new.self) c.args.at (length c.args.front.now) (omega arith) (omega (arith, size, size_behind)) none c.write_at.ensures.crash c.write_at.ensures.time in
    let second = one_torn_more g.D.Disk.moment g.D.Disk.left_since c.args.file c.args.at n seen c.args.disk.now c.write_at.new.self c.write_at-2.new.self (g.D.Disk.may_leave c.write_at.new.self) (g.D.Disk.may_leave c.write_at-2.new.self) (c.args.at + length c.args.front.now) (length c.args.body.now) (omega arith) (omega (arith, size, size_behind)) first c.write_at-2.ensures.crash c.write_at-2.ensures.time in
    second.0

pub returns-in_err-write_at-3-clause-any_moment : goal.returns-in_err-write_at-3-clause-any_moment
returns-in_err-write_at-3-clause-any_moment g c =
    let n = length (c.args.front.now ++ (c.args.body.now ++ c.args.end.now)) in
    let seen = g.D.Disk.seen c.args.disk.now in
    let size = length-append c.args.front.now (c.args.body.now ++ c.args.end.now) in
    let size_behind = length-append c.args.body.now c.args.end.now in
    let none = none_torn g.D.Disk.moment g.D.Disk.left_since c.args.file c.args.at n seen c.args.disk.now (g.D.Disk.may_leave c.args.disk.now) c.requires.durable (λ f left. g.met.D.Disk.only_now c.args.disk.now f left) in
    let first = one_torn_more g.D.Disk.moment g.D.Disk.left_since c.args.file c.args.at n seen c.args.disk.now c.args.disk.now c.write_at.new.self (g.D.Disk.may_leave c.args.disk.now) (g.D.Disk.may_leave c.write_at.new.self) c.args.at (length c.args.front.now) (omega arith) (omega (arith, size, size_behind)) none c.write_at.ensures.crash c.write_at.ensures.time in
    let second = one_torn_more g.D.Disk.moment g.D.Disk.left_since c.args.file c.args.at n seen c.args.disk.now c.write_at.new.self c.write_at-2.new.self (g.D.Disk.may_leave c.write_at.new.self) (g.D.Disk.may_leave c.write_at-2.new.self) (c.args.at + length c.args.front.now) (length c.args.body.now) (omega arith) (omega (arith, size, size_behind)) first c.write_at-2.ensures.crash c.write_at-2.ensures.time in
    let third = one_torn_more g.D.Disk.moment g.D.Disk.left_since c.args.file c.args.at n seen c.args.disk.now c.write_at-2.new.self c.write_at-3.new.self (g.D.Disk.may_leave c.write_at-2.new.self) (g.D.Disk.may_leave c.write_at-3.new.self) (c.args.at + length c.args.front.now + length c.args.body.now) (length c.args.end.now) (omega arith) (omega (arith, size, size_behind)) second c.write_at-3.ensures.crash c.write_at-3.ensures.time in
    third.0

pub returns-clause-any_moment : goal.returns-clause-any_moment
returns-clause-any_moment g c =
    let n = length (c.args.front.now ++ (c.args.body.now ++ c.args.end.now)) in
    let seen = g.D.Disk.seen c.args.disk.now in
    let size = length-append c.args.front.now (c.args.body.now ++ c.args.end.now) in
    let size_behind = length-append c.args.body.now c.args.end.now in
    let none = none_torn g.D.Disk.moment g.D.Disk.left_since c.args.file c.args.at n seen c.args.disk.now (g.D.Disk.may_leave c.args.disk.now) c.requires.durable (λ f left. g.met.D.Disk.only_now c.args.disk.now f left) in
    let first = one_torn_more g.D.Disk.moment g.D.Disk.left_since c.args.file c.args.at n seen c.args.disk.now c.args.disk.now c.write_at.new.self (g.D.Disk.may_leave c.args.disk.now) (g.D.Disk.may_leave c.write_at.new.self) c.args.at (length c.args.front.now) (omega arith) (omega (arith, size, size_behind)) none c.write_at.ensures.crash c.write_at.ensures.time in
    let second = one_torn_more g.D.Disk.moment g.D.Disk.left_since c.args.file c.args.at n seen c.args.disk.now c.write_at.new.self c.write_at-2.new.self (g.D.Disk.may_leave c.write_at.new.self) (g.D.Disk.may_leave c.write_at-2.new.self) (c.args.at + length c.args.front.now) (length c.args.body.now) (omega arith) (omega (arith, size, size_behind)) first c.write_at-2.ensures.crash c.write_at-2.ensures.time in
    let third = one_torn_more g.D.Disk.moment g.D.Disk.left_since c.args.file c.args.at n seen c.args.disk.now c.write_at-2.new.self c.write_at-3.new.self (g.D.Disk.may_leave c.write_at-2.new.self) (g.D.Disk.may_leave c.write_at-3.new.self) (c.args.at + length c.args.front.now + length c.args.body.now) (length c.args.end.now) (omega arith) (omega (arith, size, size_behind)) second c.write_at-3.ensures.crash c.write_at-3.ensures.time in
    goes_on g.D.Disk.moment g.D.Disk.left_since c.args.disk.now c.write_at-3.new.self c.sync.new.self _ (g.D.Disk.may_leave c.sync.new.self) third.0 c.sync.ensures.time (λ f left. third.1 f (c.sync.ensures.crash f left))

pub returns-clause-written : goal.returns-clause-written
returns-clause-written g c =
    let first = c.in_ok-write_at.ensures.written in
    let seen = g.D.Disk.seen c.args.disk.now in
    let mid = g.D.Disk.seen c.write_at.new.self in
    let all = g.D.Disk.seen c.write_at-3.new.self in
    let within = holds_size c.args.at c.args.front.now _ _ c.requires.at first.changed in
    let rest = holds_then c.args.file (c.args.at + length c.args.front.now) c.args.body.now c.args.end.now mid (g.D.Disk.seen c.write_at-2.new.self) all within c.in_ok-write_at-2.ensures.written c.in_ok-write_at-3.ensures.written in
    let written = holds_then c.args.file c.args.at c.args.front.now (c.args.body.now ++ c.args.end.now) seen mid all c.requires.at first rest in
    on_ok_weaker c.sync.result (λ _. subst (λ (f : Files). In c.args.file (Holds c.args.at (c.args.front.now ++ (c.args.body.now ++ c.args.end.now))) seen f) (sym c.sync.ensures.seen) written) c.sync.ensures.durable
