use Rattle.std.proofs.Common.{◌≡◌, ℕ, List, length, map, Bor, sym, ap, subst, ◌∙◌, arith}
use Rattle.std.specs.Prelude.{Result}
use Rattle.std.proofs.lemmas.Slice.Zip.{AllZip-long}
use Rattle.kfs_call_desk.specs.declared.made.Called.{Called}
use Rattle.kfs_call_desk.specs.declared.made.CallFault.{CallFault}
use Rattle.kfs_kept.specs.Calls.Making.{Runs}
use Rattle.kfs_call.specs.Asking.{IsDecidedFor}
use Rattle.kfs_server.specs.Serving.Group.{AreReplies, calls_of}
use Rattle.kfs_call.specs.declared.asking.Decided.{Decided}
use Rattle.kfs_server.proofs.ServingLemmas.Crashes.{moved, unmoved}
use Rattle.kfs_server.proofs.ServingLemmas.Merged.{replies_long}
use Rattle.kfs_server.proofs.ServingLemmas.Runs.{decided_of, runs_long, serves_all}
use Rattle.kfs_server.proofs.serving.calling.make_calls.Goals as goal

pub returns-in_err-decided-clause-any_moment : goal.returns-in_err-decided-clause-any_moment
returns-in_err-decided-clause-any_moment g c = λ frames are.
    let was = c.requires.kept c.requires.open in
    let kept = c.args.kept.now in
    unmoved g.D.Disk.moment g.D.Disk.left_since (g.D.Disk.may_leave kept.disk) kept.disk (g.D.Disk.seen kept.disk) kept.desk frames (λ files left. g.met.D.Disk.only_now kept.disk files left) was.settled.durable was.stand

pub returns-in_err-calls-clause-any_moment : goal.returns-in_err-calls-clause-any_moment
returns-in_err-calls-clause-any_moment g c = λ frames are.
    let was = c.requires.kept c.requires.open in
    let kept = c.args.kept.now in
    unmoved g.D.Disk.moment g.D.Disk.left_since (g.D.Disk.may_leave kept.disk) kept.disk (g.D.Disk.seen kept.disk) kept.desk frames (λ files left. g.met.D.Disk.only_now kept.disk files left) was.settled.durable was.stand

pub returns-in_err-answers-clause-any_moment : goal.returns-in_err-answers-clause-any_moment
returns-in_err-answers-clause-any_moment g c = λ frames are.
    let decided = c.in_ok-decided.decided.items in
    let is : map (λ (x : Bor (List ℕ)). x.now) c.deref-2.result.now ≡ calls_of decided = ap (map (λ (x : Bor (List ℕ)). x.now)) c.deref-2.ensures.value ∙ c.in_ok-calls.ensures ∙ ap calls_of c.deref.ensures.value in
    moved g.D.Disk.moment g.D.Disk.left_since c.args.kept.now.disk c.call_some.new.kept.disk c.args.kept.now.desk frames decided _ is (decided_of c.args.group.now frames decided are c.requires.calls c.in_ok-decided.ensures) c.call_some.ensures.any_moment

pub merge-requires-clause-as_many : goal.merge-requires-clause-as_many
merge-requires-clause-as_many g c =
    let decided = c.in_ok-decided.decided.items in
    let is : map (λ (x : Bor (List ℕ)). x.now) c.deref-2.result.now ≡ calls_of decided = ap (map (λ (x : Bor (List ℕ)). x.now)) c.deref-2.ensures.value ∙ c.in_ok-calls.ensures ∙ ap calls_of c.deref.ensures.value in
    ap length c.deref-4.ensures.value ∙ runs_long c.args.kept.now.desk c.call_some.new.kept.desk _ c.in_ok-answers.answers.items c.in_ok-answers.ensures.answers ∙ ap length is ∙ ap (λ (ds : List Decided). length (calls_of ds)) (sym c.deref-3.ensures.value)

pub merge-requires-clause-room : goal.merge-requires-clause-room
merge-requires-clause-room g c =
    let long : length c.deref-3.result.now ≡ length c.args.group.now = ap length c.deref-3.ensures.value ∙ AllZip-long IsDecidedFor c.args.group.now c.in_ok-decided.decided.items c.in_ok-decided.ensures in
    omega (arith, long, c.requires.room)

pub returns-clause-as_many : goal.returns-clause-as_many
returns-clause-as_many g c =
    replies_long c.deref-3.result.now c.deref-4.result.now c.merge.new.replies.items c.merge.ensures.replies ∙ ap length c.deref-3.ensures.value
    ∙ AllZip-long IsDecidedFor c.args.group.now c.in_ok-decided.decided.items c.in_ok-decided.ensures

pub returns-clause-any_moment : goal.returns-clause-any_moment
returns-clause-any_moment g c = λ frames are.
    let decided = c.in_ok-decided.decided.items in
    let is : map (λ (x : Bor (List ℕ)). x.now) c.deref-2.result.now ≡ calls_of decided = ap (map (λ (x : Bor (List ℕ)). x.now)) c.deref-2.ensures.value ∙ c.in_ok-calls.ensures ∙ ap calls_of c.deref.ensures.value in
    moved g.D.Disk.moment g.D.Disk.left_since c.args.kept.now.disk c.call_some.new.kept.disk c.args.kept.now.desk frames decided _ is (decided_of c.args.group.now frames decided are c.requires.calls c.in_ok-decided.ensures) c.call_some.ensures.any_moment

pub returns-clause-served : goal.returns-clause-served
returns-clause-served g c = λ frames are.
    let decided = c.in_ok-decided.decided.items in
    let is : map (λ (x : Bor (List ℕ)). x.now) c.deref-2.result.now ≡ calls_of decided = ap (map (λ (x : Bor (List ℕ)). x.now)) c.deref-2.ensures.value ∙ c.in_ok-calls.ensures ∙ ap calls_of c.deref.ensures.value in
    let runs = subst (λ (calls : List (List ℕ)). Runs c.args.kept.now.desk calls c.in_ok-answers.answers.items c.call_some.new.kept.desk) is c.in_ok-answers.ensures.answers in
    let said = subst (λ (ds : List Decided). AreReplies ds c.in_ok-answers.answers.items c.merge.new.replies.items) c.deref-3.ensures.value
    (subst (λ (xs : List (Result Called CallFault)). AreReplies c.deref-3.result.now xs c.merge.new.replies.items) c.deref-4.ensures.value c.merge.ensures.replies) in
    serves_all c.args.kept.now.desk c.call_some.new.kept.desk frames decided c.in_ok-answers.answers.items c.merge.new.replies.items (decided_of c.args.group.now frames decided are c.requires.calls c.in_ok-decided.ensures) runs said
