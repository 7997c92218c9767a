use Rattle.std.proofs.Common.{◌≡◌, ℕ, List, [], ◌++◌, sym, ap, ◌∙◌}
use Rattle.std.specs.List.{flat_map}
use Rattle.std.proofs.KnownBytes.{Appends-kept, Appends-nil}
use Rattle.std.proofs.lemmas.Result.{err_from_is_err_and}
use Rattle.kfs_server.specs.Replies.Views.{numbered_bytes}
use Rattle.kfs_server.proofs.ServingLemmas.Sessions.{all_are_some, group_failed, group_served, partly_said}
use Rattle.kfs_server.proofs.serving.onward.write_answers.Goals as goal

pub returns-in_err-answer_group-clause-served : goal.returns-in_err-answer_group-clause-served
returns-in_err-answer_group-clause-served g c = λ frames are.
    let disk = g.D.Disk in
    let p = err_from_is_err_and c.from_residual.result c.from_residual.ensures.1 in
    let new = c.answer_group.new.kept in
    ([], Appends-nil _, rw (p.1, p.2) (group_failed disk.may_leave disk.moment disk.left_since c.args.kept.now new frames (λ f later left. g.met.D.Disk.counts_now new.disk (disk.moment c.args.kept.now.disk) f later left) (c.answer_group.ensures.any_moment frames are)))

pub returns-clause-served : goal.returns-clause-served
returns-clause-served g c = λ frames are.
    let disk = g.D.Disk in
    let wrote = c.in_ok-write_whole.ensures in
    let is : wrote.0 ≡ flat_map numbered_bytes c.answer_group.new.replies.items =
    wrote.2 ∙ c.deref-2.ensures.value ∙ c.write_replies.ensures.text ∙ ap (λ (bs : List ℕ). bs ++ flat_map numbered_bytes c.deref.result.now) c.requires.unsaid.no_text ∙ ap (flat_map numbered_bytes) c.deref.ensures.value in (
      wrote.0,
      Appends-kept _ _ _ _ wrote.1 c.in_ok-flush.ensures,
      group_served disk.may_leave disk.moment disk.left_since c.args.kept.now c.answer_group.new.kept frames c.answer_group.new.replies.items wrote.0 (c.in_ok-answer_group.ensures.served frames are) c.in_ok-answer_group.ensures.acknowledged (c.answer_group.ensures.any_moment frames are) is,
    )

pub returns-in_err-flush-clause-served : goal.returns-in_err-flush-clause-served
returns-in_err-flush-clause-served g c = λ frames are.
    let disk = g.D.Disk in
    let p = err_from_is_err_and c.from_residual-in_err-flush.result c.from_residual-in_err-flush.ensures.1 in
    let new = c.answer_group.new.kept in
    let wrote = c.in_ok-write_whole.ensures in
    let is : wrote.0 ≡ flat_map numbered_bytes c.answer_group.new.replies.items =
    wrote.2 ∙ c.deref-2.ensures.value ∙ c.write_replies.ensures.text ∙ ap (λ (bs : List ℕ). bs ++ flat_map numbered_bytes c.deref.result.now) c.requires.unsaid.no_text ∙ ap (flat_map numbered_bytes) c.deref.ensures.value in (
      wrote.0,
      Appends-kept _ _ _ _ wrote.1 c.in_err-flush.ensures,
      rw (p.1, p.2) (all_are_some disk.may_leave disk.moment disk.left_since c.args.kept.now new frames wrote.0
          (group_served disk.may_leave disk.moment disk.left_since c.args.kept.now new frames c.answer_group.new.replies.items wrote.0 (c.in_ok-answer_group.ensures.served frames are) c.in_ok-answer_group.ensures.acknowledged (c.answer_group.ensures.any_moment frames are) is)),
    )

pub returns-in_err-write_whole-clause-served : goal.returns-in_err-write_whole-clause-served
returns-in_err-write_whole-clause-served g c = λ frames are.
    let disk = g.D.Disk in
    let p = err_from_is_err_and c.from_residual-in_err-write_whole.result c.from_residual-in_err-write_whole.ensures.1 in
    let new = c.answer_group.new.kept in
    let wrote = c.in_err-write_whole.ensures in
    let is : wrote.0 ++ wrote.2.0 ≡ flat_map numbered_bytes c.answer_group.new.replies.items =
    sym wrote.2.1 ∙ c.deref-2.ensures.value ∙ c.write_replies.ensures.text ∙ ap (λ (bs : List ℕ). bs ++ flat_map numbered_bytes c.deref.result.now) c.requires.unsaid.no_text ∙ ap (flat_map numbered_bytes) c.deref.ensures.value in (
      wrote.0,
      wrote.1,
      rw (p.1, p.2) (partly_said disk.may_leave disk.moment disk.left_since c.args.kept.now new frames wrote.0 wrote.2.0
          (group_served disk.may_leave disk.moment disk.left_since c.args.kept.now new frames c.answer_group.new.replies.items (wrote.0 ++ wrote.2.0) (c.in_ok-answer_group.ensures.served frames are) c.in_ok-answer_group.ensures.acknowledged (c.answer_group.ensures.any_moment frames are) is)),
    )
