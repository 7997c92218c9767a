use Rattle.std.proofs.Common.{◌≡◌, ℕ, ◌∷◌, [], ◌++◌, ap, subst, sym, ◌∙◌}
use Rattle.std.proofs.KnownBytes.{Appends-nil}
use Rattle.std.proofs.lemmas.Result.{err_from_is_err_and}
use Rattle.kfs_server.specs.LookUps.Views.{look_up_shown}
use Rattle.kfs_server.specs.Serving.Looking.{IsLookedUp, looked_up_bytes}
use Rattle.kfs_server.proofs.ServingLemmas.Looks.{look_failed, looked_served, looked_within}
use Rattle.kfs_server.proofs.ServingLemmas.Sessions.{partly_said}
use Rattle.kfs_server.proofs.serving.looking.answer_look_up.Goals as goal

pub returns-in_err-found-clause-served : goal.returns-in_err-found-clause-served
returns-in_err-found-clause-served g c = λ f is.
    let disk = g.D.Disk in
    let old = c.args.kept.now in
    let new = c.look.new.kept in
    let p = err_from_is_err_and c.from_residual.result c.from_residual.ensures.1 in
    ([], Appends-nil _, rw (p.1, p.2) (look_failed disk.may_leave disk.moment disk.left_since old new (f ∷ []) (λ files later left. g.met.D.Disk.counts_now new.disk (disk.moment old.disk) files later left) c.look.ensures.any_moment))

pub returns-in_err-say-clause-served : goal.returns-in_err-say-clause-served
returns-in_err-say-clause-served g c = λ f is.
    let disk = g.D.Disk in
    let old = c.args.kept.now in
    let new = c.look.new.kept in
    let found = c.in_ok-found.found in
    let look_up = look_up_shown c.args.look_up.now in
    let p = err_from_is_err_and c.from_residual-in_err-say.result c.from_residual-in_err-say.ensures.1 in
    let wrote = c.in_err-say.ensures in
    let looked = subst (λ (from : ℕ). IsLookedUp old.desk from look_up found) is.from c.in_ok-found.ensures.found in
    let said : wrote.0 ++ wrote.2.0 ≡ looked_up_bytes f.number found = sym wrote.2.1 ∙ ap (λ (n : ℕ). looked_up_bytes n found) is.number in (
      wrote.0,
      wrote.1,
      rw (p.1, p.2) (partly_said disk.may_leave disk.moment disk.left_since old new (f ∷ []) wrote.0 wrote.2.0
          (looked_served disk.may_leave disk.moment disk.left_since old new f look_up found (wrote.0 ++ wrote.2.0) (c.requires.asks f is) looked c.look.ensures.desk (λ files later left. g.met.D.Disk.counts_now new.disk (disk.moment old.disk) files later left) c.look.ensures.any_moment said)),
    )

pub returns-clause-served : goal.returns-clause-served
returns-clause-served g c = λ f is.
    let disk = g.D.Disk in
    let old = c.args.kept.now in
    let new = c.look.new.kept in
    let found = c.in_ok-found.found in
    let look_up = look_up_shown c.args.look_up.now in
    let wrote = c.in_ok-say.ensures in
    let looked = subst (λ (from : ℕ). IsLookedUp old.desk from look_up found) is.from c.in_ok-found.ensures.found in (
      wrote.0,
      wrote.1,
      looked_served disk.may_leave disk.moment disk.left_since old new f look_up found wrote.0 (c.requires.asks f is) looked c.look.ensures.desk (λ files later left. g.met.D.Disk.counts_now new.disk (disk.moment old.disk) files later left) c.look.ensures.any_moment (wrote.2 ∙ ap (λ (n : ℕ). looked_up_bytes n found) is.number),
    )

pub say-requires : goal.say-requires
say-requires g c = looked_within c.args.kept.now.desk c.args.incoming.now.from (look_up_shown c.args.look_up.now) c.in_ok-found.found c.in_ok-found.ensures.found
