-- `none` makes a value of no bytes, without an item.
use Rattle.std.proofs.Common.{[], ◌∷◌, refl}
use Rattle.std.proofs.raw_atomic.Walks.{proved}
use mir.Syntax.{Args, Fn, a_type}
use mir.Val.{Val, vstruct, vcons, vnil}
use mir.MapTy.{inst_fn}
use base.Fml.{Fml}
use types.Kit.{‵, raw, ◌⊛◌, ◌$◌, ◌∵◌, !, qed, move, keep, split, use0, suffices, done}
use types.Run.{no_more, and_then, returns, enter}
use types.Part.{agg}
use types.ByLocal.{alloc_all, pass_all, free_all, look_at, get, sets}
use denote.RattleType.{owns}
use denote.Param.{param, layouts}
use denote.Shadow.{makes_shadow}
use denote.Signature.{types_at}
use denote.Steps.{nothing}
use denote.Triple.Entry.{alive}
use denote.Triple.Walked.{says, walk_of, ends_at}
use Rattle.kfs_model.specs.contracts.list.GhostList as list
use Rattle.kfs_model.specs.contracts.list.GhostList.none as f
use Rattle.kfs_model.proofs.list.GhostList.none.Statement.{statement}
use Rattle.kfs_model.proofs.list.GhostList.none.Code as code

pub none_spec : {M : Type 1} → statement M
none_spec 𝓤 𝓛 𝓜 𝓡 wired Y laws =
    let E = f.ended Y in let c = f.clauses Y 𝓛 𝓜.mem 𝓡.returns in let R = list.the_row (param 0 Y) in
    let args : Args = layouts (a_type ∷ []) (Y, tt) in let function : Fn = inst_fn args code.function in
    proved 𝓛 E tt c 𝓜 𝓡 tt (f.Key.name args) function (code.unfolded 𝓤 𝓛.H 𝓜 𝓡 wired (Y, tt))
    (λ κs. tt) (λ κs. tt) (λ κs qs bounds a g are.
    let y : (walk_of 𝓛 E tt c).Ghost = ((κs, qs, bounds, a, tt), g) in
    let made : R.Denot = record { marker = record {}; items = [] } in
    let v : Val = vstruct (vcons (vstruct vnil) vnil) in let O : Fml = R.own_val made (v ∷ []) in
    qed 𝓛 ((raw (alive 𝓛 E.signature κs qs) ⊛ ‵ (owns (types_at E.signature.params κs) a tt)) ∷ raw ((c κs a).requires g) ∷ []) ∵
    split ! $ keep ! (0 ∷ []) $ enter ! _ _ _ _ _ $ alloc_all ! (λ l. pass_all ! refl tt $
    sets ! (agg ! (no_more !)) refl (tt, tt) $ sets ! (agg ! (and_then ! (get ! refl) (no_more !))) refl (tt, (tt, tt)) $
    returns ! (look_at ! 0 refl) $ free_all ! refl $
    use0 𝓛 (‵ O) (makes_shadow 𝓛 O ((λ vss. (tt, ((λ uss. (tt, tt)), tt))), tt) (((vstruct vnil ∷ [], tt), (refl, ((tt, (refl, tt)), tt))), tt)) $
    suffices ! _ (ends_at 𝓛 E tt c y v made tt tt) $ says ! refl $ nothing ! $ move ! (2 ∷ 0 ∷ 1 ∷ []) $ done !))
