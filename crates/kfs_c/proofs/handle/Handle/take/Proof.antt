-- `take` gives the pointer back with what it owns, where there is something.
use Rattle.std.proofs.Common.{true, false, List, [], ◌∷◌, ◌++◌, refl, sym, ◌∙◌, subst, lit<}
use mir.Val.{Val, vcons, vnil}
use base.Logic.{SProp, ent, id⊢}
use base.Fml.{ftrue}
use prog.Wp.{WpFn}
use types.Kit.{‵, raw, ◌⊛◌, at_ret, ◌$◌, ◌∵◌, !, qed, drop, keep, move, split, join, fsplit, suffices, use0, use1, done}
use types.Run.{stop, fld, of_opd, lit, un, no_more, and_then, first, branches, skips, exec, returns, returns_within, enter}
use types.ByLocal.{alloc_all, pass_all, free_all, look_at, get, get_in, sets, env}
use types.Part.{agg, sub, whole}
use types.Match.{live}
use contract.Running.{tables}
use denote.Exit.{yes}
use denote.RattleType.{RattleType, owns}
use denote.RawPtr.{block_ptr}
use denote.Signature.{types_at, type_at, plain}
use denote.Steps.{nothing}
use denote.Triple.Walked.{Stays, stay_dropped, Goes-dropped, walk_of, says, ends_at}
use Rattle.std.specs.Prelude.{None, Some}
use Rattle.std.proofs.raw_atomic.Walks.{proved_at}
use Rattle.std.proofs.alloc.Calls.{handle_tells}
use Rattle.std.proofs.option.Made.{Some-of, none_of}
use Rattle.std.proofs.ResultValues.{and_tt}
use Rattle.std.specs.contracts.alloc.Global as heap
use Rattle.std.proofs.alloc.Global.TheLaws.{the_row_laws}
use Rattle.std.specs.contracts.impls.GlobalAllocator.TheImpl.{ghosts}
use Rattle.kfs_c.proofs.LooseLemmas.Values as loose
use Rattle.kfs_c.specs.Handle.{the_held}
use Rattle.kfs_c.proofs.Values.{Handle, word, word_fits, pointer_fits, unwraps, by_value}
use Rattle.kfs_c.specs.contracts.handle.Handle.take as f
use Rattle.kfs_c.proofs.handle.Handle.take.Statement.{statement}
use Rattle.kfs_c.proofs.handle.Handle.take.Code as code

abbrev Heap : RattleType
Heap = heap.the_row

abbrev stayed : Stays f.ended.signature.params f.ended.kept
stayed = (stay_dropped (plain (λ _. Handle)) yes, (stay_dropped (plain (λ _. Heap)) yes, tt))

abbrev Taken : RattleType
Taken = loose.Loose the_held Heap the_row_laws ghosts

pub take_spec : {M : Type 1} → statement M
take_spec 𝓤 𝓛 𝓜 𝓡 wired =
    let c = f.clauses 𝓛 𝓜.mem 𝓡.returns in let W = walk_of 𝓛 f.ended stayed c in let 𝓣 = tables 𝓤 𝓛.H 𝓜 𝓡 𝓡.env in
    let handle_goes = Goes-dropped 𝓛 0 (plain (λ _. Handle)) yes (λ κs x left. refl) in
    let heap_goes = Goes-dropped 𝓛 0 (plain (λ _. Heap)) yes (λ κs x left. refl) in
    proved_at 𝓛 f.ended stayed c 𝓜 𝓡 (handle_goes, (heap_goes, tt)) f.Key.name code.function (code.unfolded 𝓤 𝓛.H 𝓜 𝓡 wired) (λ y are.
    let κs = y.0.0 in let v = y.0.3.0 in let a = y.0.3.1.0 in let Post : Val → SProp 𝓤 = W.post y in
    let Run : List Val → SProp 𝓤 = λ ws. WpFn 𝓤 𝓛.H 𝓣.C 𝓣.Λ code.function ws Post in
    let Out : RattleType = type_at f.signature.result κs in
    qed 𝓛 ((‵ ftrue ⊛ ‵ (owns (types_at f.ended.signature.params κs) y.0.3 y.0.4)) ∷ raw ((c κs y.0.3).requires y.1) ∷ []) ∵
    split ! $ drop ! $ fsplit ! $ unwraps ! v y.0.4.0 (λ is. move ! (1 ∷ []) $ fsplit ! $
    handle_tells (loose.allocator the_held Heap the_row_laws ghosts) ! a y.0.4.1.0 (λ h alloc_is fits. move ! (2 ∷ []) $
    -- [what the handle owns; the allocator; nothing; the requires]
    by_value ! v.full v.at v.value
    (λ empty none. let w : Val = word v.at false in
    suffices ! (Run (w ∷ h ∷ [])) (subst (λ (us : List Val). ent 𝓤 (Run (w ∷ h ∷ [])) (Run us))
    (sym (λ i. (is ∙ (λ j. word v.at (empty j) ∷ [])) i ++ (alloc_is i ++ []))) (id⊢ 𝓤 (Run (w ∷ h ∷ [])))) $
    enter ! 𝓣.C 𝓣.Λ code.function (w ∷ h ∷ []) Post $
    alloc_all ! (λ l. pass_all ! refl (word_fits v.at false, (fits, tt)) $
    sets ! (of_opd ! (get_in ! (fld ! refl (stop !)) (sub ! 0 refl (whole !)))) refl (pointer_fits v.at) $
    sets ! (of_opd ! (get_in ! (fld ! refl (stop !)) (sub ! 1 refl (whole !)))) refl (tt, tt) $
    sets ! (un ! (get ! refl) tt) refl (tt, tt) $
    first ! $ branches ! (get ! refl)
    (λ _. sets ! (agg ! (and_then ! (lit ! tt) (no_more !))) refl (tt, (record { fits = lit< tt }, tt)) $
    returns_within ! Post refl (look_at ! 0 refl) $ free_all ! refl $
    use0 𝓛 (‵ (Out.own_val None (live 0 vnil ∷ []))) (none_of 𝓛 Taken) $ keep ! (0 ∷ []) $
    suffices ! _ (ends_at 𝓛 f.ended stayed c y (live 0 vnil) None (tt, (tt, tt)) (tt, (tt, tt))) $ says ! none $
    nothing ! $ nothing ! $ join ! $ nothing ! $ join ! $ nothing ! $ done !)
    (λ wrong. absurd wrong)))
    (λ _ b o held filled at_is some. let at = block_ptr b o in let w : Val = word at true in let made : Val = loose.word h b o in
    let typed = loose.word_fits the_held Heap the_row_laws ghosts h b o fits in
    let d : Taken.Denot = record { at = at; alloc = a; value = held } in let r : Val = live 1 (vcons made vnil) in
    suffices ! (Run (w ∷ h ∷ [])) (subst (λ (us : List Val). ent 𝓤 (Run (w ∷ h ∷ [])) (Run us))
    (sym (λ i. (is ∙ (λ j. word (at_is j) (filled j) ∷ [])) i ++ (alloc_is i ++ []))) (id⊢ 𝓤 (Run (w ∷ h ∷ [])))) $
    enter ! 𝓣.C 𝓣.Λ code.function (w ∷ h ∷ []) Post $
    alloc_all ! (λ l. pass_all ! refl (word_fits at true, (fits, tt)) $
    sets ! (of_opd ! (get_in ! (fld ! refl (stop !)) (sub ! 0 refl (whole !)))) refl (tt, tt) $
    sets ! (of_opd ! (get_in ! (fld ! refl (stop !)) (sub ! 1 refl (whole !)))) refl (tt, tt) $
    sets ! (un ! (get ! refl) tt) refl (tt, tt) $
    first ! $ branches ! (get ! refl) (λ wrong. absurd wrong)
    (λ _. skips ! $ exec ! 𝓣.C 𝓣.Λ (env code.Mir.locals l) code.Mir.t-5 (at_ret _ Post) $
    sets ! (of_opd ! (get ! refl)) refl (tt, tt) $
    sets ! (agg ! (and_then ! (get ! refl) (and_then ! (get ! refl) (no_more !)))) refl typed $
    sets ! (agg ! (and_then ! (lit ! tt) (and_then ! (get ! refl) (no_more !)))) refl (and_tt _ typed.0, (record { fits = lit< tt }, (typed.1, tt))) $
    returns ! (look_at ! 0 refl) $ free_all ! refl $ loose.together the_held Heap the_row_laws ghosts ! h b o a held $
    use1 𝓛 (‵ (Out.own_val (Some d) (r ∷ []))) (Some-of 𝓛 Taken d made) $ keep ! (0 ∷ []) $
    suffices ! _ (ends_at 𝓛 f.ended stayed c y r (Some d) (tt, (tt, tt)) (tt, (tt, tt))) $ says ! some $
    nothing ! $ nothing ! $ join ! $ nothing ! $ join ! $ nothing ! $ done !))))))
