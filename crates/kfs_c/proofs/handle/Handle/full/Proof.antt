-- `full` keeps the pointer, and what it owns.
use Rattle.std.proofs.Common.{Bool, true, List, [], ◌∷◌, ◌++◌, refl, sym, subst}
use mir.Val.{Val}
use base.Logic.{SProp, ent, id⊢}
use base.Fml.{ftrue}
use prog.Wp.{WpFn}
use types.Kit.{‵, raw, ◌⊛◌, ◌$◌, ◌∵◌, !, qed, drop, keep, split, join, fsplit, fjoin, fpack, feq_i, suffices, done}
use types.Run.{stop, fld, of_opd, true_lit, no_more, and_then, returns, enter}
use types.ByLocal.{alloc_all, pass_all, free_all, look_at, get, get_in, sets}
use types.Part.{agg, sub, whole}
use contract.Running.{tables}
use denote.Exit.{yes}
use denote.RattleType.{RattleType, owns}
use denote.RawPtr.{block_ptr}
use denote.Signature.{types_at, plain}
use denote.Steps.{nothing}
use denote.Triple.Walked.{Stays, stay_dropped, Goes-dropped, walk_of, says, ends_at}
use Rattle.std.specs.Prelude.{Some}
use Rattle.std.specs.Global.{Global}
use Rattle.std.proofs.raw_atomic.Walks.{proved_at}
use Rattle.std.specs.contracts.alloc.Global as heap
use Rattle.std.proofs.alloc.Global.TheLaws.{the_row_laws}
use Rattle.std.specs.contracts.impls.GlobalAllocator.TheImpl.{ghosts}
use Rattle.kfs_c.proofs.LooseLemmas.Values as loose
use Rattle.kfs_c.specs.Handle.{the_held}
use Rattle.kfs_c.proofs.Values.{Boxed, word, wraps}
use Rattle.kfs_c.specs.contracts.handle.Handle.full as f
use Rattle.kfs_c.proofs.handle.Handle.full.Statement.{statement}
use Rattle.kfs_c.proofs.handle.Handle.full.Code as code

abbrev Given : RattleType
Given = loose.Loose the_held heap.the_row the_row_laws ghosts

abbrev stayed : Stays f.ended.signature.params f.ended.kept
stayed = (stay_dropped (plain (λ _. Given)) yes, tt)

pub full_spec : {M : Type 1} → statement M
full_spec 𝓤 𝓛 𝓜 𝓡 wired =
    let c = f.clauses 𝓛 𝓜.mem 𝓡.returns in let W = walk_of 𝓛 f.ended stayed c in let 𝓣 = tables 𝓤 𝓛.H 𝓜 𝓡 𝓡.env in
    proved_at 𝓛 f.ended stayed c 𝓜 𝓡 (Goes-dropped 𝓛 0 (plain (λ _. Given)) yes (λ κs x left. refl), tt)
    f.Key.name code.function (code.unfolded 𝓤 𝓛.H 𝓜 𝓡 wired) (λ y are.
    let v = y.0.3.0 in let Post : Val → SProp 𝓤 = W.post y in
    let Run : List Val → SProp 𝓤 = λ ws. WpFn 𝓤 𝓛.H 𝓣.C 𝓣.Λ code.function ws Post in
    qed 𝓛 ((‵ ftrue ⊛ ‵ (owns (types_at f.ended.signature.params y.0.0) y.0.3 y.0.4)) ∷ raw ((c y.0.0 y.0.3).requires y.1) ∷ []) ∵
    split ! $ drop ! $ fsplit ! $ loose.apart the_held heap.the_row the_row_laws ghosts ! v y.0.4.0 (λ b o h at is fits.
    -- [what lies at the pointer; the allocator; nothing; the requires]
    let w : Val = loose.word h b o in let at = block_ptr b o in
    suffices ! (Run (w ∷ [])) (subst (λ (us : List Val). ent 𝓤 (Run (w ∷ [])) (Run us)) (sym (λ i. is i ++ [])) (id⊢ 𝓤 (Run (w ∷ [])))) $
    enter ! 𝓣.C 𝓣.Λ code.function (w ∷ []) Post $
    alloc_all ! (λ l. pass_all ! refl (loose.word_fits the_held heap.the_row the_row_laws ghosts h b o fits, tt) $
    sets ! (of_opd ! (get_in ! (fld ! refl (stop !)) (sub ! 0 refl (whole !)))) refl (tt, tt) $
    sets ! (of_opd ! (get ! refl)) refl (tt, tt) $
    sets ! (agg ! (and_then ! (get ! refl) (and_then ! (true_lit !) (no_more !)))) refl (tt, (tt, (tt, tt))) $
    returns ! (look_at ! 0 refl) $ free_all ! refl $
    suffices ! _ (ends_at 𝓛 f.ended stayed c y (word at true) (record { at = at; full = true; value = Some v.value }) (tt, tt) (tt, tt)) $
    says ! refl $ fpack ! Global (λ alloc. Boxed alloc v.value at) v.alloc $ feq_i ! Bool true true refl $ fjoin ! $
    wraps ! at true (Some v.value) $ keep ! (0 ∷ []) $ nothing ! $ nothing ! $ join ! $ nothing ! $ done !)))
