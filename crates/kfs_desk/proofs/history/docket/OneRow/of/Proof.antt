-- `of` makes the empty struct, with the row that its `requires` tells of.
use mathlib.Core.Path.{refl, sym, subst}
use mathlib.Core.List.{List, [], ◌∷◌, ◌++◌}
use seplogic.Ra.Ura.{Ura}
use mir.Syntax.{Fn, Args, Dict, a_type, dcons, dnil}
use mir.Val.{Val, vptr, vstruct, vnil}
use mir.MapTy.{inst_fn}
use base.Logic.{SProp, ent, sep, via, fst∗, snd∗}
use base.Fml.{Fml}
use prog.Memory.{Memory}
use prog.Routine.{Routine}
use prog.Wp.{Calls, Loops, WpFn, Tables}
use types.Logic.{Logic, sem}
use contract.Monad.{Fun, fact, fact_use}
use contract.BorrowLft.{◌⊑◌}
use contract.Running.{tables, tables_of}
use sound.WpLaws.{WpFn-mono}
use types.Kit.{‵, raw, ◌⊛◌, ◌$◌, ◌∵◌, !, qed, move, keep, split, join, fjoin, use0, suffices, done}
use types.Run.{no_more, returns, enter}
use types.Part.{agg}
use types.ByLocal.{alloc_all, pass_all, free_all, look_at, sets}
use denote.RattleType.{RattleType, owns}
use denote.Exit.{yes}
use denote.Laws.{Are, Ises, owns_show, showss}
use denote.Param.{param, bounded}
use denote.Shadow.{makes_shadow}
use denote.Builtin.{RefOf}
use denote.Signature.{types_at, type_at, plain}
use denote.Steps.{nothing}
use denote.Triple.Clauses.{Clauses, Ended, closing}
use denote.Triple.Entry.{on_entry, alive}
use denote.Triple.Spec.{Meets, triple_of}
use denote.Triple.Table.{entered}
use denote.Triple.Walked.{says, Stays, stay_dropped, walk_of, ends_at, Goes-dropped, walk_Meets}
use Rattle.kfs_model.specs.Machine.{Row}
use Rattle.kfs_desk.specs.declared.history.docket.RowRule.{Ghosts}
use Rattle.kfs_desk.specs.contracts.history.docket.OneRow.of as f
use Rattle.kfs_desk.specs.contracts.history.docket.OneRow.of.Key.{name as key}
use Rattle.kfs_desk.proofs.history.docket.OneRow.of.Statement.{statement}
use Rattle.kfs_desk.proofs.history.docket.OneRow.of.Code as code

module _ (Y : RattleType) (g : Ghosts Y.Denot) (d : Dict) where
  abbrev R : RattleType
  R = param 0 Y

  abbrev args : Args
  args = bounded (a_type ∷ []) (Y, tt) (dcons d dnil)

  abbrev function : Fn
  function = inst_fn args code.function

  abbrev ended : Ended
  ended = f.ended Y g d

  abbrev stayed : Stays ended.signature.params ended.kept
  stayed = (stay_dropped (RefOf (0 ∷ []) tt (plain (λ _. R)) (λ _. tt)) yes, tt)

  module _ {M : Type 1} {𝓤 : Ura M} (𝓛 : Logic 𝓤) (at_mem : Memory → SProp 𝓤) (run : Routine → Fun 𝓤) where
    open 𝓛 use {H}

    abbrev held : Clauses 𝓤 ended
    held = f.clauses Y g d 𝓛 at_mem run

    module _ (C : Calls 𝓤 H) (Λ : Loops 𝓤 H) (z : (walk_of 𝓛 ended stayed held).Ghost) where
      abbrev At : List Val → (walk_of 𝓛 ended stayed held).Ghost
      At us = ((z.0.0, z.0.1, z.0.2, z.0.3, (us, tt)), z.1)

      abbrev Post : List Val → Val → SProp 𝓤
      Post us = (walk_of 𝓛 ended stayed held).post (At us)

      abbrev Goes : List Val → Type 1
      Goes us = ent 𝓤 ((walk_of 𝓛 ended stayed held).pre (At us)) (WpFn 𝓤 H C Λ function (us ++ []) (Post us))

      abbrev at : Val
      at = vptr z.0.3.0.ref_ptr.0 z.0.3.0.ref_ptr.1

      abbrev toks : SProp 𝓤
      toks = alive 𝓛 ended.signature z.0.0 z.0.1

      abbrev passed : Fml
      passed = owns (types_at ended.signature.params z.0.0) z.0.3 (at ∷ [], tt)

      abbrev Claim : Type 0
      Claim = (row : Row) × g.is_row z.0.3.0.now row

      walk : Claim → Goes (at ∷ [])
      walk chosen =
          let v : Val = vstruct vnil in let r : denote.Triple.Entry.Res ended.signature z.0.0 = record { row = chosen.0 } in
          let O : Fml = (type_at ended.signature.result z.0.0).own_val r (v ∷ []) in
          qed 𝓛 ((raw toks ⊛ ‵ passed) ∷ raw ((held z.0.0 z.0.3).requires z.1) ∷ []) ∵ split ! $ keep ! (0 ∷ []) $
          enter ! C Λ function (at ∷ []) _ $ alloc_all ! (λ l. pass_all ! refl ((tt, tt), tt) $
          sets ! (agg ! (no_more !)) refl (tt, tt) $
          returns ! (look_at ! 0 refl) $ free_all ! refl $
          use0 𝓛 (‵ O) (makes_shadow 𝓛 O ((λ vss. (tt, tt)), tt) ((tt, (refl, tt)), tt)) $
          suffices ! _ (ends_at 𝓛 ended stayed held (At (at ∷ [])) v r (tt, tt) (tt, tt)) $ says ! chosen.1 $
          nothing ! $ nothing ! $ fjoin ! $ join ! $ move ! (1 ∷ 0 ∷ []) $ join ! $ done !)

      abbrev entry : SProp 𝓤
      entry = on_entry 𝓛 ended.signature z.0.0 z.0.1 z.0.3 (at ∷ [], tt)

      -- what the signature's type parameter asks of the reference's lifetime
      abbrev outlived : SProp 𝓤
      outlived = fact 𝓤 (z.0.0.1.0 ⊑ Y.lives)

      walks : Goes (at ∷ [])
      walks =
          fact_use 𝓤 {P = sep 𝓤 entry (sep 𝓤 outlived (fact 𝓤 Claim))} {Q = WpFn 𝓤 H C Λ function ((at ∷ []) ++ []) (Post (at ∷ []))} Claim
          (via 𝓤 (sep 𝓤 outlived (fact 𝓤 Claim)) (snd∗ 𝓤 entry (sep 𝓤 outlived (fact 𝓤 Claim))) (snd∗ 𝓤 outlived (fact 𝓤 Claim))) walk

    meets : (𝓣 : Tables 𝓤 H) → Meets 𝓛 ended.signature (WpFn 𝓤 H 𝓣.C 𝓣.Λ function) (closing 𝓛 ended held)
    meets 𝓣 =
        walk_Meets 𝓛 ended stayed (Goes-dropped 𝓛 2 (RefOf (0 ∷ []) tt (plain (λ _. R)) (λ _. tt)) yes (λ κs x f. refl), tt) held
        (WpFn 𝓤 H 𝓣.C 𝓣.Λ function) (WpFn-mono 𝓤 H 𝓛.laws 𝓣 function)
        (λ z. let a = z.0.3 in let vss = z.0.4 in let Rs : List RattleType = types_at ended.signature.params z.0.0 in
        let entry : SProp 𝓤 = on_entry 𝓛 ended.signature z.0.0 z.0.1 a vss in
        fact_use 𝓤 (Are Rs (Ises Rs) a vss) (via 𝓤 (sem 𝓛 (owns Rs a vss)) (via 𝓤 entry (fst∗ 𝓤 entry ((held z.0.0 a).requires z.1)) (snd∗ 𝓤 (alive 𝓛 ended.signature z.0.0 z.0.1) (sem 𝓛 (owns Rs a vss)))) (owns_show 𝓛 Rs (Ises Rs) (showss 𝓛 Rs) a vss)) (λ are.
        subst (Goes 𝓣.C 𝓣.Λ z) (sym are.0.0) (walks 𝓣.C 𝓣.Λ z)))

pub of_spec : {M : Type 1} → statement M
unfolding tables_of
of_spec 𝓤 𝓛 𝓜 𝓡 wired Y laws g d met =
    let 𝓣 : Tables 𝓤 𝓛.H = tables_of 𝓤 𝓛.H 𝓜 (tables 𝓤 𝓛.H 𝓜 𝓡 𝓡.env) in
    entered 𝓤 𝓛.H (triple_of 𝓛 (ended Y g d).signature (closing 𝓛 (ended Y g d) (held Y g d 𝓛 𝓜.mem 𝓡.returns))) 𝓣.C 𝓣.Λ (key (args Y g d)) (function Y g d)
    (code.unfolded 𝓤 𝓛.H 𝓜 𝓡 wired (Y, tt) d) (meets Y g d 𝓛 𝓜.mem 𝓡.returns 𝓣)
