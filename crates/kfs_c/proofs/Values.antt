-- The machine value of a handle, and what it owns. Assumes `Logic`.
--     word, word_fits, pointer_fits     the pointer and the flag, and that they have their types
--     wraps, unwraps     a handle is its word and what it owns
--     by_value     it owns nothing, or something at a pointer that isn't null
use Rattle.std.proofs.Common.{◌≡◌, ℕ, Bool, true, false, List, [], ◌∷◌, ◌++◌, refl, subst, lit<}
use lib.Dec.{T}
use seplogic.Ra.Ura.{Ura}
use mir.Raw.{raw as bare}
use mir.Syntax.{ty_ptr}
use mir.Val.{Val, vbool, vstruct, vcons, vnil, of_list, has_ty, WT}
use base.Fml.{Fml}
use base.Logic.{never, fst∗}
use types.Logic.{Logic, sem}
use types.Kit.{Item, Goal, Seq, Step, step, ‵, ◌$◌, drop, fsplit, fjoin, fpick, fpack, feq_i, feq_l}
use denote.RattleType.{RattleType, Valss}
use denote.Builtin.{RawPtr, bool}
use denote.Memory.{lone}
use denote.Param.{layout}
use denote.RawPtr.{Ptr, block_ptr, null_ptr, ptr_val, in_a_block}
use denote.Steps.{nothing}
use denote.Struct.Struct.{within}
use denote.Struct.Owning.{shape}
use Rattle.std.specs.Prelude.{Option, None, Some}
use Rattle.std.specs.Box.Ownership.{box_owns}
use Rattle.std.specs.Global.{Global}
use Rattle.std.specs.contracts.impls.GlobalAllocator.TheImpl.{ghosts}
use Rattle.kfs_c.specs.declared.held.Held.{Held}
use Rattle.kfs_c.specs.Handle.{handle_owns, the_held}
use Rattle.kfs_c.specs.contracts.handle.Handle as handle

abbrev pub Handle : RattleType
Handle = handle.the_row

abbrev pub word : Ptr → Bool → Val
word at full = vstruct (vcons (ptr_val at) (vcons (vbool full) vnil))

pub word_fits : (at : Ptr) (full : Bool) → T (has_ty (layout Handle) (word at full)) × WT (word at full)
word_fits (block_ptr b o) full = (tt, (tt, (tt, tt)))
word_fits null_ptr full = (tt, (record { fits = lit< tt }, (tt, tt)))

pub pointer_fits : (at : Ptr) → T (has_ty ty_ptr (ptr_val at)) × WT (ptr_val at)
pointer_fits (block_ptr b o) = (tt, tt)
pointer_fits null_ptr = (tt, record { fits = lit< tt })

-- what lies in the block, with the right to free it
abbrev pub Boxed : Global → Held → Ptr → Fml
Boxed alloc value at = box_owns (ghosts.dealloc_token alloc) the_held at value

module _ {M : Type 1} {𝓤 : Ura M} {𝓛 : Logic 𝓤} {K : Type 0} {Γ : List (Item 𝓤)} {G : Goal 𝓤 𝓛.H} where
  pub wraps : K → (at : Ptr) (full : Bool) (value : Option Held)
      → Step K 𝓛 (‵ (Handle.own_val (record { at = at; full = full; value = value }) (word at full ∷ [])) ∷ Γ) G (‵ (handle_owns full at value) ∷ Γ) G
  wraps t at full value = step (λ rest. let w : Val = word at full in
      nothing t $ feq_i t (List Val) (vbool full ∷ []) (vbool full ∷ []) refl $ fjoin t $
      feq_i t (List Val) (ptr_val at ∷ []) (ptr_val at ∷ []) refl $ fjoin t $
      feq_i t (List Val) (w ∷ []) (w ∷ []) refl $ fjoin t $
      fpack t (Valss (RawPtr ∷ bool ∷ [])) (within (shape handle.the_type) (at, (full, tt)) (w ∷ [])) (ptr_val at ∷ [], (vbool full ∷ [], tt)) $
      fjoin t $ rest)

  pub unwraps : K → (d : Handle.Denot) (vs : List Val)
      → (vs ≡ word d.at d.full ∷ [] → Seq K 𝓛 (‵ (handle_owns d.full d.at d.value) ∷ Γ) G) → Seq K 𝓛 (‵ (Handle.own_val d vs) ∷ Γ) G
  unwraps t d vs next =
      fsplit t $ fpick t (λ parts. fsplit t $ feq_l t (λ vs_is. fsplit t $ feq_l t (λ at_is. fsplit t $ feq_l t (λ full_is. drop t $
      let of_at : vs ≡ vstruct (of_list (ptr_val d.at ∷ (parts.1.0 ++ []))) ∷ [] =
      subst (λ (ps : List Val). vs ≡ vstruct (of_list (ps ++ (parts.1.0 ++ []))) ∷ []) at_is vs_is in
      next (subst (λ (bs : List Val). vs ≡ vstruct (of_list (ptr_val d.at ∷ (bs ++ []))) ∷ []) full_is of_at)))))

  pub by_value : K → (full : Bool) (at : Ptr) (value : Option Held)
      → (full ≡ false → value ≡ None → Seq K 𝓛 Γ G)
      → ((alloc : Global) (b o : ℕ) (held : Held) → full ≡ true → at ≡ block_ptr b o → value ≡ Some held → Seq K 𝓛 (‵ (Boxed alloc held (block_ptr b o)) ∷ Γ) G)
      → Seq K 𝓛 (‵ (handle_owns full at value) ∷ Γ) G
  by_value t full at None nothing_held held = feq_l t (λ empty. nothing_held empty refl)
  by_value t full at (Some value) nothing_held held =
      fsplit t $ feq_l t (λ filled. fpick t (λ alloc. in_a_block t at (Boxed alloc value)
      (fst∗ 𝓤 (never 𝓤) (sem 𝓛 (ghosts.dealloc_token alloc (bare (lone the_held.mir)) null_ptr))) (λ b o at_is. held alloc b o value filled at_is refl)))
