-- The machine value of a loose box, and what it owns. Assumes `Logic`.
--     word, word_fits     the pointer beside the allocator, and that it has its type
--     apart, together     a loose box is [the value, with the right to free it; the allocator]
use Rattle.std.proofs.Common.{◌≡◌, ℕ, List, [], ◌∷◌, ◌++◌, refl, subst}
use mathlib.Core.Bool.{true, ◌&&◌}
use lib.Dec.{T}
use seplogic.Ra.Ura.{Ura}
use mir.Syntax.{impl, tnil, dnil}
use mir.Raw.{raw as bare}
use mir.Val.{Val, vptr, vstruct, vcons, vnil, of_list, has_ty, WT}
use base.Fml.{Fml}
use base.Logic.{never, fst∗}
use types.Logic.{Logic, sem}
use types.Kit.{Item, Goal, Seq, Step, step, ‵, ◌$◌, move, drop, fsplit, fjoin, fpick, fpack, feq_i, feq_l}
use denote.RattleType.{RattleType, Valss}
use denote.Builtin.{RawPtr}
use denote.Memory.{lone}
use denote.RawPtr.{Ptr, block_ptr, null_ptr, ptr_val, in_a_block}
use denote.Steps.{nothing}
use denote.Param.{layout}
use denote.Param.Laws.{Laws}
use denote.Struct.Struct.{within}
use denote.Struct.Owning.{shape}
use Rattle.std.specs.declared.alloc.Allocator.{Ghosts}
use Rattle.std.proofs.alloc.Calls.{Al, handle_tells}
use Rattle.std.proofs.cell.Inside.{Good}
use Rattle.std.specs.Box.Ownership.{box_owns}
use Rattle.std.proofs.ResultValues.{and_tt}
use Rattle.kfs_c.specs.contracts.loose.Loose as loose

abbrev pub word : (alloc : Val) (b o : ℕ) → Val
word alloc b o = vstruct (vcons (vptr b o) (vcons alloc vnil))

module _ (X A : RattleType) (laws : Laws A) (g : Ghosts A.Denot) where
  abbrev pub Loose : RattleType
  Loose = loose.the_row X A g

  abbrev pub allocator : Al
  allocator = record { row = A; laws = laws; g = g; d = impl [] tnil dnil; drops = impl [] tnil dnil }

  pub word_fits : (alloc : Val) (b o : ℕ) → Good (layout A) alloc → T (has_ty (layout A) alloc && true) × WT (word alloc b o)
  word_fits alloc b o fits = (and_tt (has_ty (layout A) alloc) fits.0, (tt, (fits.1, tt)))

  -- the value at the pointer, with the right to free it
  abbrev pub Owned : A.Denot → X.Denot → Ptr → Fml
  Owned alloc x at = box_owns (g.dealloc_token alloc) X at x

  module _ {M : Type 1} {𝓤 : Ura M} {𝓛 : Logic 𝓤} {K : Type 0} {Γ : List (Item 𝓤)} {G : Goal 𝓤 𝓛.H} where
    pub apart : K → (d : Loose.Denot) (vs : List Val)
        → ((b o : ℕ) (alloc : Val) → d.at ≡ block_ptr b o → vs ≡ word alloc b o ∷ [] → Good (layout A) alloc
        → Seq K 𝓛 (‵ (Owned d.alloc d.value (block_ptr b o)) ∷ ‵ (A.own_val d.alloc (alloc ∷ [])) ∷ Γ) G)
        → Seq K 𝓛 (‵ (Loose.own_val d vs) ∷ Γ) G
    apart t d vs next =
        fsplit t $ fpick t (λ parts. fsplit t $ feq_l t (λ vs_is. fsplit t $ feq_l t (λ ptr_is. fsplit t $
        -- [the allocator; nothing; what is owned at the pointer]
        handle_tells allocator t d.alloc parts.1.0 (λ alloc alloc_is fits. move t (1 ∷ []) $ drop t $ move t (1 ∷ []) $
        in_a_block t d.at (Owned d.alloc d.value) (fst∗ 𝓤 (never 𝓤) (sem 𝓛 (g.dealloc_token d.alloc (bare (lone X.mir)) null_ptr))) (λ b o at_is.
        let of_parts : vs ≡ vstruct (of_list (ptr_val d.at ∷ (parts.1.0 ++ []))) ∷ [] =
        subst (λ (ps : List Val). vs ≡ vstruct (of_list (ps ++ (parts.1.0 ++ []))) ∷ []) ptr_is vs_is in
        let of_alloc : vs ≡ vstruct (of_list (ptr_val d.at ∷ alloc ∷ [])) ∷ [] =
        subst (λ (us : List Val). vs ≡ vstruct (of_list (ptr_val d.at ∷ (us ++ []))) ∷ []) alloc_is of_parts in
        next b o alloc at_is (subst (λ (p : Ptr). vs ≡ vstruct (of_list (ptr_val p ∷ alloc ∷ [])) ∷ []) at_is of_alloc) fits)))))

    pub together : K → (alloc : Val) (b o : ℕ) (a : A.Denot) (x : X.Denot)
        → Step K 𝓛 (‵ (Loose.own_val (record { at = block_ptr b o; alloc = a; value = x }) (word alloc b o ∷ [])) ∷ Γ) G
        (‵ (Owned a x (block_ptr b o)) ∷ ‵ (A.own_val a (alloc ∷ [])) ∷ Γ) G
    together t alloc b o a x = step (λ rest. let w : Val = word alloc b o in
        -- the fields from the last to the first, then that they make up the word
        nothing t $ move t (2 ∷ 0 ∷ []) $ fjoin t $
        feq_i t (List Val) (vptr b o ∷ []) (vptr b o ∷ []) refl $ fjoin t $ feq_i t (List Val) (w ∷ []) (w ∷ []) refl $ fjoin t $
        fpack t (Valss (RawPtr ∷ A ∷ [])) (within (shape (loose.the_type X A g)) (block_ptr b o, (a, tt)) (w ∷ [])) (vptr b o ∷ [], (alloc ∷ [], tt)) $
        fjoin t $ rest)
