-- The tree of a new image is sound.
use Rattle.std.proofs.Common.{◌≡◌, ℕ, zero, ◌==◌, Bool, true, false, cond, List, Option, Some, None, IsTrue, refl, sym, ap, subst, ◌∙◌, arith, eqb-true}
use Rattle.std.specs.Bool.{one_answer}
use Rattle.std.proofs.lemmas.Bool.Decides.{Decides-eqb}
use Rattle.std.proofs.lemmas.Bool.{false≢true}
use Rattle.kfs_model.specs.Header.{Header, Directory}
use Rattle.kfs_model.specs.Table.{numbers, get, mapped}
use Rattle.kfs_model.specs.Tree.{Tree, headers, target}
use Rattle.kfs_model.specs.Sight.{is_directory, is_file}
use Rattle.kfs_model.specs.Soundness.{InRange, IsSound}
use Rattle.kfs_model.specs.Fresh.{fresh_tree}
use Rattle.kfs_model.proofs.NameTable.{ties_decide}

abbrev root_header : Header
root_header = record { kind = Directory; mode = 511; uid = 0; gid = 0; links = 1; size = 0 }

module _ (B : Type 0) where
  abbrev fresh : Tree B
  fresh = fresh_tree

  shows_root : (k : ℕ) → get (headers fresh) k ≡ cond (k == 1) (Some root_header) None
  unfolding get mapped
  shows_root k = ap (λ b. cond b (Some root_header) None) (one_answer _ _ (ties_decide numbers k 1) (Decides-eqb k 1))

  no_name : (d : ℕ) (m : List ℕ) → target fresh.names d m ≡ None
  unfolding get
  no_name d m = refl

  only_root : {P : Type 0} (k : ℕ) (test : Option Header → Bool) → test None ≡ false → IsTrue (test (get (headers fresh) k)) → (k ≡ 1 → IsTrue (test (Some root_header)) → P) → P
  only_root {P} k test none holds at_root = at (k == 1) refl (ap test (sym (shows_root k)) ∙ holds)
    where
      at : (b : Bool) → (k == 1) ≡ b → IsTrue (test (cond b (Some root_header) None)) → P
      at true same holds = at_root (eqb-true k 1 same) holds
      at false other holds = absurd (false≢true (sym none ∙ holds))

  pub fresh_is_sound : IsSound fresh
  fresh_is_sound = record {
    root = ap is_directory (shows_root 1);
    names_sound = λ d m n there. let none = no_name d m in cc;
    directories = λ k directory other. only_root k is_directory refl directory (λ root holds. absurd (other root));
    files = λ k file. only_root k is_file refl file (λ root holds. absurd (false≢true holds));
    reaches = λ k directory. only_root k is_directory refl directory (λ root holds. (zero, root));
    ranges = λ k h shown. range k h (k == 1) refl (sym (shows_root k) ∙ shown);
  }
    where
      range : (k : ℕ) (h : Header) (b : Bool) → (k == 1) ≡ b → cond b (Some root_header) None ≡ Some h → InRange k h
      range k h true same shown =
          let root = eqb-true k 1 same in
          let header_is : root_header ≡ h = cc in
          subst (InRange k) header_is (record { least = omega arith; greatest = omega arith; mode = omega arith; uid = omega arith; gid = omega arith; size = omega arith })
      range k h false other shown = cc
