-- The tests of equality of rows and marks decide it.
use Rattle.std.proofs.Common.{◌≡◌, ℕ, Bool, ◌&&◌, ◌==◌, nat_eq, Option, Some, None, refl, ap}
use Rattle.std.specs.Bool.{Decides}
use Rattle.std.specs.Cmp.Lexicographic.{pointwise, bytes_decides}
use Rattle.std.proofs.lemmas.Bool.Decides.{Decides-eqb, Decides-and, Decides-like}
use Rattle.kfs_model.specs.Header.{Kind, File, Directory, Header}
use Rattle.kfs_model.specs.Run.{Mark}
use Rattle.kfs_model.specs.FirstWrong.{same_option, same_kind, same_header, same_place, same_pair, same_mark}

-- the test says whether its arguments are equal
pub record IsExact {X : Type 0} (same : X → X → Bool) : Type 0 where
  pub decides : (x y : X) → Decides (same x y) (x ≡ y)

pub numbers-exact : IsExact nat_eq
numbers-exact = record { decides = Decides-eqb }

pub bytes-exact : IsExact (pointwise nat_eq)
bytes-exact = record { decides = bytes_decides }

module _ {X : Type 0} (same : X → X → Bool) (exact : IsExact same) where
  options_decide : (x y : Option X) → Decides (same_option same x y) (x ≡ y)
  options_decide None None = (λ _. refl, λ _. refl)
  options_decide None (Some y) = (λ e. cc, λ e. cc)
  options_decide (Some x) None = (λ e. cc, λ e. cc)
  options_decide (Some x) (Some y) = (λ e. ap Some ((exact.decides x y).0 e), λ e. (exact.decides x y).1 cc)

  pub options-exact : IsExact (same_option same)
  options-exact = record { decides = options_decide }

pub pairs-exact : {K X : Type 0} (same_key : K → K → Bool) (same_value : X → X → Bool) → IsExact same_key → IsExact same_value → IsExact (same_pair same_key same_value)
pairs-exact same_key same_value keys values = record {
  decides = λ a b. Decides-like _ (λ e i. (e.0 i, e.1 i)) (λ e. (ap (λ p. p.0) e, ap (λ p. p.1) e)) (Decides-and _ _ (keys.decides a.0 b.0) (values.decides a.1 b.1));
}

pub places-exact : IsExact same_place
places-exact = record {
  decides = λ a b. Decides-like _ (λ e i. (e.0 i, e.1 i)) (λ e. (ap (λ p. p.0) e, ap (λ p. p.1) e)) (Decides-and _ _ (Decides-eqb a.0 b.0) (bytes_decides a.1 b.1));
}

kinds_decide : (g h : Kind) → Decides (same_kind g h) (g ≡ h)
kinds_decide File File = (λ _. refl, λ _. refl)
kinds_decide File Directory = (λ e. cc, λ e. cc)
kinds_decide Directory File = (λ e. cc, λ e. cc)
kinds_decide Directory Directory = (λ _. refl, λ _. refl)

headers_decide : (g h : Header) → Decides (same_header g h) (g ≡ h)
headers_decide g h =
    Decides-like _
    (λ e i. record { kind = e.0.0.0.0.0 i; mode = e.0.0.0.0.1 i; uid = e.0.0.0.1 i; gid = e.0.0.1 i; links = e.0.1 i; size = e.1 i })
    (λ e. (((((ap (λ (h : Header). h.kind) e, ap (λ (h : Header). h.mode) e), ap (λ (h : Header). h.uid) e), ap (λ (h : Header). h.gid) e), ap (λ (h : Header). h.links) e), ap (λ (h : Header). h.size) e))
    (Decides-and _ _ (Decides-and _ _ (Decides-and _ _ (Decides-and _ _ (Decides-and _ _ (kinds_decide g.kind h.kind) (Decides-eqb g.mode h.mode)) (Decides-eqb g.uid h.uid)) (Decides-eqb g.gid h.gid)) (Decides-eqb g.links h.links)) (Decides-eqb g.size h.size))

pub headers-exact : IsExact same_header
headers-exact = record { decides = headers_decide }

numbers_decide : (n i k j : ℕ) → Decides ((n == k) && (i == j)) ((n ≡ k) × (i ≡ j))
numbers_decide n i k j = Decides-and _ _ (Decides-eqb n k) (Decides-eqb i j)

marks_decide : (m n : Mark) → Decides (same_mark m n) (m ≡ n)
marks_decide (Mark.Base n i) (Mark.Base k j) = Decides-like _ (λ e t. Mark.Base (e.0 t) (e.1 t)) (λ e. (cc, cc)) (numbers_decide n i k j)
marks_decide (Mark.Base n i) Mark.Zero = (λ e. cc, λ e. cc)
marks_decide (Mark.Base n i) (Mark.Payload e j) = (λ e. cc, λ e. cc)
marks_decide Mark.Zero (Mark.Base k j) = (λ e. cc, λ e. cc)
marks_decide Mark.Zero Mark.Zero = (λ _. refl, λ _. refl)
marks_decide Mark.Zero (Mark.Payload e j) = (λ e. cc, λ e. cc)
marks_decide (Mark.Payload e i) (Mark.Base k j) = (λ e. cc, λ e. cc)
marks_decide (Mark.Payload e i) Mark.Zero = (λ e. cc, λ e. cc)
marks_decide (Mark.Payload e i) (Mark.Payload f j) = Decides-like _ (λ p t. Mark.Payload (p.0 t) (p.1 t)) (λ p. (cc, cc)) (numbers_decide e i f j)

pub marks-exact : IsExact same_mark
marks-exact = record { decides = marks_decide }
