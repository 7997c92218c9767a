-- What a reader of the code found, by the laws of its field.
use Rattle.std.proofs.Common.{◌≡◌, ◌≤◌, ℕ, List, length, drop, Option, Some, None, sym, ap, ◌∙◌}
use Rattle.std.specs.Prelude.{IfSome, IfNone}
use Rattle.kfs_model.specs.Spelling.{IsBytes, Begins}
use Rattle.kfs_entry.specs.Codec.Reading.{StandsIn, seen}
use Rattle.kfs_model.proofs.Fields.{IsBytes-drop, IsField}

-- what was read stands there
pub is_found : {V M : Type 0} {F : M → Type 0} {s : M → List ℕ} {r : List ℕ → Option (M × List ℕ)} (view : V → M) → IsField F s r
    → (source : List ℕ) (at : ℕ) (result : Option (V × ℕ)) → IsBytes source → seen view source result ≡ r (drop at source) → IfSome result (λ x. x.1 ≤ length source)
    → IfSome result (λ x. F (view x.0) × StandsIn source at x.1 (s (view x.0)))
is_found view field source at (Some x) fits e within =
    let stands = field.takes (drop at source) (view x.0, drop x.1 source) (IsBytes-drop at source fits) (sym e) in
    (stands.fits, record { within = within; parts = stands.parts })
is_found view field source at None fits e within = tt

pub IfSome-both : {V : Type 0} (P Q R : V → Type 0) → ((x : V) → P x → Q x → R x) → (o : Option V) → IfSome o P → IfSome o Q → IfSome o R
IfSome-both P Q R f (Some x) h k = f x h k
IfSome-both P Q R f None h k = tt

pub IfSome-weaker : {V : Type 0} (P Q : V → Type 0) → ((x : V) → P x → Q x) → (o : Option V) → IfSome o P → IfSome o Q
IfSome-weaker P Q f (Some x) h = f x h
IfSome-weaker P Q f None h = tt

abbrev read_none : {V : Type 0} → Option V
read_none = None

-- where nothing was read, nothing stands
pub is_none : {V M : Type 0} {F : M → Type 0} {s : M → List ℕ} {r : List ℕ → Option (M × List ℕ)} (view : V → M) → IsField F s r
    → (source bytes : List ℕ) → (result : Option (V × ℕ)) → seen view source result ≡ r bytes
    → IfNone result (Begins F s bytes → ⊥)
is_none view field source bytes (Some x) e = tt
is_none {V} {M} {F} {s} {r} view field source bytes None e = λ begins.
    let again : read_none {V = M × List ℕ} ≡ Some (begins.0, begins.1) = e ∙ ap r begins.3 ∙ field.again begins.0 begins.1 begins.2 in
    cc

pub IfNone-weaker : {V P Q : Type 0} → (P → Q) → (o : Option V) → IfNone o P → IfNone o Q
IfNone-weaker f (Some x) h = tt
IfNone-weaker f None h = f h
