-- Frames that are read one after another.
use Rattle.std.proofs.Common.{◌≡◌, ℕ, suc, ◌+◌, ◌^◌, ◌<◌, List, [], ◌∷◌, ◌++◌, length, take, get_or, Option, Some, None, Result, refl, sym, ap, subst, ◌∙◌, append_assoc, append-nil, arith}
use Rattle.std.specs.List.{flat_map, AllByRecursion, AllZip}
use Rattle.std.proofs.lemmas.List.{take_more}
use Rattle.std.proofs.lemmas.Grind.{flat_map-append}
use Rattle.kfs_call.proofs.Zips.{zip_more}
use Rattle.kfs_server.specs.Frames.Frame.{Frame, IsFrame, frame_bytes, head_bytes, stream_of}
use Rattle.kfs_server.specs.Frames.Begun.{AreRead, AreReadTo, IsBody, IsFrameOf, IsHead, IsNextFrame, IsPending, whole_ones}
use Rattle.std.specs.declared.vec.Vec.{Vec}
use Rattle.kfs_call.specs.declared.frame.BodyFault.{BodyFault}
use Rattle.kfs_call.specs.declared.frame.Incoming.{Incoming}
use Rattle.kfs_server.specs.declared.frames.begun.Begun.{Begun}

-- one more has it
pub all_more : {X : Type 0} (P : X → Type 0) (xs : List X) (x : X) → AllByRecursion P xs → P x → AllByRecursion P (xs ++ x ∷ [])
all_more P [] x all p = (p, tt)
all_more P (y ∷ xs) x all p = (all.0, all_more P xs x all.1 p)

-- the next item of a list has it, too
pub all_taken : {X : Type 0} (P : X → Type 0) (xs : List X) (i : ℕ) (x : X) → i < length xs → x ≡ get_or xs i x → AllByRecursion P (take i xs) → P x → AllByRecursion P (take (i + 1) xs)
all_taken {X} P xs i x lt is all one =
    subst (λ (zs : List X). AllByRecursion P zs) (ap (λ (z : X). take i xs ++ z ∷ []) is ∙ sym (take_more xs i x lt)) (all_more P (take i xs) x all one)

-- the first one and so many others
pub all_first : {X : Type 0} (P : X → Type 0) (x : X) (xs : List X) (k : ℕ) → P x → AllByRecursion P (take k xs) → AllByRecursion P (take (1 + k) (x ∷ xs))
all_first {X} P x xs k one all =
    let more : suc k ≡ 1 + k = omega arith in
    subst (λ (n : ℕ). AllByRecursion P (take n (x ∷ xs))) more (one, all)

module _ {A : Type 0} where
  -- a head and all of its body are a frame
  pub whole_frame : (len number from : ℕ) (part rest : List ℕ) (body : Result (Vec ℕ A) BodyFault) (next : Begun A) → IsHead len number from → length part ≡ len → IsBody len body part → IsPending next []
      → IsNextFrame (head_bytes len number from ++ part ++ rest) rest (Some (record { number = number; from = from; body = body })) next
  whole_frame len number from part rest body next fits all kept pending =
      let f : Frame = record { number = number; from = from; body = part } in (
        f,
        record { len = subst (λ (n : ℕ). n < 2 ^ 32) (sym all) fits.len_fits; number = fits.number_fits; from = fits.from_fits },
        record { number = refl; from = refl; body = subst (λ (n : ℕ). IsBody n body part) (sym all) kept },
        pending,
        ap (λ (n : ℕ). head_bytes n number from ++ part ++ rest) (sym all),
      )

  -- before the first byte is looked at
  pub reads_begin : (came piece : List ℕ) (begun : Begun A) → IsPending begun came → AreReadTo piece (came ++ piece) [] begun
  reads_begin came piece begun pending = record { frames = []; left = came; are = tt; each = tt; pending = pending; whole = refl }

  -- further bytes are looked at
  pub reads_on : (bytes piece rest : List ℕ) (xs : List (Incoming A)) (whole : Option (Incoming A)) (begun next : Begun A) → AreReadTo piece bytes xs begun
      → ((came : List ℕ) → IsPending begun came → IsNextFrame (came ++ piece) rest whole next) → AreReadTo rest bytes (xs ++ whole_ones whole) next
  reads_on bytes piece rest xs None begun next so_far step =
      let one = step so_far.left so_far.pending in record {
        frames = so_far.frames;
        left = one.0;
        are = subst (λ (ys : List (Incoming A)). AllZip IsFrameOf ys so_far.frames) (sym (append-nil xs)) so_far.are;
        each = so_far.each;
        pending = one.1;
        whole = so_far.whole ∙ ap (stream_of so_far.frames) one.2;
      }
  reads_on bytes piece rest xs (Some x) begun next so_far step =
      let one = step so_far.left so_far.pending in
      let f : Frame = one.0 in
      let fs : List Frame = so_far.frames in record {
        frames = fs ++ f ∷ [];
        left = [];
        are = zip_more IsFrameOf xs fs x f so_far.are one.2;
        each = all_more IsFrame fs f so_far.each one.1;
        pending = one.3;
        whole =
            so_far.whole ∙ ap (stream_of fs) one.4 ∙ sym (append_assoc (flat_map frame_bytes fs) (frame_bytes f) rest)
            ∙ ap (λ (bs : List ℕ). bs ++ rest) (ap (λ (bs : List ℕ). flat_map frame_bytes fs ++ bs) (sym (append-nil (frame_bytes f))) ∙ sym (flat_map-append frame_bytes fs (f ∷ [])));
      }

  -- all of them are
  pub reads_end : (bytes : List ℕ) (xs : List (Incoming A)) (begun : Begun A) → AreReadTo [] bytes xs begun → AreRead bytes xs begun
  reads_end bytes xs begun so_far = record {
    frames = so_far.frames;
    left = so_far.left;
    are = so_far.are;
    each = so_far.each;
    pending = so_far.pending;
    whole = so_far.whole ∙ ap (stream_of so_far.frames) (append-nil so_far.left);
  }
