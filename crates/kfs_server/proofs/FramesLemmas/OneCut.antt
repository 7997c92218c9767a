-- A stream has one cut into frames.
use Rattle.std.proofs.Common.{◌≡◌, ℕ, ◌+◌, ◌^◌, ◌<◌, List, [], ◌∷◌, ◌++◌, length, take, drop, refl, sym, ap, ◌∙◌, append_assoc, length-append, arith}
use Rattle.std.specs.List.{flat_map, AllByRecursion}
use Rattle.std.proofs.lemmas.List.{take_at, drop_at}
use Rattle.kfs_model.specs.Spelling.{number32}
use Rattle.kfs_model.proofs.Fields.{number32_field, some_is}
use Rattle.kfs_model.proofs.Reading.{number32_read}
use Rattle.kfs_server.specs.Frames.Frame.{Frame, IsFrame, IsPartial, frame_bytes, head_bytes, stream_of}
use Rattle.kfs_server.specs.Frames.Begun.{IsBegun, IsHead, IsPending}
use Rattle.kfs_server.specs.declared.frames.begun.Begun.{Begun}
use Rattle.kfs_server.specs.declared.frames.begun.Begun.TheVariants.{InHead, InBody}

four : (n : ℕ) → length (number32 n) ≡ 4
unfolding number32
four n = refl

pub head_long : (len number from : ℕ) → length (head_bytes len number from) ≡ 12
head_long len number from =
    omega (arith, length-append (number32 len ++ number32 number) (number32 from), length-append (number32 len) (number32 number), four len, four number, four from)

-- numbers at the front are one, and so is what stands behind them
same_number : (m n : ℕ) (xs ys : List ℕ) → m < 2 ^ 32 → n < 2 ^ 32 → number32 m ++ xs ≡ number32 n ++ ys → (m ≡ n) × (xs ≡ ys)
same_number m n xs ys fm fn e =
    let pair = some_is (m, xs) (n, ys) (sym (number32_field.again m xs fm) ∙ ap number32_read e ∙ number32_field.again n ys fn) in
    (ap (λ (p : ℕ × List ℕ). p.0) pair, ap (λ (p : ℕ × List ℕ). p.1) pair)

grouped : (len number from : ℕ) (xs : List ℕ) → head_bytes len number from ++ xs ≡ number32 len ++ (number32 number ++ (number32 from ++ xs))
grouped len number from xs =
    append_assoc (number32 len ++ number32 number) (number32 from) xs ∙ append_assoc (number32 len) (number32 number) (number32 from ++ xs)

pub record SameHead (len number from l n f : ℕ) (xs ys : List ℕ) : Type 0 where
  pub len_same : len ≡ l
  pub number_same : number ≡ n
  pub from_same : from ≡ f
  pub behind : xs ≡ ys

-- so are heads
same_head : (len number from l n f : ℕ) (xs ys : List ℕ) → IsHead len number from → IsHead l n f → head_bytes len number from ++ xs ≡ head_bytes l n f ++ ys → SameHead len number from l n f xs ys
same_head len number from l n f xs ys a b e =
    let one = same_number len l _ _ a.len_fits b.len_fits (sym (grouped len number from xs) ∙ e ∙ grouped l n f ys) in
    let two = same_number number n _ _ a.number_fits b.number_fits one.1 in
    let three = same_number from f xs ys a.from_fits b.from_fits two.1 in
    record { len_same = one.0; number_same = two.0; from_same = three.0; behind = three.1 }

abbrev head_of : (f : Frame) → IsFrame f → IsHead (length f.body) f.number f.from
head_of f is = record { len_fits = is.len; number_fits = is.number; from_fits = is.from }

-- and frames
pub same_frame : (f g : Frame) (xs ys : List ℕ) → IsFrame f → IsFrame g → frame_bytes f ++ xs ≡ frame_bytes g ++ ys → (f ≡ g) × (xs ≡ ys)
same_frame f g xs ys a b e =
    let h = same_head (length f.body) f.number f.from (length g.body) g.number g.from (f.body ++ xs) (g.body ++ ys) (head_of f a) (head_of g b)
    (sym (append_assoc (head_bytes (length f.body) f.number f.from) f.body xs) ∙ e ∙ append_assoc (head_bytes (length g.body) g.number g.from) g.body ys) in
    let body : f.body ≡ g.body = sym (take_at f.body xs (length g.body) h.len_same) ∙ ap (λ (bs : List ℕ). take (length g.body) bs) h.behind ∙ take_at g.body ys (length g.body) refl in
    let rest : xs ≡ ys = sym (drop_at f.body xs (length g.body) h.len_same) ∙ ap (λ (bs : List ℕ). drop (length g.body) bs) h.behind ∙ drop_at g.body ys (length g.body) refl in
    (λ i. record { number = h.number_same i; from = h.from_same i; body = body i }, rest)

frame_long : (f : Frame) (more : List ℕ) → length (frame_bytes f ++ more) ≡ (12 + length f.body) + length more
frame_long f more =
    length-append (frame_bytes f) more
    ∙ ap (λ (n : ℕ). n + length more) (length-append (head_bytes (length f.body) f.number f.from) f.body ∙ ap (λ (n : ℕ). n + length f.body) (head_long (length f.body) f.number f.from))

-- no byte is less than a whole frame
pub nothing_partial : IsPartial []
nothing_partial f more fits e =
    let long : 0 ≡ (12 + length f.body) + length more = ap length e ∙ frame_long f more in
    absurd (omega (arith, long))

front : (f : Frame) (fs : List Frame) (r : List ℕ) → stream_of (f ∷ fs) r ≡ frame_bytes f ++ stream_of fs r
front f fs r = append_assoc (frame_bytes f) (flat_map frame_bytes fs) r

pub one_cut : (fs gs : List Frame) (r q : List ℕ) → AllByRecursion IsFrame fs → AllByRecursion IsFrame gs → IsPartial r → IsPartial q → stream_of fs r ≡ stream_of gs q → (fs ≡ gs) × (r ≡ q)
one_cut [] [] r q a b pr pq e = (refl, e)
one_cut [] (g ∷ gs) r q a b pr pq e = absurd (pr g (stream_of gs q) b.0 (e ∙ front g gs q))
one_cut (f ∷ fs) [] r q a b pr pq e = absurd (pq f (stream_of fs r) a.0 (sym e ∙ front f fs r))
one_cut (f ∷ fs) (g ∷ gs) r q a b pr pq e =
    let one = same_frame f g (stream_of fs r) (stream_of gs q) a.0 b.0 (sym (front f fs r) ∙ e ∙ front g gs q) in
    let others = one_cut fs gs r q a.1 b.1 pr pq one.1 in
    (λ i. one.0 i ∷ others.0 i, others.1)

module _ {A : Type 0} where
  -- what has come of a frame that isn't whole is less than a whole one
  pub pending_partial : (begun : Begun A) (came : List ℕ) → IsBegun begun → IsPending begun came → IsPartial came
  pending_partial (InHead bytes) came few is f more fits e =
      let long : length came ≡ (12 + length f.body) + length more = ap length e ∙ frame_long f more in
      let short : length came ≡ length bytes.items = ap length is in
      absurd (omega (arith, few, long, short))
  pending_partial (InBody head passed body) came few is f more fits e =
      let h = same_head head.len head.number head.from (length f.body) f.number f.from is.part (f.body ++ more) few.0 (head_of f fits)
      (sym is.parts ∙ e ∙ append_assoc (head_bytes (length f.body) f.number f.from) f.body more) in
      let long : length is.part ≡ length f.body + length more = ap length h.behind ∙ length-append f.body more in
      absurd (omega (arith, long, is.passes, few.1, h.len_same))
