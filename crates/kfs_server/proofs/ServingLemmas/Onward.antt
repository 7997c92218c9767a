-- Frames of one read that are answered part by part.
use Rattle.std.proofs.Common.{◌≡◌, ℕ, zero, suc, List, [], ◌∷◌, ◌++◌, take, drop, Option, Err, refl, sym, ap, subst, ◌∙◌, append_assoc, append-nil}
use Rattle.std.specs.List.{AllZip}
use Rattle.std.proofs.KnownBytes.{Appends-nil, Appends-trans}
use Rattle.kfs_journal.specs.Disk.{Files}
use Rattle.kfs_journal.proofs.Moments.{weaker}
use Rattle.kfs_kept.specs.declared.kept.Kept.{Kept}
use Rattle.kfs_program_text.specs.Streams.{Writes}
use Rattle.kfs_server.specs.Frames.Begun.{IsFrameOf}
use Rattle.kfs_server.specs.Frames.Frame.{Frame}
use Rattle.kfs_call.specs.declared.frame.Incoming.{Incoming}
use Rattle.kfs_server.specs.Serving.Onward.{IsServedOn}
use Rattle.kfs_server.specs.Serving.Standing.{StandForSome}
use Rattle.kfs_server.specs.Serving.Transcript.{IsServed, ServedAll, ServedSome}
use Rattle.kfs_server.specs.declared.serving.fault.ServeFault.{ServeFault}
use Rattle.kfs_server.specs.declared.serving.fault.ServeFault.TheVariants as faults
use Rattle.kfs_server.proofs.ServingLemmas.Sessions.{all_then_all, all_then_some, nothing_of, some_more}

-- what is of both lists is of their parts
pub zip_first : {X Y : Type 0} (R : X → Y → Type 0) (k : ℕ) (xs : List X) (ys : List Y) → AllZip R xs ys → AllZip R (take k xs) (take k ys)
zip_first R zero xs ys all = tt
zip_first R (suc k) [] [] all = tt
zip_first R (suc k) [] (y ∷ ys) all = absurd all
zip_first R (suc k) (x ∷ xs) [] all = absurd all
zip_first R (suc k) (x ∷ xs) (y ∷ ys) all = (all.0, zip_first R k xs ys all.1)

pub zip_later : {X Y : Type 0} (R : X → Y → Type 0) (k : ℕ) (xs : List X) (ys : List Y) → AllZip R xs ys → AllZip R (drop k xs) (drop k ys)
zip_later R zero xs ys all = all
zip_later R (suc k) [] [] all = tt
zip_later R (suc k) [] (y ∷ ys) all = absurd all
zip_later R (suc k) (x ∷ xs) [] all = absurd all
zip_later R (suc k) (x ∷ xs) (y ∷ ys) all = zip_later R k xs ys all.1

pub both_parts : {X : Type 0} (k : ℕ) (xs : List X) → xs ≡ take k xs ++ drop k xs
both_parts zero xs = refl
both_parts (suc k) [] = refl
both_parts {X} (suc k) (x ∷ xs) = ap (λ (ys : List X). x ∷ ys) (both_parts k xs)

module _ {A D : Type 0} (may_leave : D → Files → Type 0) (moment : D → ℕ) (left_since : D → ℕ → Files → Type 0) where
  -- some of these are some of more
  pub some_of_more : (old new : Kept A D) (fs gs : List Frame) (text : List ℕ) → ServedSome may_leave moment left_since old new fs text → ServedSome may_leave moment left_since old new (fs ++ gs) text
  some_of_more old new fs gs text some = record {
    answered = some.answered;
    later = some.later ++ gs;
    parts = ap (λ (xs : List Frame). xs ++ gs) some.parts ∙ append_assoc some.answered some.later gs;
    replies = some.replies;
    reached = some.reached;
    served = some.served;
    unsaid = some.unsaid;
    said = some.said;
    acknowledged = λ c left. some_more some.reached some.later gs c (some.acknowledged c left);
    any_moment = weaker moment left_since old.disk new.disk (StandForSome old.desk fs) (StandForSome old.desk (fs ++ gs)) (some_more old.desk fs gs) some.any_moment;
  }

  -- the first of them aren't answered whole
  stopped_early : (fault : ServeFault) (old new : Kept A D) (fs gs : List Frame) (text : List ℕ) → IsServed may_leave moment left_since (Err fault) old new fs text → IsServed may_leave moment left_since (Err fault) old new (fs ++ gs) text
  stopped_early faults.ReadFault old new fs gs text some = absurd some
  stopped_early faults.WriteFault old new fs gs text some = some_of_more old new fs gs text some
  stopped_early faults.OutOfMemory old new fs gs text some = absurd some
  stopped_early (faults.Group fault) old new fs gs text some = some_of_more old new fs gs text some

  -- or the others aren't
  stopped_later : (fault : ServeFault) (old mid new : Kept A D) (fs gs : List Frame) (s t : List ℕ) → ServedAll may_leave moment left_since old mid fs s → IsServed may_leave moment left_since (Err fault) mid new gs t
      → IsServed may_leave moment left_since (Err fault) old new (fs ++ gs) (s ++ t)
  stopped_later faults.ReadFault old mid new fs gs s t first second = absurd second
  stopped_later faults.WriteFault old mid new fs gs s t first second = all_then_some may_leave moment left_since old mid new fs gs s t first second
  stopped_later faults.OutOfMemory old mid new fs gs s t first second = absurd second
  stopped_later (faults.Group fault) old mid new fs gs s t first second = all_then_some may_leave moment left_since old mid new fs gs s t first second

module _ {A B D : Type 0} (may_leave : D → Files → Type 0) (moment : D → ℕ) (left_since : D → ℕ → Files → Type 0) where
  -- before the first
  pub served_none : (before : Option (List ℕ)) (kept : Kept A D) (frames : List Frame) (group : List (Incoming B)) → AllZip IsFrameOf group frames → ServedAll may_leave moment left_since kept kept [] []
      → IsServedOn may_leave moment left_since before before kept kept frames group
  served_none before kept frames group are served = record { done = []; later = frames; parts = refl; are = are; text = []; appends = Appends-nil before; served = served }

  -- some of the others, too
  pub served_on : (before between after : Option (List ℕ)) (old mid new : Kept A D) (frames : List Frame) (rest behind : List (Incoming B)) → (so_far : IsServedOn may_leave moment left_since before between old mid frames rest)
      → IsServedOn may_leave moment left_since between after mid new so_far.later behind → IsServedOn may_leave moment left_since before after old new frames behind
  served_on before between after old mid new frames rest behind so_far step = record {
    done = so_far.done ++ step.done;
    later = step.later;
    parts = so_far.parts ∙ ap (λ (fs : List Frame). so_far.done ++ fs) step.parts ∙ sym (append_assoc so_far.done step.done step.later);
    are = step.are;
    text = so_far.text ++ step.text;
    appends = Appends-trans _ _ _ _ _ so_far.appends step.appends;
    served = all_then_all may_leave moment left_since old mid new so_far.done step.done so_far.text step.text so_far.served step.served;
  }

  -- all of them
  pub served_out : (before after : Option (List ℕ)) (old new : Kept A D) (frames : List Frame) (rest : List (Incoming B)) → rest ≡ [] → IsServedOn may_leave moment left_since before after old new frames rest
      → Writes before after (ServedAll may_leave moment left_since old new frames)
  served_out before after old new frames rest none so_far =
      let all : frames ≡ so_far.done = so_far.parts ∙ ap (λ (fs : List Frame). so_far.done ++ fs) (nothing_of rest so_far.later none so_far.are) ∙ append-nil so_far.done in
      (so_far.text, so_far.appends, subst (λ (fs : List Frame). ServedAll may_leave moment left_since old new fs so_far.text) (sym all) so_far.served)

  -- a look-up stands first, and is answered
  pub look_first : (before after : Option (List ℕ)) (old new : Kept A D) (group others : List (Incoming B)) (first : Incoming B) (frames : List Frame) → group ≡ first ∷ others → AllZip IsFrameOf group frames
      → ((f : Frame) → IsFrameOf first f → Writes before after (ServedAll may_leave moment left_since old new (f ∷ []))) → IsServedOn may_leave moment left_since before after old new frames others
  look_first before after old new [] others first frames is are served = absurd cc
  look_first before after old new (x ∷ xs) others first [] is are served = absurd are
  look_first before after old new (x ∷ xs) others first (f ∷ frames) is are served =
      let both : AllZip IsFrameOf (first ∷ others) (f ∷ frames) = subst (λ (ys : List (Incoming B)). AllZip IsFrameOf ys (f ∷ frames)) is are in
      let wrote = served f both.0 in
      record { done = f ∷ []; later = frames; parts = refl; are = both.1; text = wrote.0; appends = wrote.1; served = wrote.2 }

  -- or it isn't
  pub look_stopped : (fault : ServeFault) (before after : Option (List ℕ)) (old new : Kept A D) (group others : List (Incoming B)) (first : Incoming B) (frames : List Frame) → group ≡ first ∷ others → AllZip IsFrameOf group frames
      → ((f : Frame) → IsFrameOf first f → Writes before after (IsServed may_leave moment left_since (Err fault) old new (f ∷ []))) → Writes before after (IsServed may_leave moment left_since (Err fault) old new frames)
  look_stopped fault before after old new [] others first frames is are served = absurd cc
  look_stopped fault before after old new (x ∷ xs) others first [] is are served = absurd are
  look_stopped fault before after old new (x ∷ xs) others first (f ∷ frames) is are served =
      let both : AllZip IsFrameOf (first ∷ others) (f ∷ frames) = subst (λ (ys : List (Incoming B)). AllZip IsFrameOf ys (f ∷ frames)) is are in
      let wrote = served f both.0 in
      (wrote.0, wrote.1, stopped_early may_leave moment left_since fault old new (f ∷ []) frames wrote.0 wrote.2)

  -- the first calls are answered
  pub run_first : (before after : Option (List ℕ)) (old new : Kept A D) (group run behind : List (Incoming B)) (count : ℕ) (frames : List Frame) → run ≡ take count group → behind ≡ drop count group → AllZip IsFrameOf group frames
      → ((fs : List Frame) → AllZip IsFrameOf run fs → Writes before after (ServedAll may_leave moment left_since old new fs)) → IsServedOn may_leave moment left_since before after old new frames behind
  run_first before after old new group run behind count frames is rest are served =
      let wrote = served (take count frames) (subst (λ (xs : List (Incoming B)). AllZip IsFrameOf xs (take count frames)) (sym is) (zip_first IsFrameOf count group frames are)) in
      record {
        done = take count frames;
        later = drop count frames;
        parts = both_parts count frames;
        are = subst (λ (xs : List (Incoming B)). AllZip IsFrameOf xs (drop count frames)) (sym rest) (zip_later IsFrameOf count group frames are);
        text = wrote.0;
        appends = wrote.1;
        served = wrote.2;
      }

  -- or they aren't
  pub run_stopped : (fault : ServeFault) (before after : Option (List ℕ)) (old new : Kept A D) (group run : List (Incoming B)) (count : ℕ) (frames : List Frame) → run ≡ take count group → AllZip IsFrameOf group frames
      → ((fs : List Frame) → AllZip IsFrameOf run fs → Writes before after (IsServed may_leave moment left_since (Err fault) old new fs)) → Writes before after (IsServed may_leave moment left_since (Err fault) old new frames)
  run_stopped fault before after old new group run count frames is are served =
      let wrote = served (take count frames) (subst (λ (xs : List (Incoming B)). AllZip IsFrameOf xs (take count frames)) (sym is) (zip_first IsFrameOf count group frames are)) in (
        wrote.0,
        wrote.1,
        subst (λ (fs : List Frame). IsServed may_leave moment left_since (Err fault) old new fs wrote.0) (sym (both_parts count frames)) (stopped_early may_leave moment left_since fault old new (take count frames) (drop count frames) wrote.0 wrote.2),
      )

  -- or not all of the others are
  pub stopped_on : (fault : ServeFault) (before between after : Option (List ℕ)) (old mid new : Kept A D) (frames : List Frame) (rest : List (Incoming B)) → (so_far : IsServedOn may_leave moment left_since before between old mid frames rest)
      → Writes between after (IsServed may_leave moment left_since (Err fault) mid new so_far.later) → Writes before after (IsServed may_leave moment left_since (Err fault) old new frames)
  stopped_on fault before between after old mid new frames rest so_far step = (
    so_far.text ++ step.0,
    Appends-trans _ _ _ _ _ so_far.appends step.1,
    subst (λ (fs : List Frame). IsServed may_leave moment left_since (Err fault) old new fs (so_far.text ++ step.0)) (sym so_far.parts) (stopped_later may_leave moment left_since fault old mid new so_far.done so_far.later so_far.text step.0 so_far.served step.2),
  )
