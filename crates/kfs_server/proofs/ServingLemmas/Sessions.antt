-- Groups of frames that are answered one after another.
use Rattle.std.proofs.Common.{◌≡◌, inl, inr, ℕ, ◌≤◌, List, [], ◌∷◌, ◌++◌, map, Err, refl, sym, ap, subst, ◌∙◌, append_assoc, append-nil}
use Rattle.std.specs.List.{AllByRecursion, AllZip, flat_map}
use Rattle.std.proofs.lemmas.Grind.{flat_map-append}
use Rattle.kfs_desk.specs.Machine.{Desk}
use Rattle.kfs_journal.specs.Disk.{Files, LeavesOnly}
use Rattle.kfs_journal.proofs.Moments.{and_then, weaker}
use Rattle.kfs_kept.specs.Standing.{StandFor}
use Rattle.kfs_kept.specs.declared.kept.Kept.{Kept}
use Rattle.kfs_kept.specs.Keeping.{Stands}
use Rattle.kfs_server.specs.Frames.Begun.{AreRead, IsBegun, IsFrameOf, IsPending}
use Rattle.kfs_server.specs.Frames.Frame.{Frame, IsFrame, Splits, frame_bytes, stream_of}
use Rattle.kfs_server.proofs.FramesLemmas.OneCut.{nothing_partial, pending_partial}
use Rattle.kfs_server.proofs.ServingLemmas.Crashes.{all_served, left_stand, none_served, unmoved}
use Rattle.kfs_server.specs.declared.frames.begun.Begun.{Begun}
use Rattle.kfs_call.specs.declared.frame.Incoming.{Incoming}
use Rattle.kfs_server.specs.Replies.Reply.{Reply, reply_bytes, text_of}
use Rattle.kfs_server.specs.Replies.Views.{numbered_bytes, reply_shown}
use Rattle.kfs_server.specs.Serving.Group.{AreServed}
use Rattle.kfs_server.specs.Serving.Machine.{Serves}
use Rattle.kfs_server.specs.Serving.Standing.{StandForSome}
use Rattle.kfs_server.specs.Serving.Transcript.{IsAnsweredAll, IsAnsweredSome, IsCutReply, IsServed, IsStopped, ServedAll, ServedSome}
use Rattle.kfs_server.specs.declared.serving.fault.ServeFault.{ServeFault}
use Rattle.kfs_server.specs.declared.serving.fault.ServeFault.TheVariants as faults
use Rattle.kfs_server.specs.declared.replies.reply.NumberedReply.{NumberedReply}

-- the bytes of numbered replies are the text of their frames
pub text_is : (frames : List Frame) (replies : List NumberedReply) → AllZip (λ (f : Frame) (sent : NumberedReply). sent.number ≡ f.number) frames replies
    → flat_map numbered_bytes replies ≡ text_of frames (map (λ (sent : NumberedReply). reply_shown sent.reply) replies)
text_is [] [] numbers = refl
text_is [] (sent ∷ replies) numbers = absurd numbers
text_is (f ∷ frames) [] numbers = absurd numbers
text_is (f ∷ frames) (sent ∷ replies) numbers =
    ap (λ (n : ℕ). reply_bytes n (reply_shown sent.reply) ++ flat_map numbered_bytes replies) numbers.0
    ∙ ap (λ (bs : List ℕ). reply_bytes f.number (reply_shown sent.reply) ++ bs) (text_is frames replies numbers.1)

-- what is all of two lists
all_append : {X : Type 0} (P : X → Type 0) (xs ys : List X) → AllByRecursion P xs → AllByRecursion P ys → AllByRecursion P (xs ++ ys)
all_append P [] ys a b = b
all_append P (x ∷ xs) ys a b = (a.0, all_append P xs ys a.1 b)

-- a stream that goes on
stream_on : (input bytes : List ℕ) (fs gs : List Frame) (left rest : List ℕ) → input ≡ stream_of fs left → left ++ bytes ≡ stream_of gs rest → input ++ bytes ≡ stream_of (fs ++ gs) rest
stream_on input bytes fs gs left rest one two =
    ap (λ (bs : List ℕ). bs ++ bytes) one ∙ append_assoc (flat_map frame_bytes fs) left bytes ∙ ap (λ (bs : List ℕ). flat_map frame_bytes fs ++ bs) two
    ∙ sym (append_assoc (flat_map frame_bytes fs) (flat_map frame_bytes gs) rest) ∙ ap (λ (bs : List ℕ). bs ++ rest) (sym (flat_map-append frame_bytes fs gs))

-- an empty group has no frames
pub nothing_of : {A : Type 0} (group : List (Incoming A)) (frames : List Frame) → group ≡ [] → AllZip IsFrameOf group frames → frames ≡ []
nothing_of [] [] none are = refl
nothing_of [] (f ∷ frames) none are = absurd are
nothing_of (x ∷ group) frames none are = absurd cc

-- frames served behind others
pub serves_more : (desk mid last : Desk) (fs gs : List Frame) (xs ys : List Reply) → Serves desk fs xs mid → Serves mid gs ys last → Serves desk (fs ++ gs) (xs ++ ys) last
serves_more desk mid last [] gs [] ys first second = subst (λ (d : Desk). Serves d gs ys last) first second
serves_more desk mid last [] gs (x ∷ xs) ys first second = absurd first
serves_more desk mid last (f ∷ fs) gs [] ys first second = absurd first
serves_more desk mid last (f ∷ fs) gs (x ∷ xs) ys first second = (first.0, first.1, serves_more first.0 mid last fs gs xs ys first.2 second)

-- and so is their text
pub text_more : (desk mid : Desk) (fs gs : List Frame) (xs ys : List Reply) → Serves desk fs xs mid → text_of (fs ++ gs) (xs ++ ys) ≡ text_of fs xs ++ text_of gs ys
text_more desk mid [] gs [] ys first = refl
text_more desk mid [] gs (x ∷ xs) ys first = absurd first
text_more desk mid (f ∷ fs) gs [] ys first = absurd first
text_more desk mid (f ∷ fs) gs (x ∷ xs) ys first =
    ap (λ (bs : List ℕ). reply_bytes f.number x ++ bs) (text_more first.0 mid fs gs xs ys first.2) ∙ sym (append_assoc (reply_bytes f.number x) (text_of fs xs) (text_of gs ys))

-- some of the first frames are some of all
pub some_more : (desk : Desk) (fs gs : List Frame) (c : Files) → StandForSome desk fs c → StandForSome desk (fs ++ gs) c
some_more desk fs gs c some = record {
  done = some.done;
  later = some.later ++ gs;
  parts = ap (λ (xs : List Frame). xs ++ gs) some.parts ∙ append_assoc some.done some.later gs;
  replies = some.replies;
  last = some.last;
  served = some.served;
  stand = some.stand;
}

-- so are all of the first ones, and some of the others
some_behind : (desk mid : Desk) (fs gs : List Frame) (xs : List Reply) (c : Files) → Serves desk fs xs mid → StandForSome mid gs c → StandForSome desk (fs ++ gs) c
some_behind desk mid fs gs xs c first some = record {
  done = fs ++ some.done;
  later = some.later;
  parts = ap (λ (ys : List Frame). fs ++ ys) some.parts ∙ sym (append_assoc fs some.done some.later);
  replies = xs ++ some.replies;
  last = some.last;
  served = serves_more desk mid some.last fs some.done xs some.replies first some.served;
  stand = some.stand;
}

module _ {A D : Type 0} (may_leave : D → Files → Type 0) (moment : D → ℕ) (left_since : D → ℕ → Files → Type 0) where
  both_moments : (old mid new : Kept A D) (fs gs : List Frame) (xs : List Reply) → Serves old.desk fs xs mid.desk → LeavesOnly moment left_since old.disk mid.disk (StandForSome old.desk fs)
      → LeavesOnly moment left_since mid.disk new.disk (StandForSome mid.desk gs) → LeavesOnly moment left_since old.disk new.disk (StandForSome old.desk (fs ++ gs))
  both_moments old mid new fs gs xs served first second =
      and_then moment left_since old.disk mid.disk new.disk (StandForSome old.desk (fs ++ gs))
      (weaker moment left_since old.disk mid.disk (StandForSome old.desk fs) (StandForSome old.desk (fs ++ gs)) (some_more old.desk fs gs) first)
      (weaker moment left_since mid.disk new.disk (StandForSome mid.desk gs) (StandForSome old.desk (fs ++ gs)) (λ c some. some_behind old.desk mid.desk fs gs xs c served some) second)

  -- one group answered after others
  pub all_then_all : (old mid new : Kept A D) (fs gs : List Frame) (s t : List ℕ) → ServedAll may_leave moment left_since old mid fs s → ServedAll may_leave moment left_since mid new gs t → ServedAll may_leave moment left_since old new (fs ++ gs) (s ++ t)
  all_then_all old mid new fs gs s t first second = record {
    replies = first.replies ++ second.replies;
    served = serves_more old.desk mid.desk new.desk fs gs first.replies second.replies first.served second.served;
    said = ap (λ (bs : List ℕ). bs ++ t) first.said ∙ ap (λ (bs : List ℕ). text_of fs first.replies ++ bs) second.said ∙ sym (text_more old.desk mid.desk fs gs first.replies second.replies first.served);
    acknowledged = second.acknowledged;
    any_moment = both_moments old mid new fs gs first.replies first.served first.any_moment second.any_moment;
  }

  -- and one that isn't answered whole
  pub all_then_some : (old mid new : Kept A D) (fs gs : List Frame) (s t : List ℕ) → ServedAll may_leave moment left_since old mid fs s → ServedSome may_leave moment left_since mid new gs t → ServedSome may_leave moment left_since old new (fs ++ gs) (s ++ t)
  all_then_some old mid new fs gs s t first second = record {
    answered = fs ++ second.answered;
    later = second.later;
    parts = ap (λ (xs : List Frame). fs ++ xs) second.parts ∙ sym (append_assoc fs second.answered second.later);
    replies = first.replies ++ second.replies;
    reached = second.reached;
    served = serves_more old.desk mid.desk second.reached fs second.answered first.replies second.replies first.served second.served;
    unsaid = second.unsaid;
    said =
        text_more old.desk mid.desk fs second.answered first.replies second.replies first.served ∙ ap (λ (bs : List ℕ). bs ++ text_of second.answered second.replies) (sym first.said) ∙ ap (λ (bs : List ℕ). s ++ bs) second.said ∙ sym (append_assoc s t second.unsaid);
    acknowledged = second.acknowledged;
    any_moment = both_moments old mid new fs gs first.replies first.served first.any_moment second.any_moment;
  }

  -- all are some
  pub all_are_some : (old new : Kept A D) (fs : List Frame) (s : List ℕ) → ServedAll may_leave moment left_since old new fs s → ServedSome may_leave moment left_since old new fs s
  all_are_some old new fs s all = record {
    answered = fs;
    later = [];
    parts = sym (append-nil fs);
    replies = all.replies;
    reached = new.desk;
    served = all.served;
    unsaid = [];
    said = sym all.said ∙ sym (append-nil s);
    acknowledged = λ c left. record { done = []; later = []; parts = refl; replies = []; last = new.desk; served = refl; stand = all.acknowledged c left };
    any_moment = all.any_moment;
  }

  -- nothing was read
  pub nothing_served : (seen : D → Files) (kept : Kept A D) → ((c : Files) → left_since kept.disk (moment kept.disk) c → may_leave kept.disk c) → Stands seen may_leave kept → ServedAll may_leave moment left_since kept kept [] []
  nothing_served seen kept now stands = record {
    replies = [];
    served = refl;
    said = refl;
    acknowledged = left_stand (seen kept.disk) (may_leave kept.disk) kept.desk.state stands.settled.durable stands.stand;
    any_moment = unmoved moment left_since (may_leave kept.disk) kept.disk (seen kept.disk) kept.desk [] now stands.settled.durable stands.stand;
  }

  pub no_frames : (seen : D → Files) (kept : Kept A D) (frames : List Frame) → frames ≡ [] → ((c : Files) → left_since kept.disk (moment kept.disk) c → may_leave kept.disk c) → Stands seen may_leave kept
      → ServedAll may_leave moment left_since kept kept frames []
  no_frames seen kept frames none now stands = subst (λ (fs : List Frame). ServedAll may_leave moment left_since kept kept fs []) (sym none) (nothing_served seen kept now stands)

  -- a group is answered and kept, with these replies
  pub group_served : (old new : Kept A D) (frames : List Frame) (replies : List NumberedReply) (text : List ℕ) → AreServed old.desk frames replies new.desk → ((c : Files) → may_leave new.disk c → StandFor c new.desk.state)
      → LeavesOnly moment left_since old.disk new.disk (StandForSome old.desk frames) → text ≡ flat_map numbered_bytes replies → ServedAll may_leave moment left_since old new frames text
  group_served old new frames replies text are kept run is = record {
    replies = map (λ (sent : NumberedReply). reply_shown sent.reply) replies;
    served = are.served;
    said = is ∙ text_is frames replies are.numbers;
    acknowledged = kept;
    any_moment = run;
  }

  -- the same, where only the first of the replies' bytes are written
  pub partly_said : (old new : Kept A D) (frames : List Frame) (text unsaid : List ℕ) → ServedAll may_leave moment left_since old new frames (text ++ unsaid) → ServedSome may_leave moment left_since old new frames text
  partly_said old new frames text unsaid all = record {
    answered = frames;
    later = [];
    parts = sym (append-nil frames);
    replies = all.replies;
    reached = new.desk;
    served = all.served;
    unsaid = unsaid;
    said = sym all.said;
    acknowledged = λ c left. none_served new.desk [] c (all.acknowledged c left);
    any_moment = all.any_moment;
  }

  -- the journal is begun anew behind a group
  renewed_moments : (old mid new : Kept A D) (frames : List Frame) (replies : List Reply) → Serves old.desk frames replies mid.desk → LeavesOnly moment left_since old.disk mid.disk (StandForSome old.desk frames)
      → LeavesOnly moment left_since mid.disk new.disk (λ c. StandFor c mid.desk.state) → LeavesOnly moment left_since old.disk new.disk (StandForSome old.desk frames)
  renewed_moments old mid new frames replies served first second =
      and_then moment left_since old.disk mid.disk new.disk (StandForSome old.desk frames) first
      (weaker moment left_since mid.disk new.disk (λ c. StandFor c mid.desk.state) (StandForSome old.desk frames) (λ c stand. all_served old.desk mid.desk frames replies c served stand) second)

  pub renewed : (old mid new : Kept A D) (frames : List Frame) (text : List ℕ) → ServedAll may_leave moment left_since old mid frames text → new.desk ≡ mid.desk
      → ((c : Files) → moment mid.disk ≤ moment new.disk → may_leave new.disk c → left_since new.disk (moment mid.disk) c)
      → LeavesOnly moment left_since mid.disk new.disk (λ c. StandFor c mid.desk.state) → ServedAll may_leave moment left_since old new frames text
  renewed old mid new frames text all same counts run = record {
    replies = all.replies;
    served = subst (λ (d : Desk). Serves old.desk frames all.replies d) (sym same) all.served;
    said = all.said;
    acknowledged = λ c left. subst (λ (d : Desk). StandFor c d.state) (sym same) (run.each c (counts c run.later left));
    any_moment = renewed_moments old mid new frames all.replies all.served all.any_moment run;
  }

  -- the same, where the disk has failed meanwhile
  pub renewal_failed : (old mid new : Kept A D) (frames : List Frame) (text : List ℕ) → ServedAll may_leave moment left_since old mid frames text
      → ((c : Files) → moment mid.disk ≤ moment new.disk → may_leave new.disk c → left_since new.disk (moment mid.disk) c)
      → LeavesOnly moment left_since mid.disk new.disk (λ c. StandFor c mid.desk.state) → ServedSome may_leave moment left_since old new frames text
  renewal_failed old mid new frames text all counts run = record {
    answered = frames;
    later = [];
    parts = sym (append-nil frames);
    replies = all.replies;
    reached = mid.desk;
    served = all.served;
    unsaid = [];
    said = sym all.said ∙ sym (append-nil text);
    acknowledged = λ c left. none_served mid.desk [] c (run.each c (counts c run.later left));
    any_moment = renewed_moments old mid new frames all.replies all.served all.any_moment run;
  }

  -- a group isn't answered
  pub group_failed : (old new : Kept A D) (frames : List Frame) → ((c : Files) → moment old.disk ≤ moment new.disk → may_leave new.disk c → left_since new.disk (moment old.disk) c)
      → LeavesOnly moment left_since old.disk new.disk (StandForSome old.desk frames) → ServedSome may_leave moment left_since old new frames []
  group_failed old new frames counts run = record {
    answered = [];
    later = frames;
    parts = refl;
    replies = [];
    reached = old.desk;
    served = refl;
    unsaid = [];
    said = refl;
    acknowledged = λ c left. run.each c (counts c run.later left);
    any_moment = run;
  }

  -- the input so far is frames that are answered, and what has come of the next one
  pub record IsAnsweredTo {B : Type 0} (old now : Kept A D) (begun : Begun B) (input text : List ℕ) : Type 0 where
    pub frames : List Frame
    pub left : List ℕ
    pub whole : input ≡ stream_of frames left
    pub each : AllByRecursion IsFrame frames
    pub pending : IsPending begun left
    pub served : ServedAll may_leave moment left_since old now frames text

  cut_here : {B : Type 0} (old now : Kept A D) (begun : Begun B) (input text : List ℕ) → IsBegun begun → (so_far : IsAnsweredTo old now begun input text) → Splits input so_far.frames so_far.left
  cut_here old now begun input text is so_far = record { whole = so_far.whole; each = so_far.each; partial = pending_partial begun so_far.left is so_far.pending }

  -- before the first read
  pub answers_begin : {B : Type 0} (kept : Kept A D) (begun : Begun B) → IsPending begun [] → ServedAll may_leave moment left_since kept kept [] [] → IsAnsweredTo kept kept begun [] []
  answers_begin kept begun none served = record { frames = []; left = []; whole = refl; each = tt; pending = none; served = served }

  -- further bytes are read, and their frames are answered
  pub answers_on : {B : Type 0} (old mid new : Kept A D) (begun next : Begun B) (input text bytes more : List ℕ) (group : List (Incoming B)) → (so_far : IsAnsweredTo old mid begun input text)
      → (step : AreRead (so_far.left ++ bytes) group next) → ServedAll may_leave moment left_since mid new step.frames more → IsAnsweredTo old new next (input ++ bytes) (text ++ more)
  answers_on old mid new begun next input text bytes more group so_far step served =
      record {
        frames = so_far.frames ++ step.frames;
        left = step.left;
        whole = stream_on input bytes so_far.frames step.frames so_far.left step.left so_far.whole step.whole;
        each = all_append IsFrame so_far.frames step.frames so_far.each step.each;
        pending = step.pending;
        served = all_then_all old mid new so_far.frames step.frames text more so_far.served served;
      }

  -- a read isn't answered whole
  stopped_so : (fault : ServeFault) (old mid new : Kept A D) (fs gs : List Frame) (rest s t : List ℕ) → ServedAll may_leave moment left_since old mid fs s → IsServed may_leave moment left_since (Err fault) mid new gs t
      → IsStopped may_leave moment left_since fault old new (fs ++ gs) rest (s ++ t)
  stopped_so faults.ReadFault old mid new fs gs rest s t first second = absurd second
  stopped_so faults.WriteFault old mid new fs gs rest s t first second = inl (all_then_some old mid new fs gs s t first second)
  stopped_so faults.OutOfMemory old mid new fs gs rest s t first second = absurd second
  stopped_so (faults.Group fault) old mid new fs gs rest s t first second = all_then_some old mid new fs gs s t first second

  pub answers_stop : {B : Type 0} (fault : ServeFault) (old mid new : Kept A D) (begun next : Begun B) (input text bytes more : List ℕ) (group : List (Incoming B)) → IsBegun next → (so_far : IsAnsweredTo old mid begun input text)
      → (step : AreRead (so_far.left ++ bytes) group next) → IsServed may_leave moment left_since (Err fault) mid new step.frames more → IsAnsweredSome may_leave moment left_since fault old new (input ++ bytes) (text ++ more)
  answers_stop fault old mid new begun next input text bytes more group is so_far step served =
      record {
        frames = so_far.frames ++ step.frames;
        rest = step.left;
        splits = record {
          whole = stream_on input bytes so_far.frames step.frames so_far.left step.left so_far.whole step.whole;
          each = all_append IsFrame so_far.frames step.frames so_far.each step.each;
          partial = pending_partial next step.left is step.pending;
        };
        stopped = stopped_so fault old mid new so_far.frames step.frames step.left text more so_far.served served;
      }

  -- the input can't be read
  pub answers_break : {B : Type 0} (old now : Kept A D) (begun : Begun B) (input text : List ℕ) → IsBegun begun → IsAnsweredTo old now begun input text → IsAnsweredSome may_leave moment left_since faults.ReadFault old now input text
  answers_break old now begun input text is so_far =
      record { frames = so_far.frames; rest = so_far.left; splits = cut_here old now begun input text is so_far; stopped = so_far.served }

  -- memory for reading was refused
  pub nothing_answered : (kept : Kept A D) → ServedAll may_leave moment left_since kept kept [] [] → IsAnsweredSome may_leave moment left_since faults.OutOfMemory kept kept [] []
  nothing_answered kept served = record { frames = []; rest = []; splits = record { whole = refl; each = tt; partial = nothing_partial }; stopped = (refl, refl, served) }

  -- the input has ended
  pub answers_end : {B : Type 0} (old now : Kept A D) (begun : Begun B) (input text tail : List ℕ) → IsBegun begun → (so_far : IsAnsweredTo old now begun input text) → IsCutReply so_far.left tail
      → IsAnsweredAll may_leave moment left_since old now input (text ++ tail)
  answers_end old now begun input text tail is so_far said = record {
    frames = so_far.frames;
    rest = so_far.left;
    splits = cut_here old now begun input text is so_far;
    said = text;
    tail = tail;
    served = so_far.served;
    cut = said;
    parts = refl;
  }

  -- and what is said then isn't written whole
  pub answers_cut : {B : Type 0} (old now : Kept A D) (begun : Begun B) (input text tail unsaid : List ℕ) → IsBegun begun → (so_far : IsAnsweredTo old now begun input text) → IsCutReply so_far.left (tail ++ unsaid)
      → IsAnsweredSome may_leave moment left_since faults.WriteFault old now input (text ++ tail)
  answers_cut old now begun input text tail unsaid is so_far said = record {
    frames = so_far.frames;
    rest = so_far.left;
    splits = cut_here old now begun input text is so_far;
    stopped = inr (record { said = text; tail = tail; unsaid = unsaid; served = so_far.served; cut = said; parts = refl });
  }
