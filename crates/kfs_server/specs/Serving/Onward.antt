-- Frames of one read that are answered part by part.
use Rattle.std.specs.Prelude.{◌≡◌, ℕ, List, [], ◌∷◌, ◌++◌, Option, Result, Err, MatchResult}
use Rattle.std.specs.Borrow.{Bor}
use Rattle.std.specs.Io.KnownBytes.{Appends}
use Rattle.std.specs.List.{AllZip}
use Rattle.kfs_journal.specs.Disk.{Files}
use Rattle.kfs_kept.specs.declared.kept.Kept.{Kept}
use Rattle.kfs_program_text.specs.Streams.{Writes}
use Rattle.kfs_server.specs.Frames.Begun.{IsFrameOf}
use Rattle.kfs_server.specs.Frames.Frame.{Frame}
use Rattle.kfs_server.specs.Serving.Transcript.{IsServed, ServedAll}
use Rattle.kfs_call.specs.declared.frame.Incoming.{Incoming}
use Rattle.kfs_server.specs.declared.serving.fault.ServeFault.{ServeFault}

module _ {A B D : Type 0} (may_leave : D → Files → Type 0) (moment : D → ℕ) (left_since : D → ℕ → Files → Type 0) where
  -- the first of these frames are answered, and what is behind them isn't
  pub record IsServedOn (before after : Option (List ℕ)) (old new : Kept A D) (frames : List Frame) (behind : List (Incoming B)) : Type 0 where
    pub done : List Frame
    pub later : List Frame
    pub parts : frames ≡ done ++ later
    pub are : AllZip IsFrameOf behind later
    pub text : List ℕ
    pub appends : Appends before after text
    pub served : ServedAll may_leave moment left_since old new done text

  -- a text is written, and with it whichever frames these are have been answered, or the first of them where it stops
  abbrev pub AreAnswered : Result (Unit {0}) ServeFault → (before after : Option (List ℕ)) → (old new : Kept A D) → List (Incoming B) → Type 0
  AreAnswered result before after old new came = (frames : List Frame) → AllZip IsFrameOf came frames → Writes before after (IsServed may_leave moment left_since result old new frames)

  -- so it is of one frame
  abbrev pub IsAnswered : Result (Unit {0}) ServeFault → (before after : Option (List ℕ)) → (old new : Kept A D) → Incoming B → Type 0
  IsAnswered result before after old new came = (f : Frame) → IsFrameOf came f → Writes before after (IsServed may_leave moment left_since result old new (f ∷ []))

  -- the first of them have, up to those that come back; or it stops
  abbrev pub AreAnsweredTo : Result (Bor (List (Incoming B))) ServeFault → (before after : Option (List ℕ)) → (old new : Kept A D) → List (Incoming B) → Type 0
  AreAnsweredTo result before after old new came =
      (frames : List Frame) → AllZip IsFrameOf came frames
      → MatchResult result (λ (behind : Bor (List (Incoming B))). IsServedOn before after old new frames behind.now) (λ fault. Writes before after (IsServed may_leave moment left_since (Err fault) old new frames))
