-- How far the loop over the input has come.
use Rattle.std.specs.Prelude.{◌≡◌, ◌≢◌, ◌<◌, ℕ, List, [], ◌∷◌, ◌++◌, length, codes, Result, Ok, Err, MatchResult}
use Rattle.std.specs.List.{AllByRecursion}
use Rattle.kfs_program.specs.Engine.Transcript.{IsSession, LineIsShort, longest_line}
use Rattle.kfs_program_text.specs.Cut.{cut, line_end}
use Rattle.kfs_program.specs.Engine.Session.{AnswersLine, AnswersLines, Stage, fresh}
use Rattle.kfs_program_text.specs.Parts.{line_of}
use Rattle.kfs_program.specs.Engine.Views.{stage_of}
use Rattle.kfs_program.specs.declared.sessions.session_loop.SessionLoop.{SessionLoop}
use Rattle.kfs_program.specs.declared.sessions.fault.EngineFault.{EngineFault}
use Rattle.kfs_program.specs.declared.sessions.fault.EngineFault.TheVariants.{ReadFault, WriteFault, LongLine, OutOfMemory}
use Rattle.kfs_program_text.specs.declared.words.Refusal.{Refusal}
use Rattle.kfs_program_text.specs.declared.words.Refusal.TheVariants as refusal

-- The input is in three parts: lines that are answered with this text; held bytes, which are the
-- beginning of a line; and bytes that aren't looked at yet.
pub record HasAnswered (stage : Stage) (held rest input text : List ℕ) : Type 0 where
  pub lines : List (List ℕ)
  pub parts : cut line_end input ≡ lines ++ cut line_end (held ++ rest)
  pub endless : cut line_end held ≡ held ∷ []
  pub answered : AnswersLines fresh lines text stage
  pub short : AllByRecursion LineIsShort lines
  pub held_short : LineIsShort held

-- the line isn't answered in full, for this reason, and this much of an answer is written
abbrev pub IsStopped : EngineFault → Stage → (line text : List ℕ) → Type 0
IsStopped ReadFault stage line text = ⊥
IsStopped WriteFault stage line text = (unwritten : List ℕ) × (next : Stage) × AnswersLine stage line (text ++ unwritten, next) × LineIsShort line
IsStopped LongLine stage line text = (longest_line < length line) × (text ≡ [])
IsStopped OutOfMemory stage line text = text ≡ []

-- the line is kept, or the session ends at it, for another reason than the writer's
abbrev pub LineIsKept : {T : Type 0} → Result T EngineFault → Stage → (line kept : List ℕ) → Type 0
LineIsKept result stage line kept =
    MatchResult result (λ done. (kept ≡ line) × LineIsShort line) (λ fault. IsStopped fault stage line [] × (fault ≢ WriteFault))

-- the line is answered with this text, from a stage to the next, or stopped at
abbrev pub IsAnswered : {T : Type 0} → Result T EngineFault → Stage → (line : List ℕ) → Stage → (text : List ℕ) → Type 0
IsAnswered (Ok done) before line after text = AnswersLine before line (text, after) × LineIsShort line
IsAnswered (Err fault) before line after text = IsStopped fault before line text

-- the same, if the line isn't too long
abbrev pub IsAnsweredIfShort : {T : Type 0} → Result T EngineFault → Stage → (line : List ℕ) → Stage → (text : List ℕ) → Type 0
IsAnsweredIfShort result before line after text = LineIsShort line → IsAnswered result before line after text

module _ {A : Type 0} where
  -- the loop has come so far, and holds the beginning of the next line
  abbrev pub HasAnsweredSoFar : SessionLoop A → (rest input text : List ℕ) → Type 0
  HasAnsweredSoFar session_loop rest input text = HasAnswered (stage_of session_loop.session) session_loop.line.items rest input text

  -- all input is looked at, or the session has ended, which may be before the reader's end
  abbrev pub IsTaken : {T : Type 0} → Result T EngineFault → SessionLoop A → (input text : List ℕ) → Type 0
  IsTaken (Ok done) session_loop input text = HasAnsweredSoFar session_loop [] input text
  IsTaken {T} (Err fault) session_loop input text = IsSession {T = T} ⊥ (Err fault) input text

  -- wherever the loop was before these bytes, they are all looked at, or the session has ended
  abbrev pub Takes : {T : Type 0} → SessionLoop A → (bytes : List ℕ) → Result T EngineFault → SessionLoop A → (more : List ℕ) → Type 0
  Takes before bytes result after more = (input text : List ℕ) → HasAnsweredSoFar before bytes input text → IsTaken result after input (text ++ more)

  -- wherever the loop was, the session has ended, and the reader has come to its end
  abbrev pub Ends : {T : Type 0} → SessionLoop A → Result T EngineFault → (more : List ℕ) → Type 0
  Ends before result more = (input text : List ℕ) → HasAnsweredSoFar before [] input text → IsSession (Unit {0}) result input (text ++ more)

  -- the same of two loops
  abbrev pub IsLineAnswered : {T : Type 0} → Result T EngineFault → SessionLoop A → (line : List ℕ) → SessionLoop A → (text : List ℕ) → Type 0
  IsLineAnswered result before line after text = IsAnswered result (stage_of before.session) line (stage_of after.session) text

  -- the line that the loop holds is answered with this text or stopped at, if it isn't too long
  abbrev pub IsHeldAnswered : {T : Type 0} → Result T EngineFault → (before after : SessionLoop A) → (text : List ℕ) → Type 0
  IsHeldAnswered result before after text = IsAnsweredIfShort result (stage_of before.session) before.line.items (stage_of after.session) text

-- what is written for a reply: the reply, or a refusal's line
abbrev pub reply_written : {T : Type 0} → Result T Refusal → (reply : List ℕ) → List ℕ
reply_written (Ok done) reply = reply
reply_written (Err refusal.BadLine) reply = line_of (codes "bad line")
reply_written (Err refusal.OutOfMemory) reply = line_of (codes "memory")
