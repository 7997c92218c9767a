-- The parts of a session, in terms of the definitions.
use Rattle.std.specs.Prelude.{◌≡◌, ◌⊎◌, ℕ, List, codes, Option, None, Some}
use Rattle.kfs_desk.specs.Machine.{Desk}
use Rattle.kfs_program_text.specs.Command as commands
use Rattle.kfs_program.specs.Verdicts.HeldVerdicts.{no_verdict}
use Rattle.kfs_program.specs.Engine.Session.{AnswersCommand, IsReplied, LineOutcome, Stage, Start, Before, After, left_without_memory, opened}
use Rattle.kfs_program_text.specs.Parts.{line_of}
use Rattle.kfs_program.specs.declared.sessions.opening.Opening.{Opening}
use Rattle.kfs_program.specs.declared.sessions.session.Session.{Session}
use Rattle.kfs_program.specs.declared.sessions.session.Stage.{Stage as CodeStage}
use Rattle.kfs_program.specs.declared.sessions.session.Stage.TheVariants as stages

module _ {A : Type 0} where
  abbrev pub start_of : Opening A → Start
  start_of opening = record { image = opening.image; clients = opening.clients.items }

  -- the command, carried out before the desk is begun, has this outcome
  abbrev pub Opens : Opening A → commands.OpeningCommand → LineOutcome → Type 0
  Opens opening command outcome = opened (start_of opening) command ≡ outcome

  abbrev pub stage_in : CodeStage A → Stage
  stage_in (stages.Before opening) = Before (start_of opening)
  stage_in (stages.After desk hands) = After desk hands

  abbrev pub stage_of : Session A → Stage
  stage_of session = stage_in session.stage

-- where memory runs out, the stage is as it was, or the verdict that was to be landed is given up
abbrev pub IsUndone : (asked : Option commands.Command) → (before after : Stage) → Type 0
IsUndone asked before after = (after ≡ before) ⊎ (after ≡ left_without_memory (commands.landing_worker asked) before)

-- the stage afterwards: the desk, if one was begun, else still before it
abbrev pub stage_after : Option Desk → Start → Stage
stage_after None start = Before start
stage_after (Some desk) start = After desk no_verdict

module _ {A : Type 0} where
  -- the command is carried out, its reply is appended, and a desk is the answer if one was begun
  abbrev pub IsOpened : Opening A → commands.OpeningCommand → (before after : List ℕ) → Option Desk → Opening A → Type 0
  IsOpened opening command before after begun next = IsReplied (Opens opening command) before after (stage_after begun (start_of next))

  -- the reply is a bad line, since there is no image
  abbrev pub IsWithoutImage : Opening A → commands.OpeningCommand → Opening A → Type 0
  IsWithoutImage opening command next = Opens opening command (line_of (codes "bad line"), Before (start_of next))

  -- the command is carried out at its due time, and its reply is appended
  abbrev pub CommandIsDone : Session A → commands.Command → (before after : List ℕ) → Session A → Type 0
  CommandIsDone session command before after next = IsReplied (AnswersCommand (stage_of session) command) before after (stage_of next)

  -- the reply is a bad line, since the command comes at the wrong time
  abbrev pub IsOutOfPlace : Session A → commands.Command → Session A → Type 0
  IsOutOfPlace session command next = AnswersCommand (stage_of session) command (line_of (codes "bad line"), stage_of next)
