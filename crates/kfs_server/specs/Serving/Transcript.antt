-- What is read, what is written, and what is kept meanwhile.
use Rattle.std.specs.Prelude.{◌≡◌, ◌⊎◌, ℕ, ◌<◌, List, [], ◌++◌, length, Result, Ok, Err}
use Rattle.kfs_journal.specs.Disk.{Files, LeavesOnly}
use Rattle.kfs_desk.specs.Machine.{Desk}
use Rattle.kfs_kept.specs.Standing.{StandFor}
use Rattle.kfs_kept.specs.declared.kept.Kept.{Kept}
use Rattle.kfs_server.specs.Frames.Frame.{Frame, Splits}
use Rattle.kfs_server.specs.Frames.Begun.{HasHead}
use Rattle.kfs_server.specs.Replies.Reply.{Reply, Refused, CutShort, reply_bytes, text_of}
use Rattle.kfs_server.specs.Serving.Machine.{Serves}
use Rattle.kfs_server.specs.Serving.Standing.{StandForSome}
use Rattle.kfs_server.specs.declared.serving.fault.ServeFault.{ServeFault}
use Rattle.kfs_server.specs.declared.serving.fault.ServeFault.TheVariants.{Group, OutOfMemory, ReadFault, WriteFault}

-- what is said where the input ends with these bytes: nothing of a head that isn't whole; else that the frame is cut
abbrev pub IsCutReply : (rest tail : List ℕ) → Type 0
IsCutReply rest tail =
    ((length rest < 12) × (tail ≡ []))
    ⊎ ((number : ℕ) × HasHead rest number × (tail ≡ reply_bytes number (Refused CutShort)))

-- that is said, or a first part of it where the writer fails
abbrev pub IsTailWritten : {E : Type 0} → Result (Unit {0}) E → (rest tail : List ℕ) → Type 0
IsTailWritten (Ok done) rest tail = IsCutReply rest tail
IsTailWritten (Err fault) rest tail = (unsaid : List ℕ) × IsCutReply rest (tail ++ unsaid)

module _ {A D : Type 0} (may_leave : D → Files → Type 0) (moment : D → ℕ) (left_since : D → ℕ → Files → Type 0) where
  -- all of these frames are answered with this text, from one state of the desk to the next; a crash leaves
  -- the state after all of them, and left at any moment that after some
  pub record ServedAll (old new : Kept A D) (frames : List Frame) (text : List ℕ) : Type 0 where
    pub replies : List Reply
    pub served : Serves old.desk frames replies new.desk
    pub said : text ≡ text_of frames replies
    pub acknowledged : (c : Files) → may_leave new.disk c → StandFor c new.desk.state
    pub any_moment : LeavesOnly moment left_since old.disk new.disk (StandForSome old.desk frames)

  -- the first of these frames are answered, and no more than that is said; a crash leaves the state after
  -- all that are answered at least
  pub record ServedSome (old new : Kept A D) (frames : List Frame) (text : List ℕ) : Type 0 where
    pub answered : List Frame
    pub later : List Frame
    pub parts : frames ≡ answered ++ later
    pub replies : List Reply
    pub reached : Desk
    pub served : Serves old.desk answered replies reached
    pub unsaid : List ℕ
    pub said : text_of answered replies ≡ text ++ unsaid
    pub acknowledged : (c : Files) → may_leave new.disk c → StandForSome reached later c
    pub any_moment : LeavesOnly moment left_since old.disk new.disk (StandForSome old.desk frames)

  -- all frames of a read are answered; or the first ones are, since the output or the files have failed
  abbrev pub IsServed : Result (Unit {0}) ServeFault → (old new : Kept A D) → List Frame → (text : List ℕ) → Type 0
  IsServed (Ok done) old new frames text = ServedAll old new frames text
  IsServed (Err WriteFault) old new frames text = ServedSome old new frames text
  IsServed (Err (Group fault)) old new frames text = ServedSome old new frames text
  IsServed (Err ReadFault) old new frames text = ⊥
  IsServed (Err OutOfMemory) old new frames text = ⊥

  -- the whole input is answered with this text: its frames, and what is said at its end
  pub record IsAnsweredAll (old new : Kept A D) (input text : List ℕ) : Type 0 where
    pub frames : List Frame
    pub rest : List ℕ
    pub splits : Splits input frames rest
    pub said : List ℕ
    pub tail : List ℕ
    pub served : ServedAll old new frames said
    pub cut : IsCutReply rest tail
    pub parts : text ≡ said ++ tail

  -- all frames are answered, and of what is said at the end a first part is
  pub record IsCutOff (old new : Kept A D) (frames : List Frame) (rest text : List ℕ) : Type 0 where
    pub said : List ℕ
    pub tail : List ℕ
    pub unsaid : List ℕ
    pub served : ServedAll old new frames said
    pub cut : IsCutReply rest (tail ++ unsaid)
    pub parts : text ≡ said ++ tail

  -- what is answered of the frames that were read, where serving stops for this reason
  abbrev pub IsStopped : ServeFault → (old new : Kept A D) → List Frame → (rest text : List ℕ) → Type 0
  -- all, if the input can't be read
  IsStopped ReadFault old new frames rest text = ServedAll old new frames text
  -- the first ones, and of the next one's answer a part, if the output can't be written
  IsStopped WriteFault old new frames rest text = ServedSome old new frames text ⊎ IsCutOff old new frames rest text
  -- nothing was read, if memory for reading was refused
  IsStopped OutOfMemory old new frames rest text = (frames ≡ []) × (rest ≡ []) × ServedAll old new frames text
  -- the first ones, if the files have failed
  IsStopped (Group fault) old new frames rest text = ServedSome old new frames text

  -- serving has stopped for this reason
  pub record IsAnsweredSome (fault : ServeFault) (old new : Kept A D) (input text : List ℕ) : Type 0 where
    pub frames : List Frame
    pub rest : List ℕ
    pub splits : Splits input frames rest
    pub stopped : IsStopped fault old new frames rest text

  abbrev pub IsSession : Result (Unit {0}) ServeFault → (old new : Kept A D) → (input text : List ℕ) → Type 0
  IsSession (Ok done) old new input text = IsAnsweredAll old new input text
  IsSession (Err fault) old new input text = IsAnsweredSome fault old new input text
