-- A session: the reply to each line, and the state that the line leaves.
use Rattle.std.specs.Prelude.{◌≡◌, ◌≢◌, ◌⊎◌, ℕ, List, [], ◌∷◌, ◌++◌, length, codes, decimal, false, Option, Some, None, Result, Ok, Err, if◌then◌else◌}
use Rattle.kfs_model.specs.Access.{Client}
use Rattle.kfs_model.specs.Lease.{row_of}
use Rattle.kfs_model.specs.Table.{get}
use Rattle.kfs_model.specs.Tree.{headers}
use Rattle.kfs_model.specs.Sight.{is_directory}
use Rattle.kfs_model.specs.Judgement.{Submission}
use Rattle.kfs_model.specs.Machine as machine
use Rattle.kfs_model.specs.Machine.{opening}
use Rattle.kfs_mode.specs.declared.client.ClientFault.{ClientFault}
use Rattle.kfs_types.specs.Views.{header_of}
use Rattle.kfs_types.specs.declared.entry.Header.{Header as CodeHeader}
use Rattle.kfs_model.specs.Device.ShownTree.{DeviceImage, shown_tree}
use Rattle.kfs_image.specs.Image.{fresh_image}
use Rattle.kfs_desk.specs.Machine.{Desk, IsActed, IsAnswered, opened_at}
use Rattle.kfs_desk.specs.Opening.{begin_fault}
use Rattle.kfs_desk.specs.declared.history.answers.ActReply.{ActReply}
use Rattle.kfs_desk.specs.declared.history.answers.BeginFault.{BeginFault}
use Rattle.kfs_desk.specs.declared.history.answers.Done.{Done}
use Rattle.kfs_desk.specs.declared.history.answers.Done.TheVariants.{Leased, Dropped, Ticked, Moved}
use Rattle.kfs_desk.specs.declared.history.answers.Reply.{Reply}
use Rattle.kfs_program_text.specs.Command.{Command, Setup, Request, OpeningCommand, New, Row, Begin, DeskCommand, Lease, LeaseAt, Drop, Tick, Submit, Node, Listing, Bytes, DocketLength, Judge, Land, Load, Save, Move, Plan, asked_by, landing_worker}
use Rattle.kfs_program.specs.Engine.Bytes.{read_text}
use Rattle.kfs_program.specs.Images.Loading.{LoadsWith}
use Rattle.kfs_program.specs.Images.Saving.{save_text}
use Rattle.kfs_program.specs.Engine.PlanLine.{SaysPlan}
use Rattle.kfs_program.specs.Verdicts.HeldVerdicts.{HeldVerdicts, held_by, no_verdict, with_held}
use Rattle.kfs_desk.specs.Verdict.Verdict.{IsVerdictOn, HeldVerdict, LandsVerdict}
use Rattle.kfs_program.specs.Engine.Listing.{list_text}
use Rattle.kfs_program.specs.Report.{act_text, begin_text, client_text, node_text, reply_text}
use Rattle.kfs_program_text.specs.Parts.{line_of}

-- what a desk is begun with: the image, if there is one yet, and the clients
pub record Start : Type 0 where
  pub image : Option DeviceImage
  pub clients : List Client

-- before the desk is begun; or afterwards, with the desk and the verdicts that workers hold
pub data Stage : Type 0 where
  Before : (start : Start) → Stage
  After : (desk : Desk) (hands : HeldVerdicts) → Stage

-- the start of a session: no image, no clients
abbrev pub fresh : Stage
fresh = Before (record { image = None; clients = [] })

-- the reply to a line, and the stage after it
abbrev pub LineOutcome : Type 0
LineOutcome = List ℕ × Stage

-- the desk's reply to a line, and the desk after it
abbrev pub DeskOutcome : Type 0
DeskOutcome = List ℕ × Desk

-- a text is appended; that text, with what the line leaves, is such an outcome
abbrev pub IsReplied : {S : Type 0} → (List ℕ × S → Type 0) → (before after : List ℕ) → S → Type 0
IsReplied Holds before after s = (text : List ℕ) × (after ≡ before ++ text) × Holds (text, s)

-- the outcome is this line of text, and leaves this
abbrev pub IsSaid : {S : Type 0} → (text : List ℕ) → S → List ℕ × S → Type 0
IsSaid text s outcome = outcome ≡ (line_of text, s)

-- ---- before the desk is begun

-- the desk is begun; or the clients have a fault, and then the image stays and they are forgotten
abbrev pub begun_with : DeviceImage → List Client → (limit : ℕ) → Option BeginFault → LineOutcome
begun_with image clients limit None = (line_of (codes "ok"), After (opened_at (opening clients image.sizes (shown_tree image) image.placement) limit) no_verdict)
begun_with image clients limit (Some fault) = (line_of (codes "begin " ++ begin_text fault), Before (record { image = Some image; clients = [] }))

-- the reply to `begin`; without an image it is a bad line
abbrev pub begun_over : Option DeviceImage → List Client → (limit : ℕ) → LineOutcome
begun_over None clients limit = (line_of (codes "bad line"), Before (record { image = None; clients = clients }))
begun_over (Some image) clients limit = begun_with image clients limit (begin_fault clients)

abbrev pub admitted : Start → Result Client ClientFault → LineOutcome
admitted start (Ok client) = (line_of (codes "ok"), Before (record start { clients = start.clients ++ client ∷ [] }))
admitted start (Err fault) = (line_of (codes "client " ++ client_text fault), Before start)

abbrev pub opened : Start → OpeningCommand → LineOutcome
opened start (New sizes) = (line_of (codes "ok"), Before (record start { image = Some (fresh_image sizes) }))
opened start (Row client) = admitted start client
opened start (Begin limit) = begun_over start.image start.clients limit

-- the image, if there is one, takes the place of one that was there
abbrev pub with_image : Start → Option DeviceImage → Start
with_image start None = start
with_image start (Some image) = record start { image = Some image }

-- the outcome of an image in bytes: where they make one, the desk will be begun with it, else nothing changes
abbrev pub AnswersLoad : Start → (bytes : List ℕ) → LineOutcome → Type 0
AnswersLoad start bytes outcome = (image : Option DeviceImage) × (line : List ℕ) × LoadsWith bytes image line × IsSaid line (Before (with_image start image)) outcome

-- ---- calls of the desk

-- the docket is full, and the reply says so
abbrev pub IsFull : Desk → DeskOutcome → Type 0
IsFull desk outcome = (length desk.docket ≡ desk.limit) × IsSaid (codes "full") desk outcome

-- the call is the machine's next step, and the reply is its line, in these words
pub record IsCalled (desk : Desk) (call : machine.Call) (words : ℕ → Done) (outcome : DeskOutcome) : Type 0 where
  pub answer : ActReply
  pub next : Desk
  pub below : length desk.docket ≢ desk.limit
  pub acted : IsActed desk call words answer next
  pub is : outcome ≡ (line_of (act_text answer), next)

-- the call is answered, or the docket is full
abbrev pub IsCallAnswered : Desk → machine.Call → (ℕ → Done) → DeskOutcome → Type 0
IsCallAnswered desk call words outcome = IsFull desk outcome ⊎ IsCalled desk call words outcome

-- the submission is answered by the desk, and the reply is its line
pub record IsSubmitted (desk : Desk) (submission : Submission) (outcome : DeskOutcome) : Type 0 where
  pub answer : Reply
  pub next : Desk
  pub below : length desk.docket ≢ desk.limit
  pub answered : IsAnswered desk submission false answer next
  pub is : outcome ≡ (line_of (reply_text answer), next)

abbrev pub IsSubmissionAnswered : Desk → Submission → DeskOutcome → Type 0
IsSubmissionAnswered desk submission outcome = IsFull desk outcome ⊎ IsSubmitted desk submission outcome

-- ---- what is looked up

-- the reply is the node's line
pub record IsNode (desk : Desk) (number : ℕ) (outcome : DeskOutcome) : Type 0 where
  pub header : CodeHeader
  pub shown : get (headers desk.state.tree) number ≡ Some (header_of header)
  pub is : IsSaid (node_text number header) desk outcome

abbrev pub IsNone : Desk → (number : ℕ) → DeskOutcome → Type 0
IsNone desk number outcome = (get (headers desk.state.tree) number ≡ None) × IsSaid (codes "none") desk outcome

abbrev pub IsNodeShown : Desk → (number : ℕ) → DeskOutcome → Type 0
IsNodeShown desk number outcome = IsNone desk number outcome ⊎ IsNode desk number outcome

-- the line of a directory's names, or `none` where there is no such directory
abbrev pub names_line : Desk → (directory : ℕ) → List ℕ
names_line desk directory = if is_directory (get (headers desk.state.tree) directory) then list_text directory desk.state.tree.names else codes "none"

-- the line with the number of the docket's rows
abbrev pub docket_line : Desk → List ℕ
docket_line desk = codes "docket " ++ decimal (length desk.docket)

-- the line says the plan of a log of this client, or that there is none
abbrev pub IsPlanShown : Desk → Client → (log : List ℕ) → DeskOutcome → Type 0
IsPlanShown desk client log outcome = (line : List ℕ) × SaysPlan client desk.state.tree log line × IsSaid line desk outcome

-- for a number without a client it is a bad line
abbrev pub IsPlanAnswered : Desk → Option Client → (log : List ℕ) → DeskOutcome → Type 0
IsPlanAnswered desk None log outcome = IsSaid (codes "bad line") desk outcome
IsPlanAnswered desk (Some client) log outcome = IsPlanShown desk client log outcome

-- ---- verdicts that are held

-- the outcome of the desk, with these verdicts held afterwards
abbrev pub WithHands : HeldVerdicts → (DeskOutcome → Type 0) → LineOutcome → Type 0
WithHands hands Holds outcome = (said : DeskOutcome) × Holds said × (outcome ≡ (said.0, After said.1 hands))

-- a worker who holds nothing then holds a verdict on the submission, and the desk is as it was; for a
-- worker who holds one it is a bad line
abbrev pub AnswersJudge : Desk → HeldVerdicts → (worker : ℕ) → (held : Option HeldVerdict) → Submission → LineOutcome → Type 0
AnswersJudge desk hands worker (Some verdict) submission outcome = IsSaid (codes "bad line") (After desk hands) outcome
AnswersJudge desk hands worker None submission outcome =
    (verdict : HeldVerdict) × IsVerdictOn desk.state submission verdict × IsSaid (codes "judged " ++ decimal worker) (After desk (with_held hands worker (Some verdict))) outcome

-- the verdict is landed, and the reply is its line
pub record IsLanded (desk : Desk) (verdict : HeldVerdict) (outcome : DeskOutcome) : Type 0 where
  pub answer : Reply
  pub next : Desk
  pub landed : LandsVerdict desk verdict answer next
  pub is : outcome ≡ (line_of (reply_text answer), next)

-- the verdict is landed, or the docket is full
abbrev pub IsLandingAnswered : Desk → HeldVerdict → DeskOutcome → Type 0
IsLandingAnswered desk verdict outcome = IsFull desk outcome ⊎ IsLanded desk verdict outcome

-- whatever becomes of the worker's verdict, the worker holds none afterwards; for a worker who holds
-- none it is a bad line
abbrev pub AnswersLand : Desk → HeldVerdicts → (worker : ℕ) → (held : Option HeldVerdict) → LineOutcome → Type 0
AnswersLand desk hands worker None outcome = IsSaid (codes "bad line") (After desk hands) outcome
AnswersLand desk hands worker (Some verdict) outcome = WithHands (with_held hands worker None) (IsLandingAnswered desk verdict) outcome

-- ---- lines

-- the outcome of a command to the desk, once it is begun
abbrev pub DeskAnswers : Desk → HeldVerdicts → DeskCommand → LineOutcome → Type 0
DeskAnswers desk hands (Lease client path kind end) outcome = WithHands hands (IsCallAnswered desk (machine.Lease client path kind end) Leased) outcome
DeskAnswers desk hands (Drop client number) outcome = WithHands hands (IsCallAnswered desk (machine.Drop client number) Dropped) outcome
DeskAnswers desk hands (LeaseAt client number kind end) outcome = WithHands hands (IsCallAnswered desk (machine.LeaseAt client number kind end) Leased) outcome
DeskAnswers desk hands (Tick moment) outcome = WithHands hands (IsCallAnswered desk (machine.Tick moment) Ticked) outcome
DeskAnswers desk hands (Move moves) outcome = WithHands hands (IsCallAnswered desk (machine.Migrate moves) Moved) outcome
DeskAnswers desk hands (Submit submission) outcome = WithHands hands (IsSubmissionAnswered desk submission) outcome
DeskAnswers desk hands (Node number) outcome = WithHands hands (IsNodeShown desk number) outcome
DeskAnswers desk hands (Listing directory) outcome = WithHands hands (IsSaid (names_line desk directory) desk) outcome
DeskAnswers desk hands (Bytes number start count) outcome = WithHands hands (IsSaid (read_text desk.state.tree number start count) desk) outcome
DeskAnswers desk hands DocketLength outcome = WithHands hands (IsSaid (docket_line desk) desk) outcome
DeskAnswers desk hands Save outcome = WithHands hands (IsSaid (save_text desk.state.sizes desk.state.tree desk.state.placement) desk) outcome
DeskAnswers desk hands (Plan number log) outcome = WithHands hands (IsPlanAnswered desk (row_of desk.state.clients number) log) outcome
DeskAnswers desk hands (Judge worker submission) outcome = AnswersJudge desk hands worker (held_by hands worker) submission outcome
DeskAnswers desk hands (Land worker) outcome = AnswersLand desk hands worker (held_by hands worker) outcome

-- the outcome of a command; one that comes at the wrong time is a bad line
abbrev pub AnswersCommand : Stage → Command → LineOutcome → Type 0
AnswersCommand (Before start) (Setup command) outcome = outcome ≡ opened start command
AnswersCommand (Before start) (Load bytes) outcome = AnswersLoad start bytes outcome
AnswersCommand (Before start) (Request command) outcome = IsSaid (codes "bad line") (Before start) outcome
AnswersCommand (After desk hands) (Setup command) outcome = IsSaid (codes "bad line") (After desk hands) outcome
AnswersCommand (After desk hands) (Load bytes) outcome = IsSaid (codes "bad line") (After desk hands) outcome
AnswersCommand (After desk hands) (Request command) outcome = DeskAnswers desk hands command outcome

-- the line is a command, and this is its outcome
abbrev pub Obeys : Stage → Option Command → LineOutcome → Type 0
Obeys s None outcome = ⊥
Obeys s (Some command) outcome = AnswersCommand s command outcome

-- what a line leaves for which memory runs out: the stage as it was, but that a worker whose verdict
-- was to be landed holds none
abbrev pub left_without_memory : (landing : Option ℕ) → Stage → Stage
left_without_memory None s = s
left_without_memory (Some worker) (Before start) = Before start
left_without_memory (Some worker) (After desk hands) = After desk (with_held hands worker None)

-- the outcome of a line: it is no command, or its command is carried out, or memory runs out, which
-- may be so at any line
abbrev pub AnswersLine : Stage → (line : List ℕ) → LineOutcome → Type 0
AnswersLine s line outcome =
    ((asked_by line ≡ None) × IsSaid (codes "bad line") s outcome)
    ⊎ (Obeys s (asked_by line) outcome ⊎ IsSaid (codes "memory") (left_without_memory (landing_worker (asked_by line)) s) outcome)

-- the lines one after another are answered with this text, and leave this stage
abbrev pub AnswersLines : Stage → (lines : List (List ℕ)) → (text : List ℕ) → Stage → Type 0
AnswersLines s [] text last = (text ≡ []) × (last ≡ s)
AnswersLines s (line ∷ lines) text last = (reply : List ℕ) × (next : Stage) × (rest : List ℕ) × AnswersLine s line (reply, next) × AnswersLines next lines rest last × (text ≡ reply ++ rest)
