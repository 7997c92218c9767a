-- The commands: what the words of a line ask for.
use Rattle.std.specs.Prelude.{ℕ, ◌==◌, nat_lt, Bool, List, [], ◌∷◌, length, codes, bytes_eq, Option, Some, None, option_map, Result, Ok, Err, if◌then◌else◌}
use Rattle.kfs_model.specs.Limits.{group_limit, tier_limit}
use Rattle.kfs_model.specs.Access.{Client, is_grant}
use Rattle.kfs_model.specs.Steps.{◌>>=◌}
use Rattle.kfs_model.specs.Lease.{LeaseKind, ReadLease, WriteLease}
use Rattle.kfs_model.specs.Judgement.{Submission}
use Rattle.kfs_model.specs.Migration.{Move as BlockMove}
use Rattle.kfs_model.specs.Placement.{TierSizes}
use Rattle.kfs_mode.specs.declared.client.ClientFault.{ClientFault}
use Rattle.kfs_mode.specs.declared.client.ClientFault.TheVariants.{TooManyGroups, BadGrant}
use Rattle.kfs_plan.specs.Judging.{submission_with}
use Rattle.kfs_program_text.specs.Cut.{cut, space}
use Rattle.kfs_program_text.specs.Decimals.{decimal32, decimal64, decimal_within, decimals32, hexadecimal}
use Rattle.kfs_program_text.specs.Reading.{are_words}

-- a command that comes before the desk is begun
pub data OpeningCommand : Type 0 where
  New : (sizes : TierSizes) → OpeningCommand
  Row : (client : Result Client ClientFault) → OpeningCommand
  Begin : (limit : ℕ) → OpeningCommand

-- a command to the desk
pub data DeskCommand : Type 0 where
  Lease : (client : ℕ) (path : List ℕ) (kind : LeaseKind) (end : ℕ) → DeskCommand
  Drop : (client number : ℕ) → DeskCommand
  Tick : (moment : ℕ) → DeskCommand
  Submit : (submission : Submission) → DeskCommand
  Node : (number : ℕ) → DeskCommand
  Listing : (directory : ℕ) → DeskCommand
  Bytes : (number start count : ℕ) → DeskCommand
  DocketLength : DeskCommand
  Judge : (worker : ℕ) (submission : Submission) → DeskCommand
  Land : (worker : ℕ) → DeskCommand
  Save : DeskCommand
  Move : (moves : List BlockMove) → DeskCommand
  Plan : (client : ℕ) (log : List ℕ) → DeskCommand
  -- a call of the desk that no line asks for
  LeaseAt : (client number : ℕ) (kind : LeaseKind) (end : ℕ) → DeskCommand

pub data Command : Type 0 where
  Setup : (command : OpeningCommand) → Command
  Load : (bytes : List ℕ) → Command
  Request : (command : DeskCommand) → Command

-- ---- words

abbrev pub kind_named : List ℕ → Option LeaseKind
kind_named word = if bytes_eq word (codes "r") then Some ReadLease else if bytes_eq word (codes "w") then Some WriteLease else None

-- ---- commands, by the words behind their name

-- the client with these parts, or why it is refused; too many groups are found before a grant out of
-- range
abbrev pub client_row : (number uid gid : ℕ) (groups : List ℕ) (privileged : Bool) (first last : ℕ) → Result Client ClientFault
client_row number uid gid groups privileged first last =
    if nat_lt group_limit (length groups) then Err TooManyGroups
    else if is_grant first last then Ok (record { number = number; uid = uid; gid = gid; groups = groups; privileged = privileged; first = first; last = last })
    else Err BadGrant

abbrev pub new_of : List (List ℕ) → Option Command
new_of (a ∷ b ∷ c ∷ []) = do
  first ← decimal_within tier_limit a
  second ← decimal_within tier_limit b
  third ← decimal_within tier_limit c
  Some (Setup (New (record { first = first; second = second; third = third })))
new_of words = None

abbrev pub load_of : List (List ℕ) → Option Command
load_of (a ∷ []) = do
  bytes ← hexadecimal a
  Some (Load bytes)
load_of words = None

abbrev pub client_of : List (List ℕ) → Option Command
client_of (a ∷ b ∷ c ∷ d ∷ e ∷ f ∷ words) = do
  number ← decimal32 a
  uid ← decimal32 b
  gid ← decimal32 c
  privileged ← decimal_within 1 d
  first ← decimal32 e
  last ← decimal32 f
  groups ← decimals32 words
  Some (Setup (Row (client_row number uid gid groups (privileged == 1) first last)))
client_of words = None

abbrev pub lease_of : List (List ℕ) → Option Command
lease_of (a ∷ path ∷ b ∷ c ∷ []) = do
  client ← decimal32 a
  kind ← kind_named b
  end ← decimal64 c
  Some (Request (Lease client path kind end))
lease_of words = None

abbrev pub drop_of : List (List ℕ) → Option Command
drop_of (a ∷ b ∷ []) = do
  client ← decimal32 a
  number ← decimal32 b
  Some (Request (Drop client number))
drop_of words = None

-- the submission in the words: a client's number, a log, a plan
abbrev pub submission_in : List (List ℕ) → Option Submission
submission_in (a ∷ b ∷ c ∷ []) = do
  client ← decimal32 a
  log ← hexadecimal b
  plan ← hexadecimal c
  Some (submission_with client log plan)
submission_in words = None

abbrev pub submit_of : List (List ℕ) → Option Command
submit_of words = do
  submission ← submission_in words
  Some (Request (Submit submission))

-- a client's number and a log
abbrev pub plan_of : List (List ℕ) → Option Command
plan_of (a ∷ b ∷ []) = do
  client ← decimal32 a
  log ← hexadecimal b
  Some (Request (Plan client log))
plan_of words = None

-- the greatest number of a worker
abbrev pub last_worker : ℕ
last_worker = 7

abbrev pub judge_of : List (List ℕ) → Option Command
judge_of [] = None
judge_of (a ∷ words) = do
  worker ← decimal_within last_worker a
  submission ← submission_in words
  Some (Request (Judge worker submission))

-- the most bytes that a line may ask for
abbrev pub read_limit : ℕ
read_limit = 65536

abbrev pub read_of : List (List ℕ) → Option Command
read_of (a ∷ b ∷ c ∷ []) = do
  number ← decimal32 a
  start ← decimal64 b
  count ← decimal_within read_limit c
  Some (Request (Bytes number start count))
read_of words = None

-- the greatest number of a tier in a line
abbrev pub last_tier : ℕ
last_tier = 255

abbrev pub move_to : (number block tier place : ℕ) → BlockMove
move_to number block tier place = record { number = number; block = block; target = record { tier = tier; place = place } }

-- the moves in the words, four words for each: file, block, tier, place
abbrev pub moves_in : List (List ℕ) → Option (List BlockMove)
moves_in [] = Some []
moves_in (a ∷ b ∷ c ∷ d ∷ words) = do
  number ← decimal32 a
  block ← decimal32 b
  tier ← decimal_within last_tier c
  place ← decimal32 d
  option_map (λ moves. move_to number block tier place ∷ moves) (moves_in words)
moves_in words = None

-- one move or more
abbrev pub move_of : List (List ℕ) → Option Command
move_of [] = None
move_of (word ∷ words) = option_map (λ moves. Request (Move moves)) (moves_in (word ∷ words))

-- a command without words
abbrev pub alone : Command → List (List ℕ) → Option Command
alone command [] = Some command
alone command words = None

-- a command with exactly one number
abbrev pub with_number : (List ℕ → Option ℕ) → (ℕ → Command) → List (List ℕ) → Option Command
with_number number command (a ∷ []) = option_map command (number a)
with_number number command words = None

-- ---- lines

abbrev pub command_of : (name : List ℕ) → (words : List (List ℕ)) → Option Command
command_of name words =
    if bytes_eq name (codes "submit") then submit_of words
    else if bytes_eq name (codes "lease") then lease_of words
    else if bytes_eq name (codes "new") then new_of words
    else if bytes_eq name (codes "client") then client_of words
    else if bytes_eq name (codes "begin") then with_number decimal32 (λ limit. Setup (Begin limit)) words
    else if bytes_eq name (codes "drop") then drop_of words
    else if bytes_eq name (codes "tick") then with_number decimal64 (λ moment. Request (Tick moment)) words
    else if bytes_eq name (codes "node") then with_number decimal32 (λ number. Request (Node number)) words
    else if bytes_eq name (codes "list") then with_number decimal32 (λ directory. Request (Listing directory)) words
    else if bytes_eq name (codes "read") then read_of words
    else if bytes_eq name (codes "docket") then alone (Request DocketLength) words
    else if bytes_eq name (codes "judge") then judge_of words
    else if bytes_eq name (codes "land") then with_number (decimal_within last_worker) (λ worker. Request (Land worker)) words
    else if bytes_eq name (codes "image") then load_of words
    else if bytes_eq name (codes "save") then alone (Request Save) words
    else if bytes_eq name (codes "move") then move_of words
    else if bytes_eq name (codes "plan") then plan_of words
    else None

abbrev pub asked_in : List (List ℕ) → Option Command
asked_in [] = None
asked_in (name ∷ words) = if are_words (name ∷ words) then command_of name words else None

-- the command in a line, none where the line isn't a command
abbrev pub asked_by : (line : List ℕ) → Option Command
asked_by line = asked_in (cut space line)

-- the worker whose verdict is to be landed, none where that isn't asked for
abbrev pub landing_worker : Option Command → Option ℕ
landing_worker (Some (Request (Land worker))) = Some worker
landing_worker asked = None
