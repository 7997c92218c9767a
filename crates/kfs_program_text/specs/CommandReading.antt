-- The commands by their names.
use Rattle.std.specs.Prelude.{ℕ, List, codes, bytes_eq, Option, Some, None, if◌then◌else◌}
use Rattle.kfs_model.specs.Migration.{Move}
use Rattle.kfs_model.specs.Steps.{◌>>=◌}
use Rattle.kfs_program_text.specs.Command.{Command, Setup, Begin, Request, Tick, Node, Listing, DocketLength, Land, Save, alone, client_of, drop_of, judge_of, last_tier, last_worker, lease_of, load_of, move_of, move_to, new_of, plan_of, read_of, submit_of, with_number}
use Rattle.kfs_program_text.specs.declared.command.Keyword.{Keyword}
use Rattle.kfs_program_text.specs.declared.command.Keyword.TheVariants as names
use Rattle.kfs_program_text.specs.Decimals.{decimal32, decimal64, decimal_within}
use Rattle.kfs_program_text.specs.Reading.{first_by}

-- ---- the commands with one number alone, and each command by its name

unfoldable pub begin_of : List (List ℕ) → Option Command
begin_of = with_number decimal32 (λ limit. Setup (Begin limit))

unfoldable pub tick_of : List (List ℕ) → Option Command
tick_of = with_number decimal64 (λ moment. Request (Tick moment))

unfoldable pub node_of : List (List ℕ) → Option Command
node_of = with_number decimal32 (λ number. Request (Node number))

unfoldable pub listing_of : List (List ℕ) → Option Command
listing_of = with_number decimal32 (λ directory. Request (Listing directory))

unfoldable pub docket_of : List (List ℕ) → Option Command
docket_of = alone (Request DocketLength)

unfoldable pub land_of : List (List ℕ) → Option Command
land_of = with_number (decimal_within last_worker) (λ worker. Request (Land worker))

unfoldable pub save_of : List (List ℕ) → Option Command
save_of = alone (Request Save)

-- the command that a word names
abbrev pub named_by : (word : List ℕ) → Option Keyword
named_by word =
    if bytes_eq word (codes "submit") then Some names.Submit
    else if bytes_eq word (codes "lease") then Some names.Lease
    else if bytes_eq word (codes "new") then Some names.New
    else if bytes_eq word (codes "client") then Some names.Client
    else if bytes_eq word (codes "begin") then Some names.Begin
    else if bytes_eq word (codes "drop") then Some names.Drop
    else if bytes_eq word (codes "tick") then Some names.Tick
    else if bytes_eq word (codes "node") then Some names.Node
    else if bytes_eq word (codes "list") then Some names.List
    else if bytes_eq word (codes "read") then Some names.Read
    else if bytes_eq word (codes "docket") then Some names.Docket
    else if bytes_eq word (codes "judge") then Some names.Judge
    else if bytes_eq word (codes "land") then Some names.Land
    else if bytes_eq word (codes "image") then Some names.Image
    else if bytes_eq word (codes "save") then Some names.Save
    else if bytes_eq word (codes "move") then Some names.Move
    else if bytes_eq word (codes "plan") then Some names.Plan
    else None

abbrev pub command_named : Option Keyword → List (List ℕ) → Option Command
command_named None words = None
command_named (Some names.New) words = new_of words
command_named (Some names.Client) words = client_of words
command_named (Some names.Begin) words = begin_of words
command_named (Some names.Lease) words = lease_of words
command_named (Some names.Drop) words = drop_of words
command_named (Some names.Tick) words = tick_of words
command_named (Some names.Submit) words = submit_of words
command_named (Some names.Node) words = node_of words
command_named (Some names.List) words = listing_of words
command_named (Some names.Read) words = read_of words
command_named (Some names.Docket) words = docket_of words
command_named (Some names.Judge) words = judge_of words
command_named (Some names.Land) words = land_of words
command_named (Some names.Image) words = load_of words
command_named (Some names.Save) words = save_of words
command_named (Some names.Move) words = move_of words
command_named (Some names.Plan) words = plan_of words

-- ---- a line of moves

-- the move that the first four words say, and the words behind them
abbrev pub first_move : List (List ℕ) → Option (Move × List (List ℕ))
first_move words =
    first_by decimal32 words >>= λ number. first_by decimal32 number.1 >>= λ block. first_by (decimal_within last_tier) block.1 >>= λ tier. first_by decimal32 tier.1 >>= λ place.
    Some (move_to number.0 block.0 tier.0 place.0, place.1)
