-- The code's commands in terms of the definitions.
use Rattle.kfs_lease.specs.Rows.Rows.{kind_of}
use Rattle.kfs_lease.specs.declared.act.Act.{Act}
use Rattle.kfs_lease.specs.declared.act.Act.TheVariants as acts
use Rattle.kfs_plan.specs.Judging.{submission_of, submission_with}
use Rattle.kfs_program_text.specs.Command as commands
use Rattle.kfs_program_text.specs.declared.command.Command.{Command}
use Rattle.kfs_program_text.specs.declared.command.Command.TheVariants as read
use Rattle.kfs_program_text.specs.declared.command.OpeningCommand.{OpeningCommand}
use Rattle.kfs_program_text.specs.declared.command.OpeningCommand.TheVariants as opening
use Rattle.kfs_program_text.specs.declared.command.DeskCommand.{DeskCommand}
use Rattle.kfs_program_text.specs.declared.command.DeskCommand.TheVariants as desk

abbrev pub opening_of : OpeningCommand → commands.OpeningCommand
opening_of (opening.New sizes) = commands.New sizes
opening_of (opening.Client client) = commands.Row client
opening_of (opening.Begin limit) = commands.Begin limit

abbrev pub act_of : Act → commands.DeskCommand
act_of (acts.Lease client path kind end) = commands.Lease client path.now (kind_of kind) end
act_of (acts.Drop client number) = commands.Drop client number
act_of (acts.LeaseAt client number kind end) = commands.LeaseAt client number (kind_of kind) end
act_of (acts.Tick moment) = commands.Tick moment

module _ {A : Type 0} where
  abbrev pub asked_of_desk : DeskCommand A → commands.DeskCommand
  asked_of_desk (desk.Act act) = act_of act
  asked_of_desk (desk.Submit client log plan) = commands.Submit (submission_with client log.now plan.now)
  asked_of_desk (desk.Node number) = commands.Node number
  asked_of_desk (desk.List number) = commands.Listing number
  asked_of_desk (desk.Read number start count) = commands.Bytes number start count
  asked_of_desk desk.Docket = commands.DocketLength
  asked_of_desk (desk.Judge worker submission) = commands.Judge worker.number (submission_of submission)
  asked_of_desk (desk.Land worker) = commands.Land worker.number
  asked_of_desk desk.Save = commands.Save
  asked_of_desk (desk.Move moves) = commands.Move moves.items
  asked_of_desk (desk.Plan client log) = commands.Plan client log.items

  abbrev pub asked_of : Command A → commands.Command
  asked_of (read.Opening command) = commands.Setup (opening_of command)
  asked_of (read.Image bytes) = commands.Load bytes.items
  asked_of (read.Desk command) = commands.Request (asked_of_desk command)
