-- The sizes of an image are made where each is small enough.
use Rattle.std.proofs.Common.{◌≡◌, ◌∙◌, Option, Some, None, Ok, option_map, sym}
use Rattle.std.specs.Option.{ok_or}
use Rattle.kfs_model.specs.Placement.{TierSizes}
use Rattle.kfs_program_text.specs.declared.words.Refusal.TheVariants.{BadLine}
use Rattle.kfs_program_text.specs.Command.{New, Setup}
use Rattle.kfs_program_text.proofs.Readings.{new_steps}
use Rattle.kfs_program_text.proofs.Rows.{sizes_are}
use Rattle.kfs_program_text.proofs.command.read_new.Goals as goal

made : (o : Option TierSizes) (sizes : TierSizes) → ok_or o BadLine ≡ Ok sizes → option_map (λ s. Setup (New s)) o ≡ Some (Setup (New sizes))
made None sizes is = cc
made (Some s) sizes is = cc

pub returns : goal.returns
returns c =
    rw (new_steps, c.in_ok-first.ensures, c.in_ok-second.ensures, c.in_ok-third.ensures, c.in_ok-end.ensures)
    (sizes_are c.in_ok-first.first c.in_ok-second.second c.in_ok-third.third c.new.result c.new.ensures.in_range c.new.ensures.value
    ∙ made c.new.result c.in_ok-sizes.sizes (sym c.ok_or.ensures.value ∙ c.in_ok-sizes.was))
