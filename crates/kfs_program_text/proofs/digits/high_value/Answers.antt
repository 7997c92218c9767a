use Rattle.kfs_program_text.proofs.Hexadecimals.{high_is}
use Rattle.kfs_program_text.proofs.digits.high_value.Goals as goal

pub returns : goal.returns
returns c = high_is c.args.digit c.ranges.digit.fits
