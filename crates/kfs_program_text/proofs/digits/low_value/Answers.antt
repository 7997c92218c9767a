use Rattle.kfs_program_text.proofs.Hexadecimals.{low_is}
use Rattle.kfs_program_text.proofs.digits.low_value.Goals as goal

pub returns : goal.returns
returns c = low_is c.args.digit c.ranges.digit.fits
