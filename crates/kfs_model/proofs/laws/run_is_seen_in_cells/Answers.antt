use Rattle.std.proofs.Common.{[]}
use Rattle.kfs_model.specs.Run.{over_bytes}
use Rattle.kfs_model.proofs.SeenRun.{run_is_seen, run_keeps_sound, bytes_faithful}
use Rattle.kfs_model.proofs.Ends.{each_end}
use Rattle.kfs_model.proofs.laws.run_is_seen_in_cells.Goals as goal

pub returns-clause-seen : goal.returns-clause-seen
returns-clause-seen c client before tree entries fits = run_is_seen over_bytes bytes_faithful client before fits.in_range 0 [] tree fits.version entries fits.sound fits.fitting

pub returns-clause-sound : goal.returns-clause-sound
returns-clause-sound c client before tree entries fits = each_end _ _ (run_keeps_sound over_bytes bytes_faithful client before fits.in_range 0 [] tree fits.version entries fits.sound fits.fitting)
