use Rattle.std.proofs.Common.{cond, Some, None, sym, ap, ◌∙◌}
use Rattle.kfs_model.specs.Sight.{is_directory}
use Rattle.kfs_shape.proofs.Tests.{merged_none}
use Rattle.kfs_shape.proofs.heads.least_missing_root.Goals as goal

pub returns : goal.returns
returns g c = sym (merged_none c.noted.result) ∙ c.noted.ensures None ∙ ap (λ b. cond b None (Some 1)) (c.has_directory.ensures ∙ ap is_directory (c.requires 1))
