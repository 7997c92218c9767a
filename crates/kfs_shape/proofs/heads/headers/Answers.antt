use Rattle.std.proofs.Common.{sym, ap, ◌∙◌}
use Rattle.kfs_types.specs.Views.{header_of}
use Rattle.kfs_model.specs.Table.{get}
use Rattle.kfs_model.proofs.TableLaws.{get-mapped}
use Rattle.kfs_shape.proofs.heads.headers.Goals as goal

pub returns-clause-shown : goal.returns-clause-shown
returns-clause-shown g c number = sym (get-mapped (λ number header. header_of header) c.in_ok-headers.headers number) ∙ ap (λ heads. get heads number) c.in_ok-headers.ensures
