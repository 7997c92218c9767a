use Rattle.std.proofs.Common.{ap, Option, Some, None}
use Rattle.std.specs.Prelude.{IfNone}
use Rattle.kfs_model.specs.Table.{get}
use Rattle.kfs_maps.proofs.pages.pages.Pages.next_in.Goals as goal

if_none : {X P : Type 0} (o : Option X) → P → IfNone o P
if_none None p = p
if_none (Some x) p = tt

pub returns-in_err-page-clause-none : goal.returns-in_err-page-clause-none
unfolding get
returns-in_err-page-clause-none g c = if_none c.from_residual.result (λ m above. ap (λ t. get t m) c.in_err-page.ensures.none)
