use Rattle.kfs_maps.proofs.PagesLemmas.Groups.{copied_held}
use Rattle.kfs_maps.proofs.pages.page.GroupClone.clone.Goals as goal

pub returns : goal.returns
returns g c = record { cases = copied_held _ (λ a b same. same) (λ a none. none) (λ b none. none) c.args.self.now.pages.items c.in_ok-clone.field-0.items c.in_ok-clone.ensures.cases.0 }
