-- A name that is remembered leads where the view says, and so does the one that is looked up.
use Rattle.std.proofs.Common.{◌≡◌, ℕ, List, ⊎_elim, ap, subst, sym, ◌∙◌}
use Rattle.std.proofs.lemmas.Map.Views.{tells_apart}
use Rattle.kfs_model.specs.Tree.{name_order, target}
use Rattle.kfs_judge_reads.specs.View.{contents_of}
use Rattle.kfs_judge_reads.proofs.looks.Looks.target.Goals as goal

pub returns-in-Some-clause-target : goal.returns-in-Some-clause-target
returns-in-Some-clause-target g c =
    let remembered = c.in-Some.ensures in
    let names = (contents_of c.args.self.now.view.now).names in
    subst (λ (key : ℕ × List ℕ). c.in-Some.number ≡ target names key.0 key.1) (tells_apart name_order.exact remembered.0 c.args.key.now remembered.1) (c.args.self.now.names_are_right remembered.0 c.in-Some.number remembered.2)

pub invariant_of-self : goal.invariant_of-self
invariant_of-self g c =
    let names = (contents_of c.args.self.now.view.now).names in
    record {
      headers_are_right = c.args.self.now.headers_are_right;
      names_are_right = λ key number there.
          ⊎_elim (λ earlier. c.args.self.now.names_are_right key number earlier)
          (λ is. is.1 ∙ c.look_up-number.ensures ∙ ap (λ (k : ℕ × List ℕ). target names k.0 k.1) (sym (is.0 ∙ c.again.ensures)))
          (c.put.ensures key number there);
    }
