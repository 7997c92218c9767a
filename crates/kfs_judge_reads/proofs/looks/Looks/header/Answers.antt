-- A header that is remembered is the view's, and so is the one that is looked up.
use Rattle.std.proofs.Common.{◌≡◌, ⊎_elim, ap, subst, sym, ◌∙◌}
use Rattle.std.specs.Option.{option_map}
use Rattle.std.proofs.lemmas.Bool.{eqb-true}
use Rattle.kfs_model.specs.Table.{get}
use Rattle.kfs_types.specs.Views.{header_of}
use Rattle.kfs_judge_reads.specs.View.{contents_of}
use Rattle.kfs_judge_reads.proofs.looks.Looks.header.Goals as goal

pub returns-in-Some-clause-header : goal.returns-in-Some-clause-header
returns-in-Some-clause-header g c =
    let remembered = c.in-Some.ensures in
    let heads = (contents_of c.args.self.now.view.now).heads in
    subst (λ number. option_map header_of c.in-Some.header ≡ get heads number) (eqb-true remembered.0 c.args.number remembered.1) (c.args.self.now.headers_are_right remembered.0 c.in-Some.header remembered.2)

pub invariant_of-self : goal.invariant_of-self
invariant_of-self g c = record {
  headers_are_right = λ number header there.
      ⊎_elim (λ earlier. c.args.self.now.headers_are_right number header earlier)
      (λ is. ap (option_map header_of) is.1 ∙ c.header-header.ensures ∙ ap (get (contents_of c.args.self.now.view.now).heads) (sym is.0))
      (c.put.ensures number header there);
  names_are_right = c.args.self.now.names_are_right;
}
