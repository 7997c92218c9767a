use Rattle.std.proofs.Common.{◌≡◌, ◌∙◌, ℕ, ◌+◌, slice_index_or, List, drop, sym, ap, arith, length-drop}
use Rattle.std.proofs.lemmas.List.{get_or-drop, get_or_default}
use Rattle.kfs_maps.specs.declared.pages.change.NumberEdit.{NumberEdit}
use Rattle.kfs_maps.specs.Pages.Edits.{page_of}
use Rattle.kfs_maps.proofs.PagesLemmas.Numbers.{by_less}
use Rattle.kfs_maps.proofs.pages.change.run_of.Goals as goal

at_drop : {V : Type 0} (xs : List (NumberEdit V)) (r k : ℕ) (d : NumberEdit V) → page_of (slice_index_or (drop r xs) k d).number ≡ page_of (slice_index_or xs (r + k) d).number
at_drop xs r k d = ap (λ (e : NumberEdit _). page_of e.number) (get_or-drop r xs k d)

pub returns-then-page_of-index-clause-rest : goal.returns-then-page_of-index-clause-rest
returns-then-page_of-index-clause-rest g c k d below =
    let es = c.args.edits.now in
    let other : page_of (slice_index_or es c.loop-edit.run d).number ≡ c.args.index → ⊥ = λ same.
    c.if-page_of-index.true (c.page_of.ensures
    ∙ ap (λ (e : NumberEdit _). page_of e.number) (c.edit-item.is ∙ get_or_default es c.loop-edit.edit-index _ d c.loop-edit-test.true ∙ ap (λ i. slice_index_or es i d) (sym c.loop-edit.invariant.run)) ∙ same) in
    omega (arith, at_drop es c.loop-edit.run k d, other, c.requires.from c.loop-edit.run d (omega arith), c.requires.ascends c.loop-edit.run (c.loop-edit.run + k) d (omega arith) (omega (arith, below, length-drop c.loop-edit.run es)))

pub returns-then-page_of-index-clause-ascends : goal.returns-then-page_of-index-clause-ascends
returns-then-page_of-index-clause-ascends g c i j d le below =
    omega (arith, at_drop c.args.edits.now c.loop-edit.run i d, at_drop c.args.edits.now c.loop-edit.run j d, c.requires.ascends (c.loop-edit.run + i) (c.loop-edit.run + j) d (omega arith) (omega (arith, below, length-drop c.loop-edit.run c.args.edits.now)))

pub loop-edit-preserved : goal.loop-edit-preserved
loop-edit-preserved g c =
    let es = c.args.edits.now in
    let run = c.loop-edit.run in
    record {
      run = ap (λ n. n + 1) c.loop-edit.invariant.run;
      mine = λ k d below.
          by_less k run (c.loop-edit.invariant.mine k d)
          (λ from.
          ap (λ (e : NumberEdit _). page_of e.number) (ap (λ i. slice_index_or es i d) {x = k} {y = run} (omega (arith, below, from)))
          ∙ sym (c.page_of.ensures
          ∙ ap (λ (e : NumberEdit _). page_of e.number) (c.edit-item.is ∙ get_or_default es c.loop-edit.edit-index _ d c.loop-edit-test.true ∙ ap (λ i. slice_index_or es i d) (sym c.loop-edit.invariant.run)))
          ∙ c.if-page_of-index.false);
    }
