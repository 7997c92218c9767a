use Rattle.std.proofs.Common.{◌≡◌, [], ◌∷◌, not, true, T, sym, ap, subst, ◌∙◌}
use Rattle.std.specs.declared.cmp.Ordering.TheVariants.{Less}
use Rattle.std.specs.Ordering.{nat_cmp, is_lt, is_gt}
use Rattle.std.specs.Cmp.Lexicographic.{slice_cmp}
use Rattle.kfs_model.specs.Tree.{name_order}
use Rattle.kfs_model.proofs.Counts.{is_less}
use Rattle.kfs_image_nodes.specs.Look.{IsAfter}
use Rattle.kfs_image_nodes.proofs.NameOrder.{behind_in_directory, in_directory, least_of_names}
use Rattle.kfs_image_nodes.proofs.rows.start_after.Goals as goal

pub returns-in-Some-clause-within : goal.returns-in-Some-clause-within
returns-in-Some-clause-within c = λ m name later.
    let less : slice_cmp nat_cmp c.in-Some.name.now m ≡ Less = subst (λ after. IsAfter after m) c.in-Some.is later in
    ap (λ key. is_gt (name_order.compare (c.args.dir, m) key)) c.name_key.ensures.key ∙ behind_in_directory c.args.dir c.in-Some.name.now m ∙ ap is_lt less

pub returns-in-Some-clause-later : goal.returns-in-Some-clause-later
returns-in-Some-clause-later c = λ m from.
    let less : is_lt (slice_cmp nat_cmp c.in-Some.name.now m) ≡ true = sym (ap (λ key. is_gt (name_order.compare (c.args.dir, m) key)) c.name_key.ensures.key ∙ behind_in_directory c.args.dir c.in-Some.name.now m) ∙ from in
    subst (λ after. IsAfter after m) (sym c.in-Some.is) (is_less _ (subst T (sym less) tt))

pub returns-in-None-clause-within : goal.returns-in-None-clause-within
returns-in-None-clause-within c = λ m name later.
    ap (λ least. not (is_lt (name_order.compare (c.args.dir, m) (c.args.dir, least)))) c.least_name.ensures
    ∙ ap (λ o. not (is_lt o)) (in_directory c.args.dir m (1 ∷ []))
    ∙ ap not (least_of_names m name)
