use Rattle.std.proofs.Common.{◌≡◌, ℕ, true, None, sym, subst, ◌∙◌}
use Rattle.std.specs.declared.ops.Bound.TheVariants.{Excluded}
use Rattle.kfs_model.specs.Table.{pairs, numbers, get}
use Rattle.kfs_model.specs.Placement.{Place}
use Rattle.kfs_maps.specs.Chunks.Starts.{is_from, IsNextEntry}
use Rattle.kfs_image.proofs.EncodeLemmas.RunExtents.{run_goes_on, run_ends, run_is_last, next_is_small}
use Rattle.kfs_image.proofs.encode.extents.goes_on.Goals as goal

pub returns-in-Some-clause-on : goal.returns-in-Some-clause-on
returns-in-Some-clause-on g c on =
    let image = c.args.image.now in
    let run = c.args.run.now in
    let entry : (ℕ × ℕ) × Place = c.in-Some.mapped in
    let next = subst (λ last. IsNextEntry (pairs numbers numbers).compare (Excluded last) image.placement.entries entry.0 entry.1) c.last.ensures c.in-Some.ensures.found in
    run_goes_on image run entry next (sym c.is_next.ensures ∙ on)

pub returns-in-Some-clause-small : goal.returns-in-Some-clause-small
returns-in-Some-clause-small g c on =
    let image = c.args.image.now in
    let run = c.args.run.now in
    let entry : (ℕ × ℕ) × Place = c.in-Some.mapped in
    let next = subst (λ last. IsNextEntry (pairs numbers numbers).compare (Excluded last) image.placement.entries entry.0 entry.1) c.last.ensures c.in-Some.ensures.found in
    next_is_small image c.requires.lawful run entry next (sym c.is_next.ensures ∙ on)

pub returns-in-Some-clause-end : goal.returns-in-Some-clause-end
returns-in-Some-clause-end g c off =
    let image = c.args.image.now in
    let run = c.args.run.now in
    let entry : (ℕ × ℕ) × Place = c.in-Some.mapped in
    let next = subst (λ last. IsNextEntry (pairs numbers numbers).compare (Excluded last) image.placement.entries entry.0 entry.1) c.last.ensures c.in-Some.ensures.found in
    run_ends image run entry next (sym c.is_next.ensures ∙ off)

pub returns-in-None-clause-end : goal.returns-in-None-clause-end
returns-in-None-clause-end g c off =
    let image = c.args.image.now in
    run_is_last image c.args.run.now
    (subst (λ last. (q : ℕ × ℕ) → is_from (pairs numbers numbers).compare (Excluded last) q ≡ true → get image.placement q ≡ None) c.last.ensures c.in-None.ensures.none)
