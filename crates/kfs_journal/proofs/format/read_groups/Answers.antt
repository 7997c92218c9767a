use Rattle.std.proofs.Common.{rules, ◌≡◌, ℕ, ◌+◌, List, [], ◌∷◌, ◌++◌, refl, sym, ap, ◌∙◌, append_assoc, arith, length, length-append}
use Rattle.std.proofs.lemmas.List.{map_push}
use Rattle.std.proofs.lemmas.List.Sums.{sum_by_push}
use Rattle.kfs_journal.specs.Format.{recovered, records_len}
use Rattle.kfs_journal.specs.Journal.{groups_of}
use Rattle.kfs_journal.proofs.Fields.{group_takes}
use Rattle.kfs_journal.proofs.Records.{one_more, none_found, group_shorter, group_size}
use Rattle.kfs_journal.proofs.format.read_groups.Goals as goal

pub records-smaller : goal.records-smaller
records-smaller g c = group_shorter c.records.rest.now c.in-Some.group.now c.in-Some.after.now (sym c.in-Some.ensures)

pub records-preserved : goal.records-preserved
records-preserved g c =
    let so_far = c.records.invariant in
    let group = c.in-Some.group.now in
    let taken = group_takes c.records.rest.now group c.in-Some.after.now (sym c.in-Some.ensures) in
    let size = group_size c.records.rest.now group c.in-Some.after.now (sym c.in-Some.ensures) in
    let copy : c.in_ok-to_vec.field-0.items ≡ group = search rules in
    let groups : groups_of c.push.new.self.items ≡ groups_of c.records.groups.items ++ group ∷ [] =
    ap groups_of c.in_ok-push.ensures.items ∙ map_push _ c.records.groups.items c.in_ok-to_vec.field-0 ∙ ap (λ (l : List ℕ). groups_of c.records.groups.items ++ l ∷ []) copy in (
      so_far.0 ++ taken.front,
      so_far.1 ∙ ap (λ (l : List ℕ). so_far.0 ++ l) taken.parts ∙ sym (append_assoc so_far.0 taken.front c.in-Some.after.now),
      λ more. one_more so_far.0 (groups_of c.records.groups.items) taken.front group so_far.2 taken.again more ∙ ap (λ (gs : List (List ℕ)). gs ++ recovered more) (sym groups),
      omega (arith, so_far.3, ap records_len groups, sum_by_push (λ (g : List ℕ). length g + 5) (groups_of c.records.groups.items) group, length-append so_far.0 taken.front, ap length taken.parts, length-append taken.front c.in-Some.after.now, size),
    )

pub returns : goal.returns
returns g c =
    let so_far = c.records.invariant in
    record { records = so_far.0; end = c.records.rest.now; parts = so_far.1; are = so_far.2; len = so_far.3; nothing = none_found c.records.rest.now (sym c.in_default.ensures); size = refl }
