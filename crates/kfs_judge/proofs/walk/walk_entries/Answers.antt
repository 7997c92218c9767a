-- The run of the entries, and the net of the draft that they leave.
use Rattle.std.proofs.Common.{◌≡◌, map, Some, None, Ok, subst, ap, sym, ◌∙◌}
use Rattle.std.specs.Option.{option_map}
use Rattle.kfs_types.specs.Views.{entry_of}
use Rattle.kfs_model.specs.Looked.{looked_cells}
use Rattle.kfs_judge_reads.specs.Draft.Overlay.{over, ChangesAreAmong}
use Rattle.kfs_judge_reads.specs.Kept.{ReadsShown}
use Rattle.kfs_judge_reads.specs.Reads.{Agrees, AreAmong, AreOnce}
use Rattle.kfs_judge_reads.specs.View.{clients_of, client_sight_in}
use Rattle.kfs_judge.specs.Step.FileSizes.{AreSizesOver, HasFilesOf}
use Rattle.kfs_judge.specs.EntriesEntered.{AreWithin}
use Rattle.kfs_judge.specs.Walks.{EndsAt}
use Rattle.kfs_judge.proofs.CheckLemmas.Lists.{row_has_number, one_row}
use Rattle.kfs_judge_reads.proofs.Recording.{agrees_from_none, among_from_none, once_from_none, goes_then, within_then}
use Rattle.kfs_judge.proofs.walk.walk_entries.Goals as goal

listed : {one other : ReadsShown} → one ≡ other → one.entries ≡ other.entries
listed same = ap (λ (r : ReadsShown). r.entries) same

keeping : {one other : ReadsShown} → one ≡ other → one.keeps ≡ other.keeps
keeping same = ap (λ (r : ReadsShown). r.keeps) same

pub returns-in-Some-clause-known : goal.returns-in-Some-clause-known
returns-in-Some-clause-known g c = (
  c.unwrap-client.result.now,
  sym c.client.ensures ∙ ap (option_map (λ r. r.now)) c.unwrap-client.ensures,
  λ state agrees source within.
      subst (λ cl. EndsAt cl c.enter_all.new.judge.draft state (map (entry_of source) c.args.log.now.entries) (Some c.in-Some.fault)) c.new-judge.ensures.client
      (subst (λ es. EndsAt c.new-judge.result.client.now c.enter_all.new.judge.draft state (map (entry_of source) es) (Some c.in-Some.fault)) c.as_slice.ensures
      (subst (λ f. EndsAt c.new-judge.result.client.now c.enter_all.new.judge.draft state (map (entry_of source) c.as_slice.result.now) f) c.in-Some.is
      (c.in_ok-fault.ensures.known state (subst (λ es. Agrees es state) (listed c.into_reads.ensures) agrees) source (subst (AreWithin source) (sym c.as_slice.ensures) within)))),
)

pub returns-in-Some-clause-view_agrees : goal.returns-in-Some-clause-view_agrees
returns-in-Some-clause-view_agrees g c =
    let row = sym c.client.ensures ∙ ap (option_map (λ r. r.now)) c.unwrap-client.ensures in
    let shown = client_sight_in c.args.view.now c.args.log.now.client in
    let seen = c.new-judge.ensures.seen ∙ ap (client_sight_in c.args.view.now) (row_has_number (clients_of c.args.view.now) c.args.log.now.client c.unwrap-client.result.now row) in
    subst (λ es. Agrees es shown) (sym (listed c.into_reads.ensures)) (agrees_from_none shown c.new-judge.result.recorder c.enter_all.new.judge.recorder (listed c.new-judge.ensures.reads ∙ c.requires.none) seen c.in_ok-fault.ensures.goes)

pub returns-in-Some-clause-once : goal.returns-in-Some-clause-once
returns-in-Some-clause-once g c kept = subst AreOnce (sym (listed c.into_reads.ensures)) (once_from_none (client_sight_in c.args.view.now c.args.log.now.client) c.new-judge.result.recorder c.enter_all.new.judge.recorder (listed c.new-judge.ensures.reads ∙ c.requires.none) (keeping c.new-judge.ensures.reads ∙ kept) c.in_ok-fault.ensures.goes)

pub returns-in-Some-clause-keeps : goal.returns-in-Some-clause-keeps
returns-in-Some-clause-keeps g c = keeping c.into_reads.ensures ∙ c.in_ok-fault.ensures.goes.keeps ∙ keeping c.new-judge.ensures.reads

pub returns-in-Some-clause-among : goal.returns-in-Some-clause-among
returns-in-Some-clause-among g c client is source within =
    let row = sym c.client.ensures ∙ ap (option_map (λ r. r.now)) c.unwrap-client.ensures in
    let shown = client_sight_in c.args.view.now c.args.log.now.client in
    let seen = c.new-judge.ensures.seen ∙ ap (client_sight_in c.args.view.now) (row_has_number (clients_of c.args.view.now) c.args.log.now.client c.unwrap-client.result.now row) in
    let agrees = agrees_from_none shown c.new-judge.result.recorder c.enter_all.new.judge.recorder (listed c.new-judge.ensures.reads ∙ c.requires.none) seen c.in_ok-fault.ensures.goes in
    let same = c.new-judge.ensures.client ∙ one_row (clients_of c.args.view.now) c.args.log.now.client c.unwrap-client.result.now client row is in
    subst (λ reads. AreAmong reads (looked_cells client shown (map (entry_of source) c.args.log.now.entries))) (sym (listed c.into_reads.ensures))
    (subst (λ cl. AreAmong c.enter_all.new.judge.recorder.reads.entries (looked_cells cl shown (map (entry_of source) c.args.log.now.entries))) same
    (subst (λ es. AreAmong c.enter_all.new.judge.recorder.reads.entries (looked_cells c.new-judge.result.client.now shown (map (entry_of source) es))) c.as_slice.ensures
    (among_from_none shown c.new-judge.result.recorder c.enter_all.new.judge.recorder (listed c.new-judge.ensures.reads ∙ c.requires.none) _ (c.in_ok-fault.ensures.among shown agrees source (subst (AreWithin source) (sym c.as_slice.ensures) within)))))

pub returns-clause-known : goal.returns-clause-known
returns-clause-known g c = (
  c.unwrap-client.result.now,
  sym c.client.ensures ∙ ap (option_map (λ r. r.now)) c.unwrap-client.ensures,
  λ state agrees source within.
      let sized = subst (λ es. Agrees es state) (listed c.into_reads-2.ensures) agrees in
      let agreed = c.in_ok-sizes.ensures.looks.goes.grows state sized in
      let inside = subst (AreWithin source) (sym c.as_slice.ensures) within in
      let files = subst (λ es. HasFilesOf c.enter_all.new.judge.draft (map (entry_of source) es)) c.as_slice.ensures (c.in_ok-fault.ensures.reached (ap Ok c.in_default.is) source inside) in
      let sizes = subst (λ d. AreSizesOver d state.sight c.in_ok-sizes.sizes.items) c.in_ok-net.ensures.draft (c.in_ok-sizes.ensures.looks.known state sized) in (
        over c.enter_all.new.judge.draft state.sight,
        subst (λ cl. EndsAt cl c.enter_all.new.judge.draft state (map (entry_of source) c.args.log.now.entries) None) c.new-judge.ensures.client
            (subst (λ es. EndsAt c.new-judge.result.client.now c.enter_all.new.judge.draft state (map (entry_of source) es) None) c.as_slice.ensures
            (subst (λ f. EndsAt c.new-judge.result.client.now c.enter_all.new.judge.draft state (map (entry_of source) c.as_slice.result.now) f) c.in_default.is
            (c.in_ok-fault.ensures.known state (c.in_ok-net.ensures.looks.goes.grows state agreed) source inside))),
        c.in_ok-net.ensures.looks.known state agreed,
        sizes (map (entry_of source) c.args.log.now.entries) files,
      ),
)

pub returns-clause-view_agrees : goal.returns-clause-view_agrees
returns-clause-view_agrees g c =
    let row = sym c.client.ensures ∙ ap (option_map (λ r. r.now)) c.unwrap-client.ensures in
    let shown = client_sight_in c.args.view.now c.args.log.now.client in
    let seen = c.new-judge.ensures.seen ∙ ap (client_sight_in c.args.view.now) (row_has_number (clients_of c.args.view.now) c.args.log.now.client c.unwrap-client.result.now row) in
    subst (λ es. Agrees es shown) (sym (listed c.into_reads-2.ensures)) (agrees_from_none shown c.new-judge.result.recorder c.sizes.new.self.recorder (listed c.new-judge.ensures.reads ∙ c.requires.none) seen (goes_then c.in_ok-fault.ensures.goes (goes_then c.in_ok-net.ensures.looks.goes c.in_ok-sizes.ensures.looks.goes)))

pub returns-clause-once : goal.returns-clause-once
returns-clause-once g c kept = subst AreOnce (sym (listed c.into_reads-2.ensures)) (once_from_none (client_sight_in c.args.view.now c.args.log.now.client) c.new-judge.result.recorder c.sizes.new.self.recorder (listed c.new-judge.ensures.reads ∙ c.requires.none) (keeping c.new-judge.ensures.reads ∙ kept) (goes_then c.in_ok-fault.ensures.goes (goes_then c.in_ok-net.ensures.looks.goes c.in_ok-sizes.ensures.looks.goes)))

pub returns-clause-keeps : goal.returns-clause-keeps
returns-clause-keeps g c = keeping c.into_reads-2.ensures ∙ (goes_then c.in_ok-fault.ensures.goes (goes_then c.in_ok-net.ensures.looks.goes c.in_ok-sizes.ensures.looks.goes)).keeps ∙ keeping c.new-judge.ensures.reads

pub returns-clause-among : goal.returns-clause-among
returns-clause-among g c client is source within =
    let row = sym c.client.ensures ∙ ap (option_map (λ r. r.now)) c.unwrap-client.ensures in
    let shown = client_sight_in c.args.view.now c.args.log.now.client in
    let seen = c.new-judge.ensures.seen ∙ ap (client_sight_in c.args.view.now) (row_has_number (clients_of c.args.view.now) c.args.log.now.client c.unwrap-client.result.now row) in
    let agrees = agrees_from_none shown c.new-judge.result.recorder c.enter_all.new.judge.recorder (listed c.new-judge.ensures.reads ∙ c.requires.none) seen c.in_ok-fault.ensures.goes in
    let cells = looked_cells c.new-judge.result.client.now shown (map (entry_of source) c.as_slice.result.now) in
    let inside = subst (AreWithin source) (sym c.as_slice.ensures) within in
    let front = c.in_ok-fault.ensures.among shown agrees source inside in
    let written = c.in_ok-fault.ensures.written (ap Ok c.in_default.is) shown agrees source inside in
    let back = within_then (c.in_ok-net.ensures.looks.among cells written) (c.in_ok-sizes.ensures.looks.among cells (subst (λ d. ChangesAreAmong d cells) (sym c.in_ok-net.ensures.draft) written)) in
    let same = c.new-judge.ensures.client ∙ one_row (clients_of c.args.view.now) c.args.log.now.client c.unwrap-client.result.now client row is in
    subst (λ reads. AreAmong reads (looked_cells client shown (map (entry_of source) c.args.log.now.entries))) (sym (listed c.into_reads-2.ensures))
    (subst (λ cl. AreAmong c.sizes.new.self.recorder.reads.entries (looked_cells cl shown (map (entry_of source) c.args.log.now.entries))) same
    (subst (λ es. AreAmong c.sizes.new.self.recorder.reads.entries (looked_cells c.new-judge.result.client.now shown (map (entry_of source) es))) c.as_slice.ensures
    (among_from_none shown c.new-judge.result.recorder c.sizes.new.self.recorder (listed c.new-judge.ensures.reads ∙ c.requires.none) cells (within_then front back))))
