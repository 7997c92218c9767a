-- Each entry leaves the run of the ones behind it, and the first bad one is the answer.
use Rattle.std.proofs.Common.{◌≡◌, ℕ, ◌+◌, ◌*◌, ◌++◌, List, map, drop, length, ◌≤◌, ◌<◌, slice_index_or, Some, None, Ok, ap, sym, subst, ◌∙◌, arith}
use Rattle.std.proofs.lemmas.List.Elements.{All-from_recursion}
use Rattle.std.specs.Option.{option_map}
use Rattle.kfs_model.specs.Check.{first_fault, looked, checks_of}
use Rattle.kfs_model.specs.SeenAfter.{seen_after}
use Rattle.kfs_types.specs.Views.{entry_of, IsWithin}
use Rattle.kfs_types.specs.declared.entry.Entry.{Entry as CodeEntry}
use Rattle.kfs_types.specs.declared.entry.Span.{Span}
use Rattle.kfs_judge_reads.specs.Draft.Overlay.{over, entry_context_of, ChangesAreAmong}
use Rattle.kfs_judge_reads.specs.Reads.{Within}
use Rattle.kfs_judge.specs.Check.Checks.{reason_of}
use Rattle.kfs_judge.proofs.CheckLemmas.Entering.{RunsOn, runs_first, runs_next, runs_fails, runs_out}
use Rattle.kfs_judge.proofs.CheckLemmas.Looking.{LooksOn, looks_first, looks_next, looks_fails}
use Rattle.kfs_judge_reads.proofs.Recording.{goes_nowhere, goes_then}
use Rattle.kfs_judge_reads.proofs.DraftLemmas.Overlays.{shifts_wider}
use Rattle.kfs_judge.proofs.CheckLemmas.Lists.{map-drop-cons, map-drop-past}
use Rattle.kfs_judge.proofs.StepLemmas.ReachedFiles.{ReachesOn, reaches_first, reaches_next, reaches_out}
use Rattle.kfs_judge.specs.EntriesEntered.{AreWithin}
use Rattle.kfs_judge.proofs.walk.enter_all.Goals as goal

-- an entry's payload lies in the source
span_within : (source : List ℕ) (entries : List (CodeEntry Span (List ℕ))) (i : ℕ) (item : CodeEntry Span (List ℕ)) → i < length entries → item ≡ slice_index_or entries i item → AreWithin source entries → IsWithin (length source) item
span_within source entries i item inside is within =
    subst (IsWithin (length source)) (sym is) (All-from_recursion (IsWithin (length source)) entries within i item inside)

pub loop-index-init : goal.loop-index-init
loop-index-init g c = record {
  client = λ i. c.args.judge.now.client.now;
  goes = goes_nowhere c.args.judge.now.recorder;
  shifts = c.requires.shifts;
  runs = λ source within. runs_first c.args.judge.now.client.now c.args.judge.now.draft c.args.judge.now.recorder.reads.entries (map (entry_of source) c.args.entries.now) c.requires.shown c.requires.created;
  reached = λ source within. reaches_first c.args.judge.now.draft (map (entry_of source) c.args.entries.now);
  looks = λ source within. looks_first c.args.judge.now.client.now c.args.judge.now.draft c.args.judge.now.recorder.reads.entries (map (entry_of source) c.args.entries.now) c.requires.shown c.requires.created c.requires.written;
}

pub enter-requires : goal.enter-requires
enter-requires g c = shifts_wider c.loop-index.judge.draft (3 * c.loop-index.index) 2147483644 (omega (arith, c.loop-index-test.true, c.requires.count)) c.loop-index.invariant.shifts

pub returns-in_err-reason-clause-goes : goal.returns-in_err-reason-clause-goes
returns-in_err-reason-clause-goes g c = goes_then c.loop-index.invariant.goes c.in_err-reason.ensures.goes

pub returns-in-Some-clause-goes : goal.returns-in-Some-clause-goes
returns-in-Some-clause-goes g c = goes_then c.loop-index.invariant.goes c.in_ok-reason.ensures.goes

pub returns-in_err-reason-clause-client : goal.returns-in_err-reason-clause-client
returns-in_err-reason-clause-client g c = c.in_err-reason.ensures.client ∙ c.loop-index.invariant.client

pub returns-in-Some-clause-client : goal.returns-in-Some-clause-client
returns-in-Some-clause-client g c = c.in_ok-reason.ensures.client ∙ c.loop-index.invariant.client

pub returns-in-Some-clause-known : goal.returns-in-Some-clause-known
returns-in-Some-clause-known g c state agrees source within =
    let client = c.args.judge.now.client.now in
    let item = c.index-entries-index.result in
    let here = c.in_ok-reason.ensures.entered source (span_within source c.args.entries.now c.loop-index.index item c.loop-index-test.true c.index-entries-index.is within) in
    let rest = map (entry_of source) (drop (c.loop-index.index + 1) c.args.entries.now) in
    let on = subst (λ es. RunsOn client c.loop-index.judge.draft c.loop-index.judge.recorder.reads.entries (map (entry_of source) c.args.entries.now) es c.loop-index.index)
    (map-drop-cons (entry_of source) c.args.entries.now c.loop-index.index item c.loop-index-test.true c.index-entries-index.is) (c.loop-index.invariant.runs source within) in
    runs_fails client c.loop-index.judge.draft c.loop-index.judge.recorder.reads.entries c.enter.new.self.recorder.reads.entries (map (entry_of source) c.args.entries.now) rest (entry_of source item) c.loop-index.index (reason_of c.in-Some.reason)
    on c.in_ok-reason.ensures.goes.grows
    (λ s a. subst (λ cl. first_fault (entry_context_of cl c.loop-index.judge.draft s) (entry_of source item) ≡ Some (reason_of c.in-Some.reason)) c.loop-index.invariant.client (here.known s a ∙ ap (option_map reason_of) c.in-Some.is))
    state agrees

pub returns-in-Some-clause-among : goal.returns-in-Some-clause-among
returns-in-Some-clause-among g c state agrees source within =
    let client = c.args.judge.now.client.now in
    let item = c.index-entries-index.result in
    let here = c.in_ok-reason.ensures.entered source (span_within source c.args.entries.now c.loop-index.index item c.loop-index-test.true c.index-entries-index.is within) in
    let rest = map (entry_of source) (drop (c.loop-index.index + 1) c.args.entries.now) in
    let on = subst (λ es. LooksOn client c.loop-index.judge.draft c.args.judge.now.recorder.reads.entries c.loop-index.judge.recorder.reads.entries (map (entry_of source) c.args.entries.now) es)
    (map-drop-cons (entry_of source) c.args.entries.now c.loop-index.index item c.loop-index-test.true c.index-entries-index.is) (c.loop-index.invariant.looks source within) in
    looks_fails client c.loop-index.judge.draft c.args.judge.now.recorder.reads.entries c.loop-index.judge.recorder.reads.entries c.enter.new.self.recorder.reads.entries (map (entry_of source) c.args.entries.now) rest (entry_of source item)
    on c.in_ok-reason.ensures.goes.grows
    (λ s a. subst (λ cl. Within c.loop-index.judge.recorder.reads.entries c.enter.new.self.recorder.reads.entries (looked (entry_context_of cl c.loop-index.judge.draft s) (checks_of (entry_context_of cl c.loop-index.judge.draft s) (entry_of source item)))) c.loop-index.invariant.client (here.among s a))
    state agrees

pub loop-index-preserved : goal.loop-index-preserved
loop-index-preserved g c = record {
  client = c.in_ok-reason.ensures.client ∙ c.loop-index.invariant.client;
  goes = goes_then c.loop-index.invariant.goes c.in_ok-reason.ensures.goes;
  shifts = shifts_wider c.enter.new.self.draft (3 * c.loop-index.index + 3) (3 * (c.loop-index.index + 1)) (omega arith) (c.in_ok-reason.ensures.shifts (ap Ok c.in_default.is) (3 * c.loop-index.index) c.loop-index.invariant.shifts);
  runs = λ source within.
      let client = c.args.judge.now.client.now in
      let item = c.index-entries-index.result in
      let here = c.in_ok-reason.ensures.entered source (span_within source c.args.entries.now c.loop-index.index item c.loop-index-test.true c.index-entries-index.is within) in
      let rest = map (entry_of source) (drop (c.loop-index.index + 1) c.args.entries.now) in
      let on = subst (λ es. RunsOn client c.loop-index.judge.draft c.loop-index.judge.recorder.reads.entries (map (entry_of source) c.args.entries.now) es c.loop-index.index)
      (map-drop-cons (entry_of source) c.args.entries.now c.loop-index.index item c.loop-index-test.true c.index-entries-index.is) (c.loop-index.invariant.runs source within) in
      runs_next client c.loop-index.judge.draft c.enter.new.self.draft c.loop-index.judge.recorder.reads.entries c.enter.new.self.recorder.reads.entries (map (entry_of source) c.args.entries.now) rest (entry_of source item) c.loop-index.index
      on c.in_ok-reason.ensures.goes.grows
      (λ s a. subst (λ cl. first_fault (entry_context_of cl c.loop-index.judge.draft s) (entry_of source item) ≡ None) c.loop-index.invariant.client (here.known s a ∙ ap (option_map reason_of) c.in_default.is))
      (λ s a. subst (λ cl. over c.enter.new.self.draft s.sight ≡ seen_after cl (over c.loop-index.judge.draft s.sight) (entry_of source item)) c.loop-index.invariant.client ((here.change (ap Ok c.in_default.is)).shown s a))
      ((here.change (ap Ok c.in_default.is)).created);
  reached = λ source within.
      let item = c.index-entries-index.result in
      let here = (c.in_ok-reason.ensures.entered source (span_within source c.args.entries.now c.loop-index.index item c.loop-index-test.true c.index-entries-index.is within)).change (ap Ok c.in_default.is) in
      let on = subst (λ es. ReachesOn c.loop-index.judge.draft (map (entry_of source) c.args.entries.now) es)
      (map-drop-cons (entry_of source) c.args.entries.now c.loop-index.index item c.loop-index-test.true c.index-entries-index.is) (c.loop-index.invariant.reached source within) in
      reaches_next c.loop-index.judge.draft c.enter.new.self.draft (entry_of source item) (map (entry_of source) c.args.entries.now) (map (entry_of source) (drop (c.loop-index.index + 1) c.args.entries.now)) on here.kept here.reached;
  looks = λ source within.
      let client = c.args.judge.now.client.now in
      let item = c.index-entries-index.result in
      let here = c.in_ok-reason.ensures.entered source (span_within source c.args.entries.now c.loop-index.index item c.loop-index-test.true c.index-entries-index.is within) in
      let rest = map (entry_of source) (drop (c.loop-index.index + 1) c.args.entries.now) in
      let on = subst (λ es. LooksOn client c.loop-index.judge.draft c.args.judge.now.recorder.reads.entries c.loop-index.judge.recorder.reads.entries (map (entry_of source) c.args.entries.now) es)
      (map-drop-cons (entry_of source) c.args.entries.now c.loop-index.index item c.loop-index-test.true c.index-entries-index.is) (c.loop-index.invariant.looks source within) in
      looks_next client c.loop-index.judge.draft c.enter.new.self.draft c.args.judge.now.recorder.reads.entries c.loop-index.judge.recorder.reads.entries c.enter.new.self.recorder.reads.entries (map (entry_of source) c.args.entries.now) rest (entry_of source item)
      on c.in_ok-reason.ensures.goes.grows
      (λ s a. subst (λ cl. first_fault (entry_context_of cl c.loop-index.judge.draft s) (entry_of source item) ≡ None) c.loop-index.invariant.client (here.known s a ∙ ap (option_map reason_of) c.in_default.is))
      (λ s a. subst (λ cl. Within c.loop-index.judge.recorder.reads.entries c.enter.new.self.recorder.reads.entries (looked (entry_context_of cl c.loop-index.judge.draft s) (checks_of (entry_context_of cl c.loop-index.judge.draft s) (entry_of source item)))) c.loop-index.invariant.client (here.among s a))
      (λ s a. subst (λ cl. over c.enter.new.self.draft s.sight ≡ seen_after cl (over c.loop-index.judge.draft s.sight) (entry_of source item)) c.loop-index.invariant.client ((here.change (ap Ok c.in_default.is)).shown s a))
      ((here.change (ap Ok c.in_default.is)).created)
      (λ s a among written. subst (λ cl. ChangesAreAmong c.enter.new.self.draft (looked (entry_context_of cl c.loop-index.judge.draft s) (checks_of (entry_context_of cl c.loop-index.judge.draft s) (entry_of source item)) ++ among)) c.loop-index.invariant.client ((here.change (ap Ok c.in_default.is)).written s a among written));
}

pub returns-clause-known : goal.returns-clause-known
returns-clause-known g c state agrees source within =
    let client = c.args.judge.now.client.now in
    let past : length c.args.entries.now ≤ c.loop-index.index = omega arith in
    let on = subst (λ es. RunsOn client c.loop-index.judge.draft c.loop-index.judge.recorder.reads.entries (map (entry_of source) c.args.entries.now) es c.loop-index.index)
    (map-drop-past (entry_of source) c.args.entries.now c.loop-index.index past) (c.loop-index.invariant.runs source within) in
    runs_out client c.loop-index.judge.draft c.loop-index.judge.recorder.reads.entries (map (entry_of source) c.args.entries.now) c.loop-index.index on state agrees

pub returns-clause-among : goal.returns-clause-among
returns-clause-among g c state agrees source within = ((c.loop-index.invariant.looks source within).looks state agrees).reads_among

pub returns-clause-written : goal.returns-clause-written
returns-clause-written g c _ state agrees source within = ((c.loop-index.invariant.looks source within).looks state agrees).written_among

pub returns-clause-reached : goal.returns-clause-reached
returns-clause-reached g c _ source within =
    let past : length c.args.entries.now ≤ c.loop-index.index = omega arith in
    reaches_out c.loop-index.judge.draft (map (entry_of source) c.args.entries.now)
    (subst (λ es. ReachesOn c.loop-index.judge.draft (map (entry_of source) c.args.entries.now) es) (map-drop-past (entry_of source) c.args.entries.now c.loop-index.index past) (c.loop-index.invariant.reached source within))
