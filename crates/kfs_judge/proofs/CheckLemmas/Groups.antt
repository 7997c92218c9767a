-- Checks that are made one group after another: what each group finds and reads, put together.
use Rattle.std.specs.Prelude.{◌≡◌, ℕ, List, [], ◌∷◌, ◌++◌, Option, Some, None, is_some, Ok, refl}
use Rattle.std.specs.Option.{option_map}
use Rattle.std.specs.declared.alloc.AllocError.{AllocError}
use Rattle.std.proofs.Common.{ap, sym, subst, ◌∙◌}
use Rattle.kfs_model.specs.Check as checks
use Rattle.kfs_model.specs.Check.{EntryContext, Check, fault, first_failing, looked}
use Rattle.kfs_model.specs.Sight.{Cell, ClientSight, NameIn}
use Rattle.kfs_judge.specs.declared.check.check.Reason.{Reason}
use Rattle.kfs_judge.specs.declared.check.check.Reason.TheVariants.{NoSuchName}
use Rattle.kfs_judge.specs.declared.check.entry_judge.EntryJudge.{EntryJudge}
use Rattle.kfs_judge_reads.specs.declared.reads.Recorder.{Recorder}
use Rattle.kfs_judge.specs.Check.Checks.{reason_of, entry_context_in, JudgesAll}
use Rattle.kfs_judge_reads.specs.Recorders.{Known, AnswersLook, ReadsAt}
use Rattle.kfs_judge.proofs.CheckLemmas.Failing.{failing-in_front, failing-in_back, failing-passes, failing-fails, failing-none}
use Rattle.kfs_judge.proofs.CheckLemmas.Looking.{front_is_looked, back_is_looked, looks_here}
use Rattle.kfs_judge_reads.proofs.Recording.{goes_then, within_then, within_wider}

module _ {A : Type 0} (judge : EntryJudge A) where
  -- the checks find this, in the reads from one recorder to another
  abbrev Finds : (old new : Recorder A) → Option Reason → (EntryContext → List Check) → Type 0
  Finds old new found listed = JudgesAll judge {E = AllocError} old new (Ok found) listed

  pub found_is : {old new : Recorder A} (listed : EntryContext → List Check) (found told : Option Reason) → found ≡ told → Finds old new found listed → Finds old new told listed
  found_is {old} {new} listed found told is finds = subst (λ r. Finds old new r listed) is finds

  -- ---- two groups

  module _ (front back : EntryContext → List Check) where
    -- a check of the first group fails
    pub front_fails : {old new : Recorder A} (reason : Reason) → Finds old new (Some reason) front → Finds old new (Some reason) (λ p. front p ++ back p)
    front_fails reason finds = record {
      goes = finds.goes;
      known = λ state agrees. let p = entry_context_in judge state in failing-in_front p (front p) (back p) (reason_of reason) (finds.known state agrees);
      among = λ state agrees. let p = entry_context_in judge state in within_wider (front_is_looked p (front p) (back p)) (finds.among state agrees);
    }

    -- none does
    pub then_back : {old then new : Recorder A} (found : Option Reason) → Finds old then None front → Finds then new found back → Finds old new found (λ p. front p ++ back p)
    then_back found first last = record {
      goes = goes_then first.goes last.goes;
      known = λ state agrees. let p = entry_context_in judge state in failing-in_back p (front p) (back p) (first.known state (last.goes.grows state agrees)) ∙ last.known state agrees;
      among = λ state agrees.
          let p = entry_context_in judge state in
          let before = last.goes.grows state agrees in
          within_then (within_wider (front_is_looked p (front p) (back p)) (first.among state before)) (within_wider (back_is_looked p (front p) (back p) (first.known state before)) (last.among state agrees));
    }

  -- ---- the same checks said otherwise

  pub said_otherwise : {old new : Recorder A} (listed said : EntryContext → List Check) (found : Option Reason) → Known new (λ before. listed (entry_context_in judge before) ≡ said (entry_context_in judge before)) → Finds old new found listed → Finds old new found said
  said_otherwise {old} {new} listed said found same finds = record {
    goes = finds.goes;
    known = λ state agrees. subst (λ cs. first_failing (entry_context_in judge state) cs ≡ option_map reason_of found) (same state agrees) (finds.known state agrees);
    among = λ state agrees. subst (λ cs. ReadsAt old new (looked (entry_context_in judge state) cs)) (same state agrees) (finds.among state agrees);
  }

  -- ---- a look at one cell, as a group of its own

  module _ {X : Type 0} {old new : Recorder A} (cell : Cell) (says : X → ClientSight → Type 0) (x : X) (look : AnswersLook {E = AllocError} old new (Ok x) (cell ∷ []) says) (check : Check) (at_cell : (p : EntryContext) → checks.cells p check ≡ cell ∷ []) where
    read_alone : Known new (λ before. ReadsAt old new (looked (entry_context_in judge before) (check ∷ [])))
    read_alone state agrees =
        let p = entry_context_in judge state in
        within_wider (looks_here p check []) (subst (ReadsAt old new) (sym (at_cell p)) look.among)

    pub passes_alone : Known new (λ before. fault (entry_context_in judge before) check ≡ None) → Finds old new None (λ _. check ∷ [])
    passes_alone pass = record {
      goes = look.goes;
      known = λ state agrees. let p = entry_context_in judge state in failing-passes p check [] (pass state agrees) ∙ failing-none p;
      among = read_alone;
    }

    pub fails_alone : (reason : Reason) → Known new (λ before. fault (entry_context_in judge before) check ≡ Some (reason_of reason)) → Finds old new (Some reason) (λ _. check ∷ [])
    fails_alone reason fails = record {
      goes = look.goes;
      known = λ state agrees. failing-fails (entry_context_in judge state) check [] (reason_of reason) (fails state agrees);
      among = read_alone;
    }

  -- ---- a look at a cell, and the checks behind it

  module _ {X : Type 0} {old then new : Recorder A} (cell : Cell) (says : X → ClientSight → Type 0) (x : X) where
    pub behind_cell : (back : EntryContext → List Check) (found : Option Reason) → AnswersLook {E = AllocError} old then (Ok x) (cell ∷ []) says → Finds then new found back → Finds old new found (λ p. checks.Sees cell ∷ back p)
    unfolding fault checks.cells
    behind_cell back found look last = then_back (λ _. checks.Sees cell ∷ []) back found (passes_alone cell says x look (checks.Sees cell) (λ p. refl) (λ state agrees. refl)) last

  -- ---- a look at where a name leads, and the checks that depend on it

  module _ (d : ℕ) (m : List ℕ) (more : Option ℕ → EntryContext → List Check) where
    -- what the name leads to now
    abbrev leads : Option ℕ → ClientSight → Type 0
    leads number before = (entry_context_in judge before).now.name d m ≡ number

    behind : EntryContext → List Check
    behind p = more (p.now.name d m) p

    pub no_name : {old new : Recorder A} (number : Option ℕ) → number ≡ None → AnswersLook {E = AllocError} old new (Ok number) (NameIn d m ∷ []) leads → Finds old new (Some NoSuchName) (λ p. checks.NameIsThere d m ∷ more (p.now.name d m) p)
    unfolding fault checks.cells behind
    no_name number is look =
        front_fails (λ _. checks.NameIsThere d m ∷ []) behind NoSuchName
        (fails_alone (NameIn d m) leads number look (checks.NameIsThere d m) (λ p. refl) NoSuchName (λ state agrees. ap (λ (o : Option ℕ). checks.unless (is_some o) checks.NoSuchName) (look.known state agrees ∙ is)))

    pub behind_name : {old then new : Recorder A} (n : ℕ) (number : Option ℕ) (found : Option Reason) → number ≡ Some n → AnswersLook {E = AllocError} old then (Ok number) (NameIn d m ∷ []) leads → Finds then new found (more (Some n))
        → Finds old new found (λ p. checks.NameIsThere d m ∷ more (p.now.name d m) p)
    unfolding fault checks.cells behind
    behind_name n number found is look last =
        then_back (λ _. checks.NameIsThere d m ∷ []) behind found
        (passes_alone (NameIn d m) leads number look (checks.NameIsThere d m) (λ p. refl) (λ state agrees. ap (λ (o : Option ℕ). checks.unless (is_some o) checks.NoSuchName) (look.known state agrees ∙ is)))
        (said_otherwise (more (Some n)) behind found (λ state agrees. ap (λ (o : Option ℕ). more o (entry_context_in judge state)) (sym (look.known state (last.goes.grows state agrees) ∙ is))) last)
