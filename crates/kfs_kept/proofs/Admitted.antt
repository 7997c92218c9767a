-- What a state's bytes come to where its clients may not be able to be beside each other, and what files that are given them stand for.
use Rattle.std.proofs.Common.{◌≡◌, ◌⊎◌, inl, inr, ℕ, List, [], Option, Some, None, option_map, Result, Ok, Err, refl, sym, ap, subst, ◌∙◌}
use Rattle.std.proofs.lemmas.List.Elements.{All-contains_itself}
use Rattle.kfs_model.specs.Access.{Client}
use Rattle.kfs_model.specs.Judgement.{State}
use Rattle.kfs_desk.specs.Machine.{Desk, opened_at}
use Rattle.kfs_desk.specs.Opening.{begin_fault}
use Rattle.kfs_desk.specs.declared.history.answers.BeginFault.{BeginFault}
use Rattle.kfs_journal.specs.Disk.{Files}
use Rattle.kfs_journal.specs.Format.{meaning}
use Rattle.kfs_journal.specs.Journal.{IsOneOf}
use Rattle.kfs_call_desk.specs.Restore.Restored as model
use Rattle.kfs_call_desk.specs.Restore.Restored.{Refusal, Refused, RestoreAnswer, RestoreFault, unless}
use Rattle.kfs_call_desk.specs.Restore.Saved.{HasTooMany}
use Rattle.kfs_call_desk.specs.Restore.Told.{OnRefused, OnRestored, fault_of, image_fault_of, state_fault_of}
use Rattle.kfs_call_desk.specs.declared.restore.fault.EncodeFault.{EncodeFault}
use Rattle.kfs_call_desk.specs.declared.restore.fault.EncodeFault.TheVariants as encoding
use Rattle.kfs_call_desk.specs.declared.restore.fault.RestoreFault.{RestoreFault as CodeFault}
use Rattle.kfs_call_desk.specs.declared.restore.fault.RestoreFault.TheVariants as code
use Rattle.kfs_lease.specs.ShownLists.{row_fault_of}
use Rattle.kfs_kept.specs.Admitting.{Admits, IsBefore, IsWhyNotBegun, IsWhyNotAdmitted, IsWhyUnsaved, Keeps, StandForAdmitted, begun_with, with_clients}
use Rattle.kfs_kept.specs.Faults.{of_encoding}
use Rattle.kfs_kept.specs.Standing.{StandFor}
use Rattle.kfs_kept.specs.declared.fault.AdmitFault.{AdmitFault}
use Rattle.kfs_kept.specs.declared.fault.AdmitFault.TheVariants.{BadClients, LeftOut, Unsaved}
use Rattle.kfs_kept.specs.declared.fault.SaveFault.{SaveFault}
use Rattle.kfs_kept.specs.declared.fault.SaveFault.TheVariants as saving
use Rattle.kfs_kept.proofs.Meant.{same_stand, state_stand}

abbrev Answer : Type 0
Answer = Result State RestoreFault

-- ---- what is restored

abbrev by_fault : Option BeginFault → State → Answer
by_fault found s = unless (option_map model.BadClients found) (Ok s)

ok_is : (a b : State) → ◌≡◌ {A = Answer} (Ok a) (Ok b) → a ≡ b
ok_is a b is = cc

begun_by : (limit : ℕ) (desk : Desk) (s : State) (found : Option BeginFault) → desk ≡ opened_at desk.state limit → ◌≡◌ {A = Answer} (Ok desk.state) (by_fault found s) → (desk ≡ opened_at s limit) × (found ≡ None)
begun_by limit desk s None is same = (is ∙ ap (λ (t : State). opened_at t limit) (ok_is desk.state s same), refl)
begun_by limit desk s (Some fault) is same = cc

-- a desk is the one of the state, whose clients can be beside each other
pub begun_desk : (limit : ℕ) (desk : Desk) (s : State) → OnRestored limit (λ given. given ≡ begun_with s) (Ok desk) → (desk ≡ opened_at s limit) × (begin_fault s.clients ≡ None)
begun_desk limit desk s restored = begun_by limit desk s (begin_fault s.clients) restored.0 restored.1

-- ---- what is told

some_is : (a b : RestoreFault) → ◌≡◌ {A = Option RestoreFault} (Some a) (Some b) → a ≡ b
some_is a b is = cc

never_mapped : {X : Type 0} (kind : X → RestoreFault) (told : RestoreFault) → ((x : X) → kind x ≡ told → ⊥) → (found : Option X) → option_map kind found ≡ Some told → ⊥
never_mapped kind told never None is = cc
never_mapped kind told never (Some x) is = never x (some_is (kind x) told is)

-- only the fault of the clients is told as theirs
of_clients : (fault : CodeFault) (why : BeginFault) → fault_of fault ≡ Some (Refused (model.BadClients why)) → fault ≡ code.BadClients why
of_clients (code.BadState fault) why is = absurd (never_mapped model.BadState (Refused (model.BadClients why)) (λ x same. cc) (state_fault_of fault) is)
of_clients (code.BadImage fault) why is = absurd (never_mapped model.BadImage (Refused (model.BadClients why)) (λ x same. cc) (image_fault_of fault) is)
of_clients (code.BrokenRule finding) why is = cc
of_clients (code.BadClient index fault) why is = cc
of_clients (code.BadLease fault) why is = absurd (never_mapped (λ refusal. Refused (model.BadLease refusal)) (Refused (model.BadClients why)) (λ x same. cc) (row_fault_of fault) is)
of_clients (code.BadClients fault) why is = cc
of_clients code.OutOfMemory why is = cc

err_is : (a b : RestoreFault) → ◌≡◌ {A = Answer} (Err a) (Err b) → a ≡ b
err_is a b is = cc

abbrev IsTheirs : CodeFault → Option BeginFault → Type 0
IsTheirs fault found = (fault ≡ code.OutOfMemory) ⊎ ((why : BeginFault) × (fault ≡ code.BadClients why) × (found ≡ Some why))

theirs_by : (fault : CodeFault) (s : State) (found : Option BeginFault) → OnRefused (λ refusal. ◌≡◌ {A = Answer} (Err refusal) (by_fault found s)) fault → IsTheirs fault found
theirs_by fault s found (inl memory) = inl memory
theirs_by fault s None (inr (refusal, told, is)) = cc
theirs_by fault s (Some why) (inr (refusal, told, is)) = inr (why, of_clients fault why (told ∙ ap Some (err_is refusal (Refused (model.BadClients why)) is)), refl)

-- a refusal is that of the clients
theirs : (fault : CodeFault) (s : State) → OnRefused (λ refusal. ◌≡◌ {A = Answer} (Err refusal) (begun_with s)) fault → IsTheirs fault (begin_fault s.clients)
theirs fault s refused = theirs_by fault s (begin_fault s.clients) refused

named : (why : BeginFault) (found : Option BeginFault) → IsTheirs (code.BadClients why) found → found ≡ Some why
named why found (inl memory) = cc
named why found (inr (other, same, is)) = cc

pub clients_fault : (why : BeginFault) (s : State) → OnRefused (λ refusal. ◌≡◌ {A = Answer} (Err refusal) (begun_with s)) (code.BadClients why) → begin_fault s.clients ≡ Some why
clients_fault why s refused = named why (begin_fault s.clients) (theirs (code.BadClients why) s refused)

no_other : (fault : CodeFault) (found : Option BeginFault) → (fault ≡ code.OutOfMemory → ⊥) → ((why : BeginFault) → fault ≡ code.BadClients why → ⊥) → IsTheirs fault found → ⊥
no_other fault found not_memory not_clients (inl memory) = not_memory memory
no_other fault found not_memory not_clients (inr (why, same, is)) = not_clients why same

pub never_another : (fault : CodeFault) (s : State) → (fault ≡ code.OutOfMemory → ⊥) → ((why : BeginFault) → fault ≡ code.BadClients why → ⊥) → OnRefused (λ refusal. ◌≡◌ {A = Answer} (Err refusal) (begun_with s)) fault → ⊥
never_another fault s not_memory not_clients refused = no_other fault (begin_fault s.clients) not_memory not_clients (theirs fault s refused)

-- ---- why a list isn't taken

pub why_unsaved : (s : State) (fault : EncodeFault) → (fault ≡ encoding.OutOfMemory) ⊎ ((fault ≡ encoding.TooMany) × HasTooMany s) → IsWhyUnsaved s (of_encoding fault)
why_unsaved s encoding.TooMany (inl memory) = cc
why_unsaved s encoding.TooMany (inr (is, many)) = many
why_unsaved s encoding.OutOfMemory told = tt

pub before_files : (fault : EncodeFault) → IsBefore (Unsaved (of_encoding fault))
before_files encoding.TooMany = tt
before_files encoding.OutOfMemory = tt

memory_right : (s : State) (fault : SaveFault) → fault ≡ saving.OutOfMemory → IsWhyUnsaved s fault
memory_right s saving.Closed is = tt
memory_right s saving.TooMany is = cc
memory_right s saving.Full is = tt
memory_right s saving.OutOfMemory is = tt
memory_right s saving.Failed is = tt

memory_before : (fault : SaveFault) → fault ≡ saving.OutOfMemory → IsBefore (Unsaved fault)
memory_before saving.Closed is = cc
memory_before saving.TooMany is = tt
memory_before saving.Full is = cc
memory_before saving.OutOfMemory is = tt
memory_before saving.Failed is = cc

pub beside_right : (s : State) (clients : List Client) (fault : AdmitFault) → IsWhyNotBegun clients fault → IsWhyNotAdmitted s clients fault
beside_right s clients (LeftOut number) is = absurd is
beside_right s clients (BadClients fault) is = is
beside_right s clients (Unsaved fault) is = memory_right (with_clients s clients) fault is

pub beside_before : (clients : List Client) (fault : AdmitFault) → IsWhyNotBegun clients fault → IsBefore fault
beside_before clients (LeftOut number) is = absurd is
beside_before clients (BadClients fault) is = tt
beside_before clients (Unsaved fault) is = memory_before fault is

-- ---- files that are given the bytes of the state with its new clients

pub admitted_moment : (items bytes : List ℕ) (s : State) (clients : List Client) → RestoreAnswer items (Ok (with_clients s clients)) → bytes ≡ items → Admits s.clients clients → (files : Files) → StandFor files s
    → (c : Files) → IsOneOf (meaning files) (Some (bytes, [])) c → StandForAdmitted s clients c
admitted_moment items bytes s clients restored is admits files stand c (inl same) = inl (same_stand files c s same stand)
admitted_moment items bytes s clients restored is admits files stand c (inr means) = inr (admits, state_stand items bytes (with_clients s clients) restored is c means)

-- ---- the list is the desk's own

pub admits_itself : (old new : List Client) → new ≡ old → begin_fault old ≡ None → Admits old new
admits_itself old new is beside = record { keeps = subst (λ (list : List Client). Keeps old list) (sym is) (All-contains_itself old); beside = ap begin_fault is ∙ beside }

pub same_state : (s : State) (clients : List Client) → clients ≡ s.clients → s ≡ with_clients s clients
same_state s clients is = λ i. record s { clients = sym is i }

-- ---- before the files are written

pub not_before : (fault other : AdmitFault) → IsBefore fault → (IsBefore other → ⊥) → fault ≡ other → ⊥
not_before fault other before never is = never (subst IsBefore is before)

-- clients that can be beside each other begin
pub begins : (s : State) → begin_fault s.clients ≡ None → begun_with s ≡ Ok s
begins s beside = ap (λ (found : Option BeginFault). by_fault found s) beside
