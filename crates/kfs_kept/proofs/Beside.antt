-- The clients of a state that files stand for can be beside each other.
use Rattle.std.proofs.Common.{◌≡◌, ℕ, List, [], ◌∷◌, Option, Some, None, option_map, Result, Ok, Err, refl, sym, ap, ◌∙◌}
use Rattle.kfs_model.specs.Judgement.{State, Verdict, Yes, No, Reply, Accepted, NoRoom, Refused as RefusedReply, reply_to, verdict_on}
use Rattle.kfs_model.specs.Lease.{LeaseFault, Leases, dropped, granted, granted_by_number, ticked}
use Rattle.kfs_model.specs.Machine as machine
use Rattle.kfs_model.specs.Migration.{Move, MoveFault, fault_of_moves}
use Rattle.kfs_model.specs.Sight.{sight}
use Rattle.kfs_model.specs.Device.RawImage.{RawImage, heads_of}
use Rattle.kfs_model.specs.Device.Spelling.{ImageSpellingFault}
use Rattle.kfs_call.specs.StateRows.{StateRows, StateFault}
use Rattle.kfs_desk.specs.History.Runs.{leased_to, made, migrated_to, replied_least}
use Rattle.kfs_desk.specs.Opening.{begin_fault}
use Rattle.kfs_desk.specs.declared.history.answers.BeginFault.{BeginFault}
use Rattle.kfs_journal.specs.Disk.{Files}
use Rattle.kfs_journal.specs.Format.{meaning}
use Rattle.kfs_call_desk.specs.Restore.Restored.{BadClients, Refusal, RestoreAnswer, RestoreFault, FollowsImage, FollowsState, begin_refusal, clients_refusal, leases_refusal, rule_refusal, shown_state, unless}
use Rattle.kfs_kept.specs.Calls.Group.{CallAndAnswer}
use Rattle.kfs_kept.specs.Calls.Leads.{GroupLeads, GroupsLead, LeadOn, Leads}
use Rattle.kfs_kept.specs.Standing.{LeadTo, StandFor}

-- ---- no call changes the clients

module _ (s : State) where
  replied_clients : (found : Verdict) (reply : Reply) → (replied_least s found reply).1.clients ≡ s.clients
  replied_clients (Yes after marks) (Accepted need) = refl
  replied_clients (Yes after marks) (NoRoom need free) = refl
  replied_clients (Yes after marks) (RefusedReply fault) = refl
  replied_clients (No fault) (Accepted need) = refl
  replied_clients (No fault) (NoRoom need free) = refl
  replied_clients (No fault) (RefusedReply other) = refl

  leased_clients : (outcome : Result ℕ LeaseFault × Leases) → (leased_to s outcome).1.clients ≡ s.clients
  leased_clients (Ok number, leases) = refl
  leased_clients (Err fault, leases) = refl

  migrated_clients : (moves : List Move) (found : Option MoveFault) → (migrated_to s moves found).1.clients ≡ s.clients
  migrated_clients moves None = refl
  migrated_clients moves (Some fault) = refl

  made_clients : (call : machine.Call) → (made s call).1.clients ≡ s.clients
  unfolding made
  made_clients (machine.Submit submission reading) = replied_clients (verdict_on s submission.client reading) (reply_to s (verdict_on s submission.client reading))
  made_clients (machine.Lease client path kind end) = leased_clients (granted s.leases (sight s.tree) s.clients client path kind end)
  made_clients (machine.Drop client number) = leased_clients (dropped s.leases s.clients client number)
  made_clients (machine.Tick moment) = leased_clients (ticked s.leases moment)
  made_clients (machine.LeaseAt client number kind end) = leased_clients (granted_by_number s.leases (sight s.tree) s.clients client number kind end)
  made_clients (machine.Migrate moves) = migrated_clients moves (fault_of_moves s.sizes s.placement moves)

leads_clients : (s t : State) (kept : CallAndAnswer) → Leads s kept t → t.clients ≡ s.clients
leads_clients s t kept leads = ap (λ (u : State). u.clients) (sym leads.state) ∙ made_clients s leads.asked

lead_on_clients : (s t : State) (calls : List CallAndAnswer) → LeadOn s calls t → t.clients ≡ s.clients
lead_on_clients s t [] lead = ap (λ (u : State). u.clients) lead
lead_on_clients s t (kept ∷ calls) lead = lead_on_clients lead.0 t calls lead.2 ∙ leads_clients s lead.0 kept lead.1

group_clients : (s t : State) (group : List ℕ) → GroupLeads s group t → t.clients ≡ s.clients
group_clients s t group leads = lead_on_clients s t leads.1.calls leads.1.lead

groups_clients : (s t : State) (groups : List (List ℕ)) → GroupsLead s groups t → t.clients ≡ s.clients
groups_clients s t [] lead = ap (λ (u : State). u.clients) lead
groups_clients s t (group ∷ groups) lead = groups_clients lead.0 t groups lead.2 ∙ group_clients s lead.0 group lead.1

-- ---- what is restored

-- where a state comes of it, nothing is refused
passed : (found : Option Refusal) (rest : Result State RestoreFault) (s : State) → Ok s ≡ unless found rest → (found ≡ None) × (Ok s ≡ rest)
passed None rest s is = (refl, is)
passed (Some refusal) rest s is = cc

no_fault : (found : Option BeginFault) → option_map BadClients found ≡ None → found ≡ None
no_fault None none = refl
no_fault (Some fault) none = cc

follows_image : (rows : StateRows) (image : Result RawImage ImageSpellingFault) (s : State) → FollowsImage rows image (Ok s) → begin_fault s.clients ≡ None
follows_image rows (Err fault) s is = cc
follows_image rows (Ok raw) s is =
    let last : Result State RestoreFault = Ok (shown_state rows raw) in
    let fourth = unless (begin_refusal rows.clients) last in
    let third = unless (leases_refusal rows.clients (heads_of raw) rows.moment rows.leases) fourth in
    let second = unless (clients_refusal rows.clients) third in
    let a = passed (rule_refusal raw) second s is in
    let b = passed (clients_refusal rows.clients) third s a.1 in
    let c = passed (leases_refusal rows.clients (heads_of raw) rows.moment rows.leases) fourth s b.1 in
    let d = passed (begin_refusal rows.clients) last s c.1 in
    let same : s ≡ shown_state rows raw = ok_is s (shown_state rows raw) d.1 in
    ap (λ (t : State). begin_fault t.clients) same ∙ no_fault (begin_fault rows.clients) d.0
  where
    ok_is : (a b : State) → ◌≡◌ {A = Result State RestoreFault} (Ok a) (Ok b) → a ≡ b
    ok_is a b is = cc

follows_state : (rows : Result StateRows StateFault) (s : State) → FollowsState rows (Ok s) → begin_fault s.clients ≡ None
follows_state (Err fault) s is = cc
follows_state (Ok rows) s is = follows_image rows is.0 s is.2

restored_beside : (bytes : List ℕ) (s : State) → RestoreAnswer bytes (Ok s) → begin_fault s.clients ≡ None
restored_beside bytes s restored = follows_state restored.0 s restored.2

-- ---- files

lead_beside : (found : Option (List ℕ × List (List ℕ))) (s : State) → LeadTo found s → begin_fault s.clients ≡ None
lead_beside None s lead = absurd lead
lead_beside (Some kept) s lead = ap begin_fault (groups_clients lead.0 s kept.1 lead.2) ∙ restored_beside kept.0 lead.0 lead.1

pub stand_beside : (files : Files) (s : State) → StandFor files s → begin_fault s.clients ≡ None
stand_beside files s stand = lead_beside (meaning files) s stand
