-- The verdict on rows, stage by stage.
use Rattle.std.proofs.Common.{◌≡◌, ℕ, Option, None, Result, Ok, Err, IfOk, IfErr, refl, sym, ap, ◌∙◌}
use Rattle.kfs_model.specs.Judgement.{State}
use Rattle.kfs_model.specs.Device.RawImage.{RawImage, heads_of}
use Rattle.kfs_call.specs.StateRows.{StateRows}
use Rattle.kfs_desk.specs.Machine.{Desk, opened_at}
use Rattle.kfs_call_desk.specs.Restore.Restored.{Refusal, RestoreFault, begin_refusal, clients_refusal, leases_refusal, rule_refusal, shown_state, unless, verdict}
use Rattle.kfs_call_desk.specs.Restore.Told.{IsRefusedFor, OnRefused, OnRestored}
use Rattle.kfs_call_desk.specs.declared.restore.fault.RestoreFault.{RestoreFault as CodeFault}
use Rattle.kfs_call_desk.proofs.RestoreLemmas.OneAnswer.{passes, refused_here}

module _ (s : StateRows) (raw : RawImage) where
  abbrev pub Tells : CodeFault → Type 0
  Tells fault = OnRefused (λ given. Err given ≡ verdict s raw) fault

  abbrev pub leases_here : Option Refusal
  leases_here = leases_refusal s.clients (heads_of raw) s.moment s.leases

  abbrev last : Result State RestoreFault
  last = Ok (shown_state s raw)

  abbrev fourth : Result State RestoreFault
  fourth = unless (begin_refusal s.clients) last

  abbrev third : Result State RestoreFault
  third = unless leases_here fourth

  abbrev second : Result State RestoreFault
  second = unless (clients_refusal s.clients) third

  pub rule_tells : (fault : CodeFault) → IsRefusedFor (rule_refusal raw) fault → Tells fault
  rule_tells fault told = refused_here (rule_refusal raw) second (verdict s raw) fault refl told

  module _ (rules : rule_refusal raw ≡ None) where
    from_second : verdict s raw ≡ second
    from_second = passes (rule_refusal raw) second rules

    pub client_tells : (fault : CodeFault) → IsRefusedFor (clients_refusal s.clients) fault → Tells fault
    client_tells fault told = refused_here (clients_refusal s.clients) third (verdict s raw) fault (sym from_second) told

    module _ (clients : clients_refusal s.clients ≡ None) where
      from_third : verdict s raw ≡ third
      from_third = from_second ∙ passes (clients_refusal s.clients) third clients

      pub lease_tells : (fault : CodeFault) → IsRefusedFor leases_here fault → Tells fault
      lease_tells fault told = refused_here leases_here fourth (verdict s raw) fault (sym from_third) told

      module _ (leases : leases_here ≡ None) where
        from_fourth : verdict s raw ≡ fourth
        from_fourth = from_third ∙ passes leases_here fourth leases

        pub begin_tells : (fault : CodeFault) → IsRefusedFor (begin_refusal s.clients) fault → Tells fault
        begin_tells fault told = refused_here (begin_refusal s.clients) last (verdict s raw) fault (sym from_fourth) told

        pub begun : (limit : ℕ) (desk : Desk) (state : State) → begin_refusal s.clients ≡ None → desk ≡ opened_at state limit → state ≡ shown_state s raw → OnRestored limit (λ answer. answer ≡ verdict s raw) (Ok desk)
        begun limit desk state beside is same =
            let shown : desk.state ≡ state = ap (λ (d : Desk). d.state) is in
            (is ∙ ap (λ x. opened_at x limit) (sym shown), ap Ok (shown ∙ same) ∙ sym (passes (begin_refusal s.clients) last beside) ∙ sym from_fourth)

        -- what the last stage answers
        pub last_tells : (limit : ℕ) (state : State) (result : Result Desk CodeFault) → state ≡ shown_state s raw → IfOk result (λ desk. desk ≡ opened_at state limit) → IfOk result (λ desk. begin_refusal s.clients ≡ None)
            → IfErr result (IsRefusedFor (begin_refusal s.clients)) → OnRestored limit (λ answer. answer ≡ verdict s raw) result
        last_tells limit state (Ok desk) same is beside err = begun limit desk state beside is same
        last_tells limit state (Err fault) same is beside err = begin_tells fault err
