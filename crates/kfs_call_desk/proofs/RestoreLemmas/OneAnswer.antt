-- Bytes come to one answer: what it must be is a function of them.
use Rattle.std.proofs.Common.{◌≡◌, inl, inr, ℕ, List, ◌++◌, Option, Some, None, option_map, Result, Ok, Err, sym, ap, subst, ◌∙◌}
use Rattle.std.specs.List.{flat_map}
use Rattle.kfs_model.specs.Judgement.{State}
use Rattle.kfs_model.specs.Spelling.{IsBytes}
use Rattle.kfs_model.specs.Device.RawImage.{RawImage}
use Rattle.kfs_model.specs.Device.Spelling.{ImageSpellingFault}
use Rattle.kfs_model.proofs.RowsRead.{IsBytes-behind}
use Rattle.kfs_model.proofs.DeviceLemmas.OneImageAnswer.{one_image_answer}
use Rattle.kfs_call.specs.StateRows.{StateRows, StateFault, StateAnswer, state_header, state_header_of, client_bytes, lease_bytes}
use Rattle.kfs_call.proofs.OneStateAnswer.{one_state_answer}
use Rattle.kfs_desk.specs.Machine.{Desk}
use Rattle.kfs_call_desk.specs.Restore.Restored.{Refusal, Refused, RestoreFault, FollowsImage, FollowsState, RestoreAnswer, unless}
use Rattle.kfs_call_desk.specs.Restore.Told.{OnRefused, OnRestored, IsRefusedFor}
use Rattle.kfs_call_desk.specs.declared.restore.fault.RestoreFault.{RestoreFault as CodeFault}

-- ---- one answer

follows_one_image : (s : StateRows) (read : Result RawImage ImageSpellingFault) (one other : Result State RestoreFault) → FollowsImage s read one → FollowsImage s read other → one ≡ other
follows_one_image s (Ok raw) one other is this = is ∙ sym this
follows_one_image s (Err fault) one other is this = is ∙ sym this

-- the image's bytes are bytes
abbrev HasBytes : Result StateRows StateFault → Type 0
HasBytes (Ok s) = IsBytes s.image
HasBytes (Err fault) = Unit {0}

has_bytes : (bytes : List ℕ) → IsBytes bytes → (read : Result StateRows StateFault) → StateAnswer bytes read → HasBytes read
has_bytes bytes fits (Ok s) is = IsBytes-behind (state_header (state_header_of s) ++ flat_map client_bytes s.clients ++ flat_map lease_bytes s.leases) s.image (subst IsBytes is.1 fits)
has_bytes bytes fits (Err fault) is = tt

follows_one : (read : Result StateRows StateFault) → HasBytes read → (one other : Result State RestoreFault) → FollowsState read one → FollowsState read other → one ≡ other
follows_one (Ok s) fits one other is this =
    let same = one_image_answer s.image fits is.0 this.0 is.1 this.1 in
    follows_one_image s this.0 one other (subst (λ read. FollowsImage s read one) same is.2) this.2
follows_one (Err fault) fits one other is this = is ∙ sym this

pub one_answer : (bytes : List ℕ) → IsBytes bytes → (one other : Result State RestoreFault) → RestoreAnswer bytes one → RestoreAnswer bytes other → one ≡ other
one_answer bytes fits one other is this =
    let same = one_state_answer bytes fits is.0 this.0 is.1 this.1 in
    follows_one this.0 (has_bytes bytes fits this.0 this.1) one other (subst (λ read. FollowsState read one) same is.2) this.2

-- ---- what is told

-- what holds of each answer holds of the code's
pub OnRefused-weaker : (P Q : RestoreFault → Type 0) → ((a : RestoreFault) → P a → Q a) → (fault : CodeFault) → OnRefused P fault → OnRefused Q fault
OnRefused-weaker P Q f fault (inl memory) = inl memory
OnRefused-weaker P Q f fault (inr told) = inr (told.0, told.1, f told.0 told.2)

pub OnRestored-weaker : (limit : ℕ) (P Q : Result State RestoreFault → Type 0) → ((a : Result State RestoreFault) → P a → Q a) → (result : Result Desk CodeFault) → OnRestored limit P result → OnRestored limit Q result
OnRestored-weaker limit P Q f (Ok desk) h = (h.0, f (Ok desk.state) h.1)
OnRestored-weaker limit P Q f (Err fault) h = OnRefused-weaker (λ refusal. P (Err refusal)) (λ refusal. Q (Err refusal)) (λ refusal. f (Err refusal)) fault h

-- ---- refusals in their order

pub passes : (found : Option Refusal) (rest : Result State RestoreFault) → found ≡ None → unless found rest ≡ rest
passes found rest none = ap (λ (o : Option Refusal). unless o rest) none

stops : (found : Option Refusal) (rest : Result State RestoreFault) (given : RestoreFault) → option_map Refused found ≡ Some given → Err given ≡ unless found rest
stops None rest given none = cc
stops (Some refusal) rest given some = let same : Refused refusal ≡ given = cc in ap Err (sym same)

-- a fault for this refusal is that of the answer, which is this refusal or what comes behind
pub refused_here : (found : Option Refusal) (rest answer : Result State RestoreFault) (fault : CodeFault) → unless found rest ≡ answer → IsRefusedFor found fault → OnRefused (λ given. Err given ≡ answer) fault
refused_here found rest answer fault is told = OnRefused-weaker (λ given. option_map Refused found ≡ Some given) (λ given. Err given ≡ answer) (λ given some. stops found rest given some ∙ is) fault told
