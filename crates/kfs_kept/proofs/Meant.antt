-- What a state and groups lead to.
use Rattle.std.proofs.Common.{◌≡◌, inl, inr, ℕ, ◌+◌, ◌<◌, ◌≤◌, ◌^◌, length, take, drop, get_or, Vec, List, [], ◌∷◌, ◌++◌, Option, Some, None, Ok, Err, refl, sym, ap, subst, ◌∙◌}
use Rattle.std.specs.Prelude.{Result}
use Rattle.std.proofs.lemmas.List.{drop_all, drop_more}
use Rattle.kfs_model.specs.Judgement.{State}
use Rattle.kfs_desk.specs.Machine.{Desk}
use Rattle.kfs_call_desk.specs.declared.made.Called.{Called}
use Rattle.kfs_call_desk.specs.declared.made.CallFault.{CallFault}
use Rattle.kfs_journal.specs.Disk.{Files, Only}
use Rattle.kfs_journal.specs.Format.{head_at, meaning, with_group}
use Rattle.kfs_journal.specs.Journal.{AreEmpty, IsOneOf, groups_of}
use Rattle.kfs_journal.specs.declared.fault.JournalFault.{JournalFault}
use Rattle.kfs_journal.specs.declared.fault.JournalFault.TheVariants as journals
use Rattle.kfs_call_desk.specs.Restore.Restored.{RestoreAnswer}
use Rattle.kfs_call_desk.specs.Restore.Saved.{IsSaved}
use Rattle.kfs_kept.specs.Faults.{of_journal}
use Rattle.kfs_kept.specs.declared.fault.SaveFault.{SaveFault}
use Rattle.kfs_kept.specs.declared.fault.SaveFault.TheVariants as saving
use Rattle.kfs_kept.specs.Calls.Leads.{GroupLeads, GroupsLead}
use Rattle.kfs_kept.specs.Calls.Making.{AreMade, answered}
use Rattle.kfs_kept.proofs.CallsLemmas.OneMore.{calls_so_far}
use Rattle.kfs_kept.specs.Standing.{HasLongBytes, LeadTo, StandFor, StandForAtMost, StandForBeforeOrAfter}

abbrev Meant : Type 0
Meant = Option (List ℕ × List (List ℕ))

-- ---- one group more

pub groups_more : (s t u : State) (groups : List (List ℕ)) (group : List ℕ) → GroupsLead s groups t → GroupLeads t group u → GroupsLead s (groups ++ group ∷ []) u
groups_more s t u [] group so_far leads = (u, subst (λ (v : State). GroupLeads v group u) so_far leads, refl)
groups_more s t u (first ∷ groups) group so_far leads = (so_far.0, so_far.1, groups_more so_far.0 t u groups group so_far.2 leads)

pub with_group_leads : (found : Meant) (s t : State) (group : List ℕ) → LeadTo found s → GroupLeads s group t → LeadTo (with_group found group) t
with_group_leads None s t group lead leads = absurd lead
with_group_leads (Some kept) s t group lead leads = (lead.0, lead.1, groups_more lead.0 s t kept.1 group lead.2 leads)

-- ---- a state and no group

pub state_leads : (bytes : List ℕ) (s : State) → RestoreAnswer bytes (Ok s) → LeadTo (Some (bytes, [])) s
state_leads bytes s restored = (s, restored, refl)

-- bytes of a state that are too long
pub long_bytes : (s : State) (bytes items : List ℕ) → IsSaved s items → bytes ≡ items → 2 ^ 60 ≤ length bytes → HasLongBytes s
long_bytes s bytes items saved same long = (items, saved, subst (λ (l : List ℕ). 2 ^ 60 ≤ length l) same long)

-- what is told as full is full
pub full_of : (found : JournalFault) → of_journal found ≡ saving.Full → found ≡ journals.Full
full_of journals.OutOfMemory is = cc
full_of journals.Failed is = cc
full_of journals.Full is = refl

pub err_is : {T : Type 0} (one other : SaveFault) → ◌≡◌ {A = Result T SaveFault} (Err one) (Err other) → one ≡ other
err_is one other is = cc

-- ---- files

-- what files mean leads on
pub stand_for : (files : Files) (found : Meant) (s : State) → meaning files ≡ found → LeadTo found s → StandFor files s
stand_for files found s is lead = subst (λ (m : Meant). LeadTo m s) (sym is) lead

pub same_stand : (files c : Files) (s : State) → meaning c ≡ meaning files → StandFor files s → StandFor c s
same_stand files c s same stand = stand_for c (meaning files) s same stand

-- files that were given these bytes as their state
module _ (items bytes : List ℕ) (s : State) (restored : RestoreAnswer items (Ok s)) (is : bytes ≡ items) where
  pub state_stand : (new : Files) → meaning new ≡ Some (bytes, []) → StandFor new s
  state_stand new means = stand_for new (Some (bytes, [])) s means (state_leads bytes s (subst (λ (b : List ℕ). RestoreAnswer b (Ok s)) (sym is) restored))

  pub begun : (c : Files) → IsOneOf None (Some (bytes, [])) c → StandForAtMost s c
  begun c (inl none) = inl none
  begun c (inr means) = inr (state_stand c means)

  pub renewed : (files : Files) → StandFor files s → (c : Files) → IsOneOf (meaning files) (Some (bytes, [])) c → StandFor c s
  renewed files stand c (inl same) = same_stand files c s same stand
  renewed files stand c (inr means) = state_stand c means

-- what a crash leaves where that is there alone
pub left_stand : (files : Files) (may_leave : Files → Type 0) (s : State) → Only files may_leave → StandFor files s → (c : Files) → may_leave c → StandFor c s
left_stand files may_leave s only stand c left = subst (λ (f : Files). StandFor f s) (sym (only c left)) stand

nothing : meaning ([], []) ≡ None
unfolding head_at
nothing = refl

pub empty_mean_none : (files : Files) → AreEmpty files → meaning files ≡ None
empty_mean_none files empty = ap meaning empty ∙ nothing

-- ---- calls that are made, and their group

module _ (files : Files) (old last : Desk) (calls : List (List ℕ)) (answers : List (Result Called CallFault)) (group bytes : List ℕ) (stand : StandFor files old.state) (made : AreMade old calls answers group last) (is : bytes ≡ group) where
  pub put_leads : GroupLeads old.state bytes last.state
  put_leads = subst (λ (l : List ℕ). GroupLeads old.state l last.state) (sym is) (answered calls answers, made.kept)

  pub put_stand : (new : Files) → meaning new ≡ with_group (meaning files) bytes → StandFor new last.state
  put_stand new means = stand_for new (with_group (meaning files) bytes) last.state means (with_group_leads (meaning files) old.state last.state bytes stand put_leads)

  pub put_moment : (c : Files) → IsOneOf (meaning files) (with_group (meaning files) bytes) c → StandForBeforeOrAfter old calls c
  put_moment c (inl before) = inl (same_stand files c old.state before stand)
  put_moment c (inr after) = inr (record { answers = answers; last = last; runs = made.runs; stand = put_stand c after })

-- ---- what is found

-- the groups so far, and the next
pub groups_so_far : {A : Type 0} (s t u : State) (groups : List (Vec ℕ A)) (i : ℕ) (d : Vec ℕ A) (bytes : List ℕ) → i < length groups → d ≡ get_or groups i d → bytes ≡ d.items
    → GroupsLead s (groups_of (take i groups)) t → GroupLeads t bytes u → GroupsLead s (groups_of (take (i + 1) groups)) u
groups_so_far {A} s t u groups i d bytes lt is same so_far leads =
    let one : GroupLeads t (get_or groups i d).items u = subst (λ (l : List ℕ). GroupLeads t l u) (same ∙ ap (λ (v : Vec ℕ A). v.items) is) leads in
    subst (λ (gs : List (List ℕ)). GroupsLead s gs u) (sym (calls_so_far (λ (v : Vec ℕ A). v.items) groups i d lt)) (groups_more s t u (groups_of (take i groups)) (get_or groups i d).items so_far one)

-- the next of the groups that are left, and the others
pub next_group : {A : Type 0} (s t : State) (groups : List (Vec ℕ A)) (i : ℕ) (d : Vec ℕ A) (bytes : List ℕ) → i < length groups → d ≡ get_or groups i d → bytes ≡ d.items
    → GroupsLead s (groups_of (drop i groups)) t → (u : State) × GroupLeads s bytes u × GroupsLead u (groups_of (drop (i + 1) groups)) t
next_group {A} s t groups i d bytes lt is same lead =
    let parts : groups_of (drop i groups) ≡ (get_or groups i d).items ∷ groups_of (drop (i + 1) groups) = ap groups_of (drop_more groups i d lt) in
    let (u, leads, rest) = subst (λ (gs : List (List ℕ)). GroupsLead s gs t) parts lead in
    (u, subst (λ (l : List ℕ). GroupLeads s l u) (sym (same ∙ ap (λ (v : Vec ℕ A). v.items) is)) leads, rest)

-- none is left
pub none_left : {A : Type 0} (s t : State) (groups : List (Vec ℕ A)) (i : ℕ) → length groups ≤ i → GroupsLead s (groups_of (drop i groups)) t → t ≡ s
none_left {A} s t groups i le lead = subst (λ (gs : List (Vec ℕ A)). GroupsLead s (groups_of gs) t) (drop_all i groups le) lead

pub found_stand : (new : Files) (bytes state : List ℕ) (made groups : List (List ℕ)) (first s : State) → meaning new ≡ Some (state, groups) → bytes ≡ state → made ≡ groups
    → RestoreAnswer bytes (Ok first) → GroupsLead first made s → StandFor new s
found_stand new bytes state made groups first s is same alike restored lead =
    stand_for new (Some (state, groups)) s is (first, subst (λ (b : List ℕ). RestoreAnswer b (Ok first)) same restored, subst (λ (gs : List (List ℕ)). GroupsLead first gs s) alike lead)

-- and what files stand for comes of what is found
pub found_leads : (files : Files) (bytes state : List ℕ) (made groups : List (List ℕ)) (s : State) → meaning files ≡ Some (state, groups) → bytes ≡ state → made ≡ groups
    → StandFor files s → (first : State) × RestoreAnswer bytes (Ok first) × GroupsLead first made s
found_leads files bytes state made groups s is same alike stand =
    let (first, restored, lead) = subst (λ (m : Meant). LeadTo m s) is stand in
    (first, subst (λ (b : List ℕ). RestoreAnswer b (Ok first)) (sym same) restored, subst (λ (gs : List (List ℕ)). GroupsLead first gs s) (sym alike) lead)
