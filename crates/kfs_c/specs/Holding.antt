-- What is said of the desk, the view or the verdict that a handle holds.
use Rattle.std.specs.Prelude.{◌≡◌, ◌⊎◌, ℕ, Option, None, Some}
use Rattle.kfs_model.specs.Judgement.{State}
use Rattle.kfs_desk.specs.Machine.{Desk}
use Rattle.kfs_plan.specs.Judged.{Judged}
use Rattle.std.specs.Global.{Global}
use Rattle.kfs_c.specs.Loose.Status.{closed, wrong_kind}
use Rattle.kfs_c.specs.declared.held.Held.{Held}
use Rattle.kfs_c.specs.declared.held.Held.TheVariants as helds

-- the handle holds a desk, and this is said of it
abbrev pub OnDesk : Option Held → (Desk → Type 0) → Type 0
OnDesk None Says = ⊥
OnDesk (Some (helds.Desk desk)) Says = Says desk
OnDesk (Some (helds.View view)) Says = ⊥
OnDesk (Some (helds.Verdict verdict)) Says = ⊥

-- the handle holds a view, and this is said of the state that it shows
abbrev pub OnView : Option Held → (State → Type 0) → Type 0
OnView None Says = ⊥
OnView (Some (helds.Desk desk)) Says = ⊥
OnView (Some (helds.View view)) Says = Says view
OnView (Some (helds.Verdict verdict)) Says = ⊥

-- the handle holds a verdict, and this is said of it
abbrev pub OnVerdict : Option Held → (Judged Global → Type 0) → Type 0
OnVerdict None Says = ⊥
OnVerdict (Some (helds.Desk desk)) Says = ⊥
OnVerdict (Some (helds.View view)) Says = ⊥
OnVerdict (Some (helds.Verdict verdict)) Says = Says verdict

-- the handle holds a desk before and after, and this is said of the two
abbrev pub OnDesks : (before after : Option Held) → (Desk → Desk → Type 0) → Type 0
OnDesks before after Says = OnDesk before (λ old. OnDesk after (λ new. Says old new))

-- the handle holds something, which isn't a desk
abbrev pub HoldsNoDesk : Option Held → Type 0
HoldsNoDesk None = ⊥
HoldsNoDesk (Some (helds.Desk desk)) = ⊥
HoldsNoDesk (Some (helds.View view)) = Unit {0}
HoldsNoDesk (Some (helds.Verdict verdict)) = Unit {0}

-- the handle holds something, which isn't a view
abbrev pub HoldsNoView : Option Held → Type 0
HoldsNoView None = ⊥
HoldsNoView (Some (helds.Desk desk)) = Unit {0}
HoldsNoView (Some (helds.View view)) = ⊥
HoldsNoView (Some (helds.Verdict verdict)) = Unit {0}

-- it is a desk
abbrev pub IsDesk : Held → Type 0
IsDesk (helds.Desk desk) = Unit {0}
IsDesk (helds.View view) = ⊥
IsDesk (helds.Verdict verdict) = ⊥

-- the handle holds a view or a verdict, and this is it
abbrev pub IsOther : Option Held → Type 0
IsOther held = ((view : State) × (held ≡ Some (helds.View view))) ⊎ ((verdict : Judged Global) × (held ≡ Some (helds.Verdict verdict)))

-- the handle holds no desk, and the status says so
abbrev pub IsRefusal : Option Held → (status : ℕ) → Type 0
IsRefusal held status = ((status ≡ closed) × (held ≡ None)) ⊎ ((status ≡ wrong_kind) × IsOther held)
