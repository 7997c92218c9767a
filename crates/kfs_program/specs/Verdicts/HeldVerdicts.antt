-- The verdicts that the workers of a session hold.
use Rattle.std.specs.Prelude.{ℕ, List, replicate, get_or, set, Option, None}
use Rattle.kfs_desk.specs.Verdict.Verdict.{HeldVerdict}

-- the verdict that each worker holds, if any, by the worker's number
abbrev pub HeldVerdicts : Type 0
HeldVerdicts = List (Option HeldVerdict)

-- eight workers hold no verdict
abbrev pub no_verdict : HeldVerdicts
no_verdict = replicate 8 None

abbrev pub held_by : HeldVerdicts → (worker : ℕ) → Option HeldVerdict
held_by hands worker = get_or hands worker None

-- the same, but with this for one worker
abbrev pub with_held : HeldVerdicts → (worker : ℕ) → Option HeldVerdict → HeldVerdicts
with_held hands worker held = set hands worker held
