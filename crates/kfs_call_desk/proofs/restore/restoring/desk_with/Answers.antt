use Rattle.std.proofs.Common.{⊎_elim, inr, option_map, refl, ap}
use Rattle.kfs_call_desk.specs.Restore.Restored.{BadClients, Refused}
use Rattle.kfs_call_desk.proofs.restore.restoring.desk_with.Goals as goal

pub returns : goal.returns
returns g c = record {
  desk = tt;
  fit = tt;
  err = ⊎_elim (λ memory. absurd (c.in_default.not-OutOfMemory memory)) (λ is. inr (Refused (BadClients c.in-Err.back.why), refl, ap (λ o. option_map Refused (option_map BadClients o)) is)) c.in-Err.ensures.why;
}
