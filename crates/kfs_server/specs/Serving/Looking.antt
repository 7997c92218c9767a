-- What the code replies to a look-up.
use Rattle.std.specs.Prelude.{◌≡◌, ◌⊎◌, ℕ, List, Result, Ok, Err}
use Rattle.kfs_desk.specs.Machine.{Desk}
use Rattle.kfs_server.specs.LookUps.LookUp.{LookUp, IsAnothers, IsOfNoLog, MayAsk}
use Rattle.kfs_server.specs.LookUps.Found.{IsFound}
use Rattle.kfs_server.specs.LookUps.Views.{IsWithin, found_shown}
use Rattle.kfs_server.specs.Replies.Reply as spelled
use Rattle.kfs_server.specs.Replies.Views.{refusal_shown}
use Rattle.kfs_server.specs.declared.look_ups.found.Found.{Found}
use Rattle.kfs_server.specs.declared.replies.reply.Refusal.{Refusal}
use Rattle.kfs_server.specs.declared.replies.reply.Refusal.TheVariants as refusals

-- the sender may not ask, for a reason that is right: the look-up is another's, or of no log
abbrev pub IsTurnedAway : LookUp → (from : ℕ) → Refusal → Type 0
IsTurnedAway look_up from refusals.OutOfMemory = Unit {0}
IsTurnedAway look_up from refusals.NotYours = IsAnothers look_up from
IsTurnedAway look_up from (refusals.BadField k) = (k ≡ 0) × IsOfNoLog look_up
IsTurnedAway look_up from refusals.TooLong = ⊥
IsTurnedAway look_up from refusals.CutShort = ⊥
IsTurnedAway look_up from refusals.Trailing = ⊥
IsTurnedAway look_up from refusals.DocketFull = ⊥

module _ {B : Type 0} where
  -- this is found, or memory was refused
  abbrev pub IsSought : Desk → (from : ℕ) → LookUp → Result (Found B) Refusal → Type 0
  IsSought desk from look_up (Ok found) = IsFound desk from look_up (found_shown found) × IsWithin found
  IsSought desk from look_up (Err why) = why ≡ refusals.OutOfMemory

  -- so it is for a sender who may ask; another one is told why not
  abbrev pub IsLookedUp : Desk → (from : ℕ) → LookUp → Result (Found B) Refusal → Type 0
  IsLookedUp desk from look_up found = (MayAsk look_up from × IsSought desk from look_up found) ⊎ ((why : Refusal) × (found ≡ Err why) × IsTurnedAway look_up from why)

  -- the reply that says so
  abbrev pub looked_up_reply : Result (Found B) Refusal → spelled.Reply
  looked_up_reply (Ok found) = spelled.Found (found_shown found)
  looked_up_reply (Err refusal) = spelled.Refused (refusal_shown refusal)

  abbrev pub looked_up_bytes : (number : ℕ) → Result (Found B) Refusal → List ℕ
  looked_up_bytes number found = spelled.reply_bytes number (looked_up_reply found)
