-- What an entry without a failed check keeps. A sound tree stays sound, and what the cells show changes
-- cell by cell. The same holds for a log of such entries.
use Rattle.std.specs.Prelude.{◌≡◌, ℕ, ◌<◌, ◌^◌, List, [], None, IsTrue}
use Rattle.std.specs.List.{AllByRecursion}
use Rattle.kfs_model.specs.Access.{Client, is_grant}
use Rattle.kfs_model.specs.Tree.{Tree}
use Rattle.kfs_model.specs.Sight.{ClientSight, sight}
use Rattle.kfs_model.specs.Entry.{Entry}
use Rattle.kfs_model.specs.Check.{EntryContext, first_fault}
use Rattle.kfs_model.specs.Effect.{Filling, effect}
use Rattle.kfs_model.specs.Run.{run, over_bytes}
use Rattle.kfs_model.specs.Soundness.{IsSound}
use Rattle.kfs_model.specs.Spelling.{IsEntry}
use Rattle.kfs_model.specs.SeenAfter.{seen_after, seen_run_from, shown_run}

-- a client whose ids fit 32 bits and whose grant is in range
pub record IsClient (client : Client) : Type 0 where
  pub uid : client.uid < 2 ^ 32
  pub gid : client.gid < 2 ^ 32
  pub grant : IsTrue (is_grant client.first client.last)

-- the tree is sound, the client is in range, the entry is one of a log of this version, the cells show
-- this tree, and no check of the entry fails
pub record IsClean {B : Type 0} (context : EntryContext) (t : Tree B) (entry : Entry) : Type 0 where
  pub sound : IsSound t
  pub client : IsClient context.client
  pub version : ℕ
  pub entry_fits : IsEntry version entry
  pub shown : context.now ≡ sight t
  pub clean : first_fault context entry ≡ None

-- the entry with this index in its log leaves the tree sound, and the cells show what they should
pub record StaysSound {B : Type 0} (filling : Filling B) (client : Client) (index : ℕ) (t : Tree B) (entry : Entry) : Type 0 where
  pub sound : IsSound (effect filling client index entry t)
  pub seen : sight (effect filling client index entry t) ≡ seen_after client (sight t) entry

-- ---- a log

-- the tree is sound, the client is in range, and all entries are in the range of a log of this version
pub record Fits (client : Client) (t : Tree ℕ) (entries : List Entry) : Type 0 where
  pub in_range : IsClient client
  pub sound : IsSound t
  pub version : ℕ
  pub fitting : AllByRecursion (IsEntry version) entries

-- the run over the tree and the run over its cells end alike: with the same fault, or with the same
-- cells
abbrev pub IsSeenInCells : Client → (before : ClientSight) → Tree ℕ → List Entry → Type 0
IsSeenInCells client before t entries = shown_run (run over_bytes client before t entries) ≡ seen_run_from client before 0 [] (sight t) entries
