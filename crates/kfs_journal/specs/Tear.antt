-- What becomes of calls that no sync has brought to the disk.
use Rattle.std.specs.Prelude.{◌≡◌, ◌⊎◌, List, ℕ, length}
use Rattle.kfs_journal.specs.declared.call.Call.{Call}
use Rattle.kfs_journal.specs.declared.call.Call.TheVariants as calls
use Rattle.kfs_journal.specs.declared.disk.File.{File}
use Rattle.kfs_journal.specs.declared.replay.Replays.{Replays}
use Rattle.kfs_journal.specs.Disk.{Files, content, In, Torn, Cut}
use Rattle.kfs_journal.specs.Memory.{file_of, Reaches, after}

-- a file that a crash tears, where `there` was there before the call; a sync brings that to the disk
abbrev pub Tears : Call → List ℕ → List ℕ → List ℕ → Type 0
Tears (calls.Write file at bytes) there old new = Torn at (length bytes.items) old new
Tears (calls.Cut file len) there old new = Cut len old new
Tears (calls.Sync file) there old new = new ≡ there

-- the call's file is torn, where these files were there before the call, and the other stays
abbrev pub TearsOne : Call → Files → Files → Files → Type 0
TearsOne call there old new = In (file_of call) (Tears call (content (file_of call) there)) old new

abbrev pub wholes : Replays → Files
wholes replays = (replays.first.whole.items, replays.second.whole.items)

abbrev pub torn_files : Replays → Files
torn_files replays = (replays.first.torn.items, replays.second.torn.items)

-- each file of c is that of the one pair or that of the other
abbrev pub IsMixed : Files → Files → Files → Type 0
IsMixed one two c = (file : File) → (content file c ≡ content file one) ⊎ (content file c ≡ content file two)

-- these files are there after the calls, and a crash after them may leave each file so or torn
pub record AreReplayed (start : Files) (calls : List Call) (whole torn : Files) : Type 0 where
  pub there : after start calls ≡ whole
  pub left : (c : Files) → IsMixed whole torn c → Reaches start start calls c
