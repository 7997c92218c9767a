-- What a client's update log asks for, entry by entry.
use Rattle.std.specs.Prelude.{ℕ, List}
use Rattle.kfs_model.specs.Header.{Kind}

-- The eight kinds of entry. Names and payloads are lists of bytes.
pub data Entry : Type 0 where
  Create : (directory : ℕ) (name : List ℕ) (number : ℕ) (kind : Kind) (mode : ℕ) → Entry
  Write : (number offset : ℕ) (payload : List ℕ) → Entry
  Truncate : (number size : ℕ) → Entry
  Link : (number directory : ℕ) (name : List ℕ) → Entry
  -- the kind says what is to go: a file's name or an empty directory
  Unlink : (directory : ℕ) (name : List ℕ) (kind : Kind) → Entry
  Rename : (directory : ℕ) (name : List ℕ) (target : ℕ) (new_name : List ℕ) → Entry
  Chmod : (number mode : ℕ) → Entry
  -- the user that owns the node stays
  Regroup : (number group : ℕ) → Entry

-- the version is that of the log's format
pub record Log : Type 0 where
  pub version : ℕ
  pub client : ℕ
  pub entries : List Entry
