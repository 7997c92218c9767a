-- What a node shows of itself apart from its bytes.
use Rattle.std.specs.Prelude.{ℕ}

pub data Kind : Type 0 where
  File Directory : Kind
  deriving Discrete as Kind-discrete
  deriving IsSet as Kind-set

-- the header of a node: the mode is 0 to 0o1777; a file has as many links as names; a directory has 1
-- link and size 0
pub record Header : Type 0 where
  pub kind : Kind
  pub mode : ℕ
  pub uid : ℕ
  pub gid : ℕ
  pub links : ℕ
  pub size : ℕ
