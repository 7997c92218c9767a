-- What a client's plan says, row by row.
use Rattle.std.specs.Prelude.{ℕ, List, Option}
use Rattle.kfs_model.specs.Header.{Header}

-- the number that a name leads to after the log, or 0 for none
pub record NameRow : Type 0 where
  pub directory : ℕ
  pub name : List ℕ
  pub number : ℕ

-- the header of a node after the log, or none where it is gone
pub record NodeRow : Type 0 where
  pub number : ℕ
  pub now : Option Header

-- where the bytes of a piece come from: they are zero, or they are part of one entry's payload, from
-- `place` on
pub data Source : Type 0 where
  Zero : Source
  Payload : (entry place : ℕ) → Source

pub record Piece : Type 0 where
  pub number : ℕ
  pub start : ℕ
  pub length : ℕ
  pub source : Source

-- the version is that of the plan's format
pub record Plan : Type 0 where
  pub version : ℕ
  pub names : List NameRow
  pub nodes : List NodeRow
  pub pieces : List Piece
