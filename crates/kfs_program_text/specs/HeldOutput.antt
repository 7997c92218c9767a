-- A writer in front of another one, which holds bytes back.
use Rattle.std.specs.Prelude.{ℕ, List, Option}
use Rattle.std.specs.Borrow.{MutBor}
use Rattle.std.specs.Io.KnownBytes.{Appends, append_known}

-- bytes were appended to what was there
abbrev pub HasGrown : (before after : Option (List ℕ)) → Type 0
HasGrown before after = (text : List ℕ) × Appends before after text

-- the inner writer at first and now, and the bytes that are held
pub record HeldOutput (W : Type 0) : Type 0 where
  pub first : MutBor W
  pub inner : MutBor W
  pub held : List ℕ

-- what the inner writer has, followed by what is held
abbrev pub contents_with : {W : Type 0} → (W → Option (List ℕ)) → HeldOutput W → Option (List ℕ)
contents_with contents h = append_known (contents h.inner.now) h.held
