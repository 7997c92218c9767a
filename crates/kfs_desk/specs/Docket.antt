-- What the desk's answers say of its docket.
use Rattle.std.specs.Prelude.{ℕ, Bool}
use Rattle.kfs_desk.specs.declared.history.answers.Reply.{Reply}
use Rattle.kfs_desk.specs.declared.history.answers.Reply.TheVariants.{Yes, No, NoRoom}

-- the position of the answer's row in the docket
abbrev pub position_of : Reply → ℕ
position_of (Yes position rejudged need) = position
position_of (No position rejudged fault) = position
position_of (NoRoom position rejudged need free) = position

-- whether the answer says that the submission was revalidated
abbrev pub is_rejudged : Reply → Bool
is_rejudged (Yes position rejudged need) = rejudged
is_rejudged (No position rejudged fault) = rejudged
is_rejudged (NoRoom position rejudged need free) = rejudged
