-- The numbers that exports answer.
use Rattle.std.specs.Prelude.{ℕ}

-- the call was made and answered
abbrev pub done : ℕ
done = 0

-- memory ran out
abbrev pub no_memory : ℕ
no_memory = 1

-- the docket is full
abbrev pub full : ℕ
full = 2

-- there is no such thing
abbrev pub nothing : ℕ
nothing = 3

-- refused, for a reason that is told
abbrev pub refused : ℕ
refused = 4

-- the buffer is too short
abbrev pub short : ℕ
short = 5

-- the handle holds nothing
abbrev pub closed : ℕ
closed = 6

-- the handle holds something of another kind
abbrev pub wrong_kind : ℕ
wrong_kind = 7

-- the node is a directory, and the call is for files
abbrev pub directory : ℕ
directory = 8
