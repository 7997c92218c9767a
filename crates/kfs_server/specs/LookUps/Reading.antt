-- The reader of look-ups as a function.
use Rattle.std.specs.Prelude.{ℕ, List, [], ◌∷◌, Option, Some, None, ◌==◌, if◌then◌else◌}
use Rattle.kfs_model.specs.Steps.{◌>>=◌}
use Rattle.kfs_model.specs.Spelling.{is_name}
use Rattle.kfs_model.proofs.Reading.{byte_read, number32_read, number64_read}
use Rattle.kfs_server.specs.LookUps.LookUp.{LookUp, Node, State, Checkpoint, Find, Names, Read, Places, Leases, Plan}

-- nothing stands behind it
abbrev pub at_end : List ℕ → Option (Unit {0})
at_end [] = Some tt
at_end (b ∷ bytes) = None

-- the look-up, if so
abbrev pub ended : List ℕ → LookUp → Option LookUp
ended bytes look_up = at_end bytes >>= λ end. Some look_up

abbrev pub node_read : List ℕ → Option LookUp
node_read bytes = number32_read bytes >>= λ f. ended f.1 (Node f.0)

-- a name
abbrev pub name_of : List ℕ → Option (List ℕ)
name_of bytes = if is_name bytes then Some bytes else None

abbrev pub find_read : List ℕ → Option LookUp
find_read bytes = number32_read bytes >>= λ f. name_of f.1 >>= λ name. Some (Find f.0 name)

-- no bytes, or a name
abbrev pub after_read : List ℕ → Option (Option (List ℕ))
after_read [] = Some None
after_read (b ∷ bytes) = if is_name (b ∷ bytes) then Some (Some (b ∷ bytes)) else None

abbrev pub names_read : List ℕ → Option LookUp
names_read bytes = number32_read bytes >>= λ f. number32_read f.1 >>= λ g. after_read g.1 >>= λ after. Some (Names f.0 g.0 after)

abbrev pub read_read : List ℕ → Option LookUp
read_read bytes = number32_read bytes >>= λ f. number64_read f.1 >>= λ g. number32_read g.1 >>= λ h. ended h.1 (Read f.0 g.0 h.0)

abbrev pub leases_read : List ℕ → Option LookUp
leases_read bytes = number32_read bytes >>= λ f. number32_read f.1 >>= λ g. ended g.1 (Leases f.0 g.0)

-- all that is left is the log
abbrev pub plan_read : List ℕ → Option LookUp
plan_read bytes = Some (Plan bytes)

abbrev pub tagged_read : (tag : ℕ) → List ℕ → Option LookUp
tagged_read tag bytes =
    if tag == 64 then node_read bytes
    else if tag == 65 then ended bytes State
    else if tag == 66 then ended bytes Checkpoint
    else if tag == 67 then find_read bytes
    else if tag == 68 then names_read bytes
    else if tag == 69 then read_read bytes
    else if tag == 70 then ended bytes Places
    else if tag == 71 then leases_read bytes
    else if tag == 72 then plan_read bytes
    else None

abbrev pub look_up_read : List ℕ → Option LookUp
look_up_read bytes = byte_read bytes >>= λ tag. tagged_read tag.0 tag.1
