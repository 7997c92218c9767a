-- Why a desk can't be begun with a list of clients.
use Rattle.std.specs.Prelude.{◌==◌, nat_le, max, min, Bool, List, length, Option, Some, None, if◌then◌else◌}
use Rattle.std.specs.List.{list_any}
use Rattle.kfs_model.specs.Access.{Client}
use Rattle.kfs_model.specs.FirstAnswer.{first_answer}
use Rattle.kfs_desk.specs.declared.history.answers.BeginFault.{BeginFault}
use Rattle.kfs_desk.specs.declared.history.answers.BeginFault.TheVariants.{ClientTwice, GrantOverlap}

-- whether some number is in both grants: the greater of the first numbers isn't above the lesser of the
-- last ones
abbrev pub do_overlap : Client → Client → Bool
do_overlap one other = nat_le (max one.first other.first) (min one.last other.last)

-- why the client can't follow the earlier ones: one has its number, or else one's grant overlaps its
-- grant
abbrev pub fault_behind : (earlier : List Client) → Client → Option BeginFault
fault_behind earlier client =
    if list_any (λ row. row.number == client.number) earlier then Some (ClientTwice (length earlier))
    else if list_any (λ row. do_overlap row client) earlier then Some (GrantOverlap (length earlier))
    else None

-- the fault of the first client that can't follow those before it
abbrev pub begin_fault : List Client → Option BeginFault
begin_fault clients = first_answer fault_behind clients
