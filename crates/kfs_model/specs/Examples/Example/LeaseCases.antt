-- The leases and paths of the examples on leases: file 5 at "/a", and both clients' rows.
use Rattle.std.specs.Prelude.{ℕ, true, List, [], ◌∷◌, Result}
use Rattle.kfs_model.specs.Access.{Client}
use Rattle.kfs_model.specs.Sight.{sight}
use Rattle.kfs_model.specs.Tree.{Tree}
use Rattle.kfs_model.specs.Lease.{Leases, LeaseFault, LeaseKind, ReadLease, WriteLease, no_leases, granted, granted_by_number, dropped, ticked}
use Rattle.kfs_model.specs.Examples.Example.{client_7, client_8, name_a, name_d, directory, file, named, own_file, root, tree, with_file}

abbrev pub clients : List Client
clients = client_7 ∷ client_8 ∷ []

-- what the client is answered for a lease that ends at 100 (at this end), and the leases then
abbrev pub lease_until : Leases → (client : ℕ) → List ℕ → LeaseKind → (end : ℕ) → Result ℕ LeaseFault × Leases
lease_until leases client path kind end = granted leases (sight (with_file [])) clients client path kind end

abbrev pub lease : Leases → (client : ℕ) → LeaseKind → Result ℕ LeaseFault × Leases
lease leases client kind = lease_until leases client (47 ∷ 97 ∷ []) kind 100

abbrev pub drop : Leases → (client : ℕ) → Result ℕ LeaseFault × Leases
drop leases client = dropped leases clients client 5

-- ---- the paths "/", "a", "/zz" and "/a/b"

abbrev pub root_path : List ℕ
root_path = 47 ∷ []

abbrev pub no_slash : List ℕ
no_slash = 97 ∷ []

abbrev pub no_such : List ℕ
no_such = 47 ∷ 122 ∷ 122 ∷ []

abbrev pub below_file : List ℕ
below_file = 47 ∷ 97 ∷ 47 ∷ 98 ∷ []

-- ---- one after another: 7 reads, 8 reads, 7 drops, 8 writes

abbrev pub read_by_7 : Leases
read_by_7 = (lease no_leases 7 ReadLease).1

abbrev pub read_by_both : Leases
read_by_both = (lease read_by_7 8 ReadLease).1

abbrev pub read_by_8 : Leases
read_by_8 = (drop read_by_both 7).1

abbrev pub written_by_8 : Leases
written_by_8 = (lease read_by_8 8 WriteLease).1

abbrev pub at_5 : Leases
at_5 = (ticked no_leases 5).1

-- ---- by number: below "/d", a directory of client 8 with mode 0o700, lie three files

-- file 5 of client 7 with mode 0; file 6 of client 8 with mode 0o604; file 9 of client 8 with mode 0o602
abbrev pub below_closed : Tree ℕ
below_closed =
    tree (root ∷ directory 2 448 1001 1001 ∷ own_file 5 0 [] ∷ file 6 388 1001 1001 [] ∷ file 9 386 1001 1001 [] ∷ [])
    (named 1 name_d 2 ∷ named 2 name_a 5 ∷ named 2 (98 ∷ []) 6 ∷ named 2 (99 ∷ []) 9 ∷ [])

-- as client 7, and numbered 3, but privileged
abbrev pub privileged_3 : Client
privileged_3 = record client_7 { number = 3; uid = 1003; gid = 1003; privileged = true }

-- the path "/d/a"
abbrev pub path_to_5 : List ℕ
path_to_5 = 47 ∷ 100 ∷ 47 ∷ 97 ∷ []

-- what the client is answered for a lease by a path, and by a number
abbrev pub lease_by_path : (client : ℕ) → List ℕ → LeaseKind → Result ℕ LeaseFault × Leases
lease_by_path client path kind = granted no_leases (sight below_closed) (privileged_3 ∷ clients) client path kind 100

abbrev pub lease_on_until : Leases → (client number : ℕ) → LeaseKind → (end : ℕ) → Result ℕ LeaseFault × Leases
lease_on_until leases client number kind end = granted_by_number leases (sight below_closed) (privileged_3 ∷ clients) client number kind end

abbrev pub lease_on : (client number : ℕ) → LeaseKind → Result ℕ LeaseFault × Leases
lease_on client number kind = lease_on_until no_leases client number kind 100

-- client 7 writes file 5
abbrev pub written_by_7 : Leases
written_by_7 = (lease_on 7 5 WriteLease).1
