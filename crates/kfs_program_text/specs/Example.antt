-- The value of a worked line.
use Rattle.std.specs.Prelude.{[], ◌∷◌, false}
use Rattle.kfs_model.specs.Access.{Client}

abbrev pub client_twice_in_group_4 : Client
client_twice_in_group_4 = record { number = 7; uid = 1000; gid = 100; groups = 4 ∷ 4 ∷ []; privileged = false; first = 2; last = 99 }
