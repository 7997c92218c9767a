use Rattle.std.proofs.Common.{◌≡◌, true, false}
use Rattle.kfs_c.proofs.Names.{first_found}
use Rattle.kfs_c.proofs.listing.next_name.Goals as goal

untrue : false ≡ true → ⊥
untrue e = cc

pub returns-in-None-clause-found : goal.returns-in-None-clause-found
returns-in-None-clause-found c =
    first_found c.args.image.now.names c.args.directory c.args.after.now c.requires (λ is. untrue (c.in-None.ensures.valid.1 is))
    (λ name number leads. (c.shape-shape.ensures.lawful.tree.sound.names_sound c.args.directory name number leads).spelled)
    c.next_name-in-None.result c.next_name-in-None.ensures.found
