-- The code's classes and wants as those of the definitions.
use Rattle.kfs_model.specs.Access as access
use Rattle.kfs_mode.specs.declared.class.Class.{Class}
use Rattle.kfs_mode.specs.declared.class.Class.TheVariants.{Owner, Group, Other}
use Rattle.kfs_mode.specs.declared.class.Want.{Want}
use Rattle.kfs_mode.specs.declared.class.Want.TheVariants.{Read, Write, Search}

abbrev pub class_shown : Class → access.Class
class_shown Owner = access.Owner
class_shown Group = access.Group
class_shown Other = access.Other

abbrev pub want_shown : Want → access.Want
want_shown Read = access.Read
want_shown Write = access.Write
want_shown Search = access.Search
