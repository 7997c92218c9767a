-- What a handle owns: what it holds, on the C library's heap, with the right to free its block; or nothing.
use Rattle.std.specs.Prelude.{Option, None, Some, Bool, true, false}
use base.Fml.{Fml, feq, fex, fsep}
use denote.RawPtr.{Ptr}
use denote.RattleType.{RattleType}
use Rattle.std.specs.Box.Ownership.{box_owns}
use Rattle.std.specs.Global.{Global}
use Rattle.std.specs.contracts.impls.GlobalAllocator.TheImpl.{ghosts}
use Rattle.kfs_c.specs.contracts.held.Held as held
use Rattle.kfs_c.specs.declared.held.Held.{Held}
use Rattle.kfs_c.specs.declared.loose.Loose.{Loose}

abbrev pub the_held : RattleType
the_held = held.the_row

-- this lies at the pointer, with the right to free its block
abbrev pub owns_held : Ptr → Held → Fml
owns_held at value = fex Global (λ alloc. box_owns (ghosts.dealloc_token alloc) the_held at value)

abbrev pub handle_owns : Bool → Ptr → Option Held → Fml
handle_owns full at None = feq Bool full false
handle_owns full at (Some value) = fsep (feq Bool full true) (owns_held at value)

-- what was taken out of a handle
abbrev pub taken : Option (Loose Held Global) → Option Held
taken None = None
taken (Some loose) = Some loose.value
