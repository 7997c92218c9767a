-- The code's logs and plans as values of the definitions.
use Rattle.std.specs.Prelude.{ℕ, ◌+◌, ◌≤◌, List, slice_range}
use Rattle.std.specs.Option.{option_map}
use Rattle.kfs_types.specs.declared.entry.Kind.{Kind as CodeKind}
use Rattle.kfs_types.specs.declared.entry.Kind.TheVariants as kinds
use Rattle.kfs_types.specs.declared.entry.Header.{Header as CodeHeader}
use Rattle.kfs_types.specs.declared.plan.NameRow.{NameRow as CodeNameRow}
use Rattle.kfs_types.specs.declared.plan.NodeRow.{NodeRow as CodeNodeRow}
use Rattle.kfs_types.specs.declared.plan.Piece.{Piece as CodePiece}
use Rattle.kfs_types.specs.declared.plan.Source.{Source as CodeSource}
use Rattle.kfs_types.specs.declared.plan.Source.TheVariants as sources
use Rattle.kfs_types.specs.declared.entry.Span.{Span}
use Rattle.kfs_types.specs.declared.entry.Entry.{Entry as CodeEntry}
use Rattle.kfs_types.specs.declared.entry.Entry.TheVariants as entries
use Rattle.kfs_model.specs.Limits.{payload_limit}
use Rattle.kfs_model.specs.Header.{Kind, File, Directory, Header}
use Rattle.kfs_model.specs.Limits.{payload_limit}
use Rattle.kfs_model.specs.Entry.{Entry, Create, Write, Truncate, Link, Unlink, Rename, Chmod, Regroup}
use Rattle.kfs_model.specs.PlanRow.{NameRow, NodeRow, Source, Zero, Payload, Piece}

abbrev pub kind_of : CodeKind → Kind
kind_of kinds.File = File
kind_of kinds.Directory = Directory

-- the bytes of the source that a span points to
abbrev pub span_bytes : List ℕ → Span → List ℕ
span_bytes source s = slice_range source s.start s.end

-- the entry, with the payload's bytes in place of its span
abbrev pub entry_of : List ℕ → CodeEntry Span (List ℕ) → Entry
entry_of source (entries.Create d m n k mode) = Create d m n (kind_of k) mode
entry_of source (entries.Write n offset p) = Write n offset (span_bytes source p)
entry_of source (entries.Truncate n size) = Truncate n size
entry_of source (entries.Link n d m) = Link n d m
entry_of source (entries.Unlink d m k) = Unlink d m (kind_of k)
entry_of source (entries.Rename d m e k) = Rename d m e k
entry_of source (entries.Chmod n mode) = Chmod n mode
entry_of source (entries.Regroup n group) = Regroup n group

-- the payload's span lies in a source of this length
abbrev pub IsWithin : ℕ → CodeEntry Span (List ℕ) → Type 0
IsWithin len (entries.Write n offset p) = (p.start ≤ p.end) × (p.end ≤ len)
IsWithin len (entries.Create d m n k mode) = Unit {0}
IsWithin len (entries.Truncate n size) = Unit {0}
IsWithin len (entries.Link n d m) = Unit {0}
IsWithin len (entries.Unlink d m k) = Unit {0}
IsWithin len (entries.Rename d m e k) = Unit {0}
IsWithin len (entries.Chmod n mode) = Unit {0}
IsWithin len (entries.Regroup n group) = Unit {0}

-- a payload's span doesn't end before it starts, and is no longer than a payload may be
abbrev pub IsSpanned : CodeEntry Span (List ℕ) → Type 0
IsSpanned (entries.Write n offset p) = (p.start ≤ p.end) × (p.end ≤ p.start + payload_limit)
IsSpanned (entries.Create d m n k mode) = Unit {0}
IsSpanned (entries.Truncate n size) = Unit {0}
IsSpanned (entries.Link n d m) = Unit {0}
IsSpanned (entries.Unlink d m k) = Unit {0}
IsSpanned (entries.Rename d m e k) = Unit {0}
IsSpanned (entries.Chmod n mode) = Unit {0}
IsSpanned (entries.Regroup n group) = Unit {0}

abbrev pub header_of : CodeHeader → Header
header_of h = record { kind = kind_of h.kind; mode = h.mode; uid = h.uid; gid = h.gid; links = h.links; size = h.size }

abbrev pub name_row_of : CodeNameRow (List ℕ) → NameRow
name_row_of r = record { directory = r.dir; name = r.name; number = r.number }

abbrev pub node_row_of : CodeNodeRow → NodeRow
node_row_of r = record { number = r.number; now = option_map header_of r.now }

abbrev pub source_of : CodeSource → Source
source_of sources.Zero = Zero
source_of (sources.Payload entry place) = Payload entry place

abbrev pub piece_of : CodePiece → Piece
piece_of p = record { number = p.number; start = p.start; length = p.len; source = source_of p.source }
