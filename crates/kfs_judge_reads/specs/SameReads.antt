-- When two reads count as the same, and what is hashed of a read.
use Rattle.std.specs.Prelude.{Bool, ◌++◌}
use Rattle.std.specs.Hash as fed
use Rattle.kfs_image_nodes.specs.declared.cell.Cell.TheVariants as cells
use Rattle.kfs_judge_reads.specs.declared.reads.Read.{Read}
use Rattle.kfs_judge_reads.specs.declared.reads.Read.TheVariants as reads
use Rattle.kfs_judge_reads.specs.contracts.reads.ReadPartialEq.TheImpl as impl

-- the keys' own test
abbrev pub same_read : Read → Read → Bool
same_read = impl.eq-value.it

-- a header's number alone, since most reads are of headers and names
abbrev pub fed_read : Read → fed.HashWrites
fed_read (reads.Look (cells.Header number)) = fed.u32 number
fed_read (reads.Look (cells.Name dir name)) = fed.u32 dir ++ fed.slice fed.u8 name
fed_read (reads.Look (cells.Count dir)) = fed.u8 1 ++ fed.u32 dir
fed_read (reads.Look (cells.Parent number)) = fed.u8 2 ++ fed.u32 number
fed_read (reads.Lease number) = fed.u8 3 ++ fed.u32 number
