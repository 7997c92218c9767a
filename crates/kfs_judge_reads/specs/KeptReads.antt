-- Reads that are kept.
use Rattle.kfs_image_nodes.specs.declared.cell.Cell.TheVariants as cells
use Rattle.kfs_judge_reads.specs.declared.reads.Read.{Read}
use Rattle.kfs_judge_reads.specs.declared.reads.Read.TheVariants as reads
use Rattle.kfs_judge_reads.specs.declared.kept_read.Place.{Place}
use Rattle.kfs_judge_reads.specs.declared.kept_read.Place.TheVariants as places

-- the read at a place
abbrev pub read_at : {A : Type 0} → Place A → Read
read_at (places.Header number) = reads.Look (cells.Header number)
read_at (places.Name dir name) = reads.Look (cells.Name dir name)
read_at (places.Count dir) = reads.Look (cells.Count dir)
read_at (places.Parent number) = reads.Look (cells.Parent number)
read_at (places.Lease number) = reads.Lease number
