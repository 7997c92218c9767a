use Rattle.std.proofs.Common.{refl}
use Rattle.std.proofs.lemmas.List.{length-map}
use Rattle.kfs_model.specs.Spelling.{entry_bytes}
use Rattle.kfs_types.specs.Views.{entry_of}
use Rattle.kfs_entry.proofs.RowLaws.{flat_map-map}
use Rattle.kfs_entry.proofs.DecodedLog.{entries_can_be_written}
use Rattle.kfs_entry.proofs.encoding.encode_log.Goals as goal

pub rows_len-requires : goal.rows_len-requires
rows_len-requires g c = rw c.as_slice-entries.ensures (entries_can_be_written c.args.log.now.version c.args.source.now c.args.log.now.entries c.requires.spans c.requires.ranges.1)

pub write_rows-requires : goal.write_rows-requires
write_rows-requires g c = rw c.as_slice-entries.ensures (entries_can_be_written c.args.log.now.version c.args.source.now c.args.log.now.entries c.requires.spans c.requires.ranges.1)

pub returns : goal.returns
returns g c =
    rw (
      c.in_ok-write_rows.ensures,
      c.in_ok-write_log.ensures,
      c.in_ok-out.ensures.items,
      c.as_slice-entries.ensures,
      length-map c.args.log.now.entries (entry_of c.args.source.now),
      flat_map-map (entry_of c.args.source.now) entry_bytes c.args.log.now.entries,
    ) refl
