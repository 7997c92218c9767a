-- Each answer is what the bytes are read as, by computation.
use Rattle.std.proofs.Common.{[], ◌∷◌, ◌++◌, refl}
use Rattle.kfs_model.specs.Spelling.{is_name}
use Rattle.kfs_model.specs.Examples.Example.SpellingCases.{create_a_log_bytes, cut_log, in_version, set_group_bytes, set_mode_bytes}
use Rattle.kfs_model.proofs.Reading.{byte_read, number16_read, number32_read, number64_read, name_read, payload_read, kind_read, mode_read, group_read, entry_read, name_row_read, header_read, node_row_read, source_read, piece_read, mark_read, version_read, count_read, log_header_read, plan_header_read}
use Rattle.kfs_model.proofs.RowsRead.{rows_read}
use Rattle.kfs_model.proofs.OneLogAnswer.{log_reading}
use Rattle.kfs_model.proofs.ReadingIs.{log_is}
use Rattle.kfs_model.proofs.examples.spellings.no_logs.Goals as goal

pub returns-clause-header : goal.returns-clause-header
unfolding log_reading byte_read number16_read number32_read number64_read name_read payload_read kind_read mode_read entry_read name_row_read header_read node_row_read source_read piece_read mark_read version_read count_read log_header_read plan_header_read rows_read is_name
returns-clause-header c = log_is (cut_log 10) refl _ refl

pub returns-clause-version_0 : goal.returns-clause-version_0
unfolding log_reading byte_read number16_read number32_read number64_read name_read payload_read kind_read mode_read entry_read name_row_read header_read node_row_read source_read piece_read mark_read version_read count_read log_header_read plan_header_read rows_read is_name
returns-clause-version_0 c = log_is (in_version 0 create_a_log_bytes) refl _ refl

pub returns-clause-version_3 : goal.returns-clause-version_3
unfolding log_reading byte_read number16_read number32_read number64_read name_read payload_read kind_read mode_read entry_read name_row_read header_read node_row_read source_read piece_read mark_read version_read count_read log_header_read plan_header_read rows_read is_name
returns-clause-version_3 c = log_is (in_version 3 create_a_log_bytes) refl _ refl

pub returns-clause-first_mode : goal.returns-clause-first_mode
unfolding log_reading byte_read number16_read number32_read number64_read name_read payload_read kind_read mode_read entry_read name_row_read header_read node_row_read source_read piece_read mark_read version_read count_read log_header_read plan_header_read rows_read is_name
returns-clause-first_mode c = log_is (set_mode_bytes 3 255) refl _ refl

pub returns-clause-second_mode : goal.returns-clause-second_mode
unfolding log_reading byte_read number16_read number32_read number64_read name_read payload_read kind_read mode_read entry_read name_row_read header_read node_row_read source_read piece_read mark_read version_read count_read log_header_read plan_header_read rows_read is_name
returns-clause-second_mode c = log_is (in_version 2 (set_mode_bytes 4 0)) refl _ refl

pub returns-clause-group : goal.returns-clause-group
unfolding log_reading byte_read number16_read number32_read number64_read name_read payload_read kind_read mode_read group_read entry_read name_row_read header_read node_row_read source_read piece_read mark_read version_read count_read log_header_read plan_header_read rows_read is_name
returns-clause-group c = log_is set_group_bytes refl _ refl

pub returns-clause-entry : goal.returns-clause-entry
unfolding log_reading byte_read number16_read number32_read number64_read name_read payload_read kind_read mode_read entry_read name_row_read header_read node_row_read source_read piece_read mark_read version_read count_read log_header_read plan_header_read rows_read is_name
returns-clause-entry c = log_is (cut_log 24) refl _ refl

pub returns-clause-trailing : goal.returns-clause-trailing
unfolding log_reading byte_read number16_read number32_read number64_read name_read payload_read kind_read mode_read entry_read name_row_read header_read node_row_read source_read piece_read mark_read version_read count_read log_header_read plan_header_read rows_read is_name
returns-clause-trailing c = log_is (create_a_log_bytes ++ 0 ∷ []) refl _ refl
