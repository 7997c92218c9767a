-- Each answer is what the bytes are read as, by computation.
use Rattle.std.proofs.Common.{[], ◌∷◌, ◌++◌, take, refl}
use Rattle.kfs_model.specs.Spelling.{is_name}
use Rattle.kfs_model.specs.Examples.Example.SpellingCases.{create_a_plan_bytes, cut_plan, edits_plan_bytes, in_version}
use Rattle.kfs_model.proofs.Reading.{byte_read, number16_read, number32_read, number64_read, name_read, payload_read, kind_read, mode_read, entry_read, name_row_read, header_read, node_row_read, source_read, piece_read, mark_read, version_read, count_read, log_header_read, plan_header_read}
use Rattle.kfs_model.proofs.RowsRead.{rows_read}
use Rattle.kfs_model.proofs.OnePlanAnswer.{plan_reading}
use Rattle.kfs_model.proofs.ReadingIs.{plan_is}
use Rattle.kfs_model.proofs.examples.spellings.no_plans.Goals as goal

pub returns-clause-header : goal.returns-clause-header
unfolding plan_reading byte_read number16_read number32_read number64_read name_read payload_read kind_read mode_read entry_read name_row_read header_read node_row_read source_read piece_read mark_read version_read count_read log_header_read plan_header_read rows_read is_name
returns-clause-header c = plan_is (cut_plan 12) refl _ refl

pub returns-clause-version_0 : goal.returns-clause-version_0
unfolding plan_reading byte_read number16_read number32_read number64_read name_read payload_read kind_read mode_read entry_read name_row_read header_read node_row_read source_read piece_read mark_read version_read count_read log_header_read plan_header_read rows_read is_name
returns-clause-version_0 c = plan_is (in_version 0 create_a_plan_bytes) refl _ refl

pub returns-clause-version_3 : goal.returns-clause-version_3
unfolding plan_reading byte_read number16_read number32_read number64_read name_read payload_read kind_read mode_read entry_read name_row_read header_read node_row_read source_read piece_read mark_read version_read count_read log_header_read plan_header_read rows_read is_name
returns-clause-version_3 c = plan_is (in_version 3 create_a_plan_bytes) refl _ refl

pub returns-clause-name_row : goal.returns-clause-name_row
unfolding plan_reading byte_read number16_read number32_read number64_read name_read payload_read kind_read mode_read entry_read name_row_read header_read node_row_read source_read piece_read mark_read version_read count_read log_header_read plan_header_read rows_read is_name
returns-clause-name_row c = plan_is (cut_plan 22) refl _ refl

pub returns-clause-node_row : goal.returns-clause-node_row
unfolding plan_reading byte_read number16_read number32_read number64_read name_read payload_read kind_read mode_read entry_read name_row_read header_read node_row_read source_read piece_read mark_read version_read count_read log_header_read plan_header_read rows_read is_name
returns-clause-node_row c = plan_is (cut_plan 47) refl _ refl

pub returns-clause-piece : goal.returns-clause-piece
unfolding plan_reading byte_read number16_read number32_read number64_read name_read payload_read kind_read mode_read entry_read name_row_read header_read node_row_read source_read piece_read mark_read version_read count_read log_header_read plan_header_read rows_read is_name
returns-clause-piece c = plan_is (take 139 edits_plan_bytes) refl _ refl

pub returns-clause-trailing : goal.returns-clause-trailing
unfolding plan_reading byte_read number16_read number32_read number64_read name_read payload_read kind_read mode_read entry_read name_row_read header_read node_row_read source_read piece_read mark_read version_read count_read log_header_read plan_header_read rows_read is_name
returns-clause-trailing c = plan_is (create_a_plan_bytes ++ 0 ∷ []) refl _ refl
