-- Each answer is what the bytes are read as, by computation.
use Rattle.std.proofs.Common.{[], ◌∷◌, ◌++◌, drop, take, refl}
use Rattle.kfs_model.specs.Spelling.{is_name}
use Rattle.kfs_model.proofs.Reading.{byte_read, number16_read, number32_read, number64_read, name_read, kind_read, name_row_read, mark_read, version_read}
use Rattle.kfs_model.proofs.RowsRead.{rows_read}
use Rattle.kfs_model.specs.Device.Example.{letters, header_bytes, root_row_bytes, root_bytes, file_row_bytes, name_a_bytes, extent_5_bytes, file_bytes_with, boastful_bytes}
use Rattle.kfs_model.proofs.DeviceLemmas.ImageReading.{limited_read, tier_read, blocks_read, raw_node_read, extent_read, image_header_read}
use Rattle.kfs_model.proofs.DeviceLemmas.OneImageAnswer.{image_reading}
use Rattle.kfs_model.proofs.DeviceLemmas.ImageAnswers.{image_is}
use Rattle.kfs_model.proofs.device.examples.spellings.no_rows.Goals as goal

pub returns-clause-node : goal.returns-clause-node
unfolding image_reading byte_read number16_read number32_read number64_read name_read kind_read name_row_read mark_read version_read limited_read tier_read blocks_read raw_node_read extent_read image_header_read rows_read is_name
returns-clause-node c = image_is (take 53 (root_bytes 1 1 255)) refl _ refl

pub returns-clause-kind : goal.returns-clause-kind
unfolding image_reading byte_read number16_read number32_read number64_read name_read kind_read name_row_read mark_read version_read limited_read tier_read blocks_read raw_node_read extent_read image_header_read rows_read is_name
returns-clause-kind c = image_is (header_bytes 1 2 0 0 ++ root_row_bytes 1 255 ++ 0 ∷ 0 ∷ 0 ∷ 5 ∷ 2 ∷ drop 5 file_row_bytes) refl _ refl

pub returns-clause-name : goal.returns-clause-name
unfolding image_reading byte_read number16_read number32_read number64_read name_read kind_read name_row_read mark_read version_read limited_read tier_read blocks_read raw_node_read extent_read image_header_read rows_read is_name
returns-clause-name c = image_is (header_bytes 1 2 1 0 ++ root_row_bytes 1 255 ++ file_row_bytes ++ take 9 name_a_bytes) refl _ refl

pub returns-clause-byte_too_few : goal.returns-clause-byte_too_few
unfolding image_reading byte_read number16_read number32_read number64_read name_read kind_read name_row_read mark_read version_read limited_read tier_read blocks_read raw_node_read extent_read image_header_read rows_read is_name
returns-clause-byte_too_few c = image_is (file_bytes_with (extent_5_bytes 0 1 (take 4095 (letters 1)))) refl _ refl

pub returns-clause-tier : goal.returns-clause-tier
unfolding image_reading byte_read number16_read number32_read number64_read name_read kind_read name_row_read mark_read version_read limited_read tier_read blocks_read raw_node_read extent_read image_header_read rows_read is_name
returns-clause-tier c = image_is (file_bytes_with (extent_5_bytes 3 1 (letters 1))) refl _ refl

pub returns-clause-no_block : goal.returns-clause-no_block
unfolding image_reading byte_read number16_read number32_read number64_read name_read kind_read name_row_read mark_read version_read limited_read tier_read blocks_read raw_node_read extent_read image_header_read rows_read is_name
returns-clause-no_block c = image_is (file_bytes_with (extent_5_bytes 0 0 [])) refl _ refl

pub returns-clause-counts_alone : goal.returns-clause-counts_alone
unfolding image_reading byte_read number16_read number32_read number64_read name_read kind_read name_row_read mark_read version_read limited_read tier_read blocks_read raw_node_read extent_read image_header_read rows_read is_name
returns-clause-counts_alone c = image_is (boastful_bytes) refl _ refl
