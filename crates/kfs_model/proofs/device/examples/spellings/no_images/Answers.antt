-- Each answer is what the bytes are read as, by computation.
use Rattle.std.proofs.Common.{[], ◌∷◌, ◌++◌, drop, take, refl}
use Rattle.kfs_model.specs.Spelling.{is_name}
use Rattle.kfs_model.proofs.Reading.{byte_read, number16_read, number32_read, number64_read, name_read, kind_read, name_row_read, mark_read, version_read}
use Rattle.kfs_model.proofs.RowsRead.{rows_read}
use Rattle.kfs_model.specs.Device.Example.{root_bytes, large_tier_bytes}
use Rattle.kfs_model.proofs.DeviceLemmas.ImageReading.{limited_read, tier_read, blocks_read, raw_node_read, extent_read, image_header_read}
use Rattle.kfs_model.proofs.DeviceLemmas.OneImageAnswer.{image_reading}
use Rattle.kfs_model.proofs.DeviceLemmas.ImageAnswers.{image_is}
use Rattle.kfs_model.proofs.device.examples.spellings.no_images.Goals as goal

pub returns-clause-few : goal.returns-clause-few
unfolding image_reading byte_read number16_read number32_read number64_read name_read kind_read name_row_read mark_read version_read limited_read tier_read blocks_read raw_node_read extent_read image_header_read rows_read is_name
returns-clause-few c = image_is (take 28 (root_bytes 1 1 255)) refl _ refl

pub returns-clause-first_byte : goal.returns-clause-first_byte
unfolding image_reading byte_read number16_read number32_read number64_read name_read kind_read name_row_read mark_read version_read limited_read tier_read blocks_read raw_node_read extent_read image_header_read rows_read is_name
returns-clause-first_byte c = image_is (76 ∷ drop 1 (root_bytes 1 1 255)) refl _ refl

pub returns-clause-version_0 : goal.returns-clause-version_0
unfolding image_reading byte_read number16_read number32_read number64_read name_read kind_read name_row_read mark_read version_read limited_read tier_read blocks_read raw_node_read extent_read image_header_read rows_read is_name
returns-clause-version_0 c = image_is (root_bytes 0 1 255) refl _ refl

pub returns-clause-version_3 : goal.returns-clause-version_3
unfolding image_reading byte_read number16_read number32_read number64_read name_read kind_read name_row_read mark_read version_read limited_read tier_read blocks_read raw_node_read extent_read image_header_read rows_read is_name
returns-clause-version_3 c = image_is (root_bytes 3 1 255) refl _ refl

pub returns-clause-large_tier : goal.returns-clause-large_tier
unfolding image_reading byte_read number16_read number32_read number64_read name_read kind_read name_row_read mark_read version_read limited_read tier_read blocks_read raw_node_read extent_read image_header_read rows_read is_name
returns-clause-large_tier c = image_is (large_tier_bytes) refl _ refl

pub returns-clause-trailing : goal.returns-clause-trailing
unfolding image_reading byte_read number16_read number32_read number64_read name_read kind_read name_row_read mark_read version_read limited_read tier_read blocks_read raw_node_read extent_read image_header_read rows_read is_name
returns-clause-trailing c = image_is (root_bytes 1 1 255 ++ 0 ∷ []) refl _ refl
