-- The rows of the root alone are the headers and names of a new image's tree.
use Rattle.std.proofs.Common.{◌≡◌, Some, refl, ◌∙◌}
use Rattle.kfs_model.specs.Header.{Directory}
use Rattle.kfs_model.specs.Table.{empty, insert, mapped, changed}
use Rattle.kfs_model.proofs.TableLaws.{same_entries_table}
use Rattle.kfs_model.specs.Limits.{greatest_mode_of_version_1}
use Rattle.kfs_image_nodes.specs.Contents.{Contents, root_alone}

pub root_is_alone : (rows : Contents) → rows.heads ≡ changed empty 1 (Some (record { kind = Directory; mode = greatest_mode_of_version_1; uid = 0; gid = 0; links = 1; size = 0 })) → rows.names ≡ empty → rows ≡ root_alone
unfolding changed insert mapped
root_is_alone rows heads names =
    let one = same_entries_table (changed empty 1 (Some (record { kind = Directory; mode = greatest_mode_of_version_1; uid = 0; gid = 0; links = 1; size = 0 }))) root_alone.heads refl in
    let none = same_entries_table empty root_alone.names refl in
    λ i. record { heads = (heads ∙ one) i; names = (names ∙ none) i }
