use Rattle.kfs_fsck.proofs.parts.InPartsAskRows.least_unordered.Goals as goal

pub least_of_pairs-requires-sync-typeof-rt : goal.least_of_pairs-requires-sync-typeof-rt
least_of_pairs-requires-sync-typeof-rt g c κs within = c.requires
