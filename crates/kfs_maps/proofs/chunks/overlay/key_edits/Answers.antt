use Rattle.std.proofs.Common.{sym, ap, subst, ◌∙◌}
use Rattle.kfs_maps.specs.Chunks.Edits.{edited, KeysAscend}
use Rattle.kfs_maps.proofs.ChunksLemmas.Overlays.{key_edits_ascend, key_edits_say}
use Rattle.kfs_maps.proofs.chunks.overlay.key_edits.Goals as goal

pub returns-clause-ascend : goal.returns-clause-ascend
returns-clause-ascend g c =
    subst (KeysAscend g.K.Ord.cmp) (sym c.in_ok-list_keys.ensures.edits) (key_edits_ascend g.K.Ord.cmp c.args.overlay.now.latest.entries c.list_keys.ensures.ordered)

pub returns-clause-said : goal.returns-clause-said
returns-clause-said g c = λ q there.
    ap (λ edits. edited g.K.Ord.cmp edits q there) c.in_ok-list_keys.ensures.edits
    ∙ key_edits_say g.met.K.Ord.total c.args.overlay.now.latest.entries q there c.list_keys.ensures.ordered
