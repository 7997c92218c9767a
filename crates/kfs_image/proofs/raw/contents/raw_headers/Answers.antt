use Rattle.std.proofs.Common.{map, sym, ap, subst, ◌∙◌}
use Rattle.kfs_maps.specs.Pages.Edits.{rewritten, AreEdits}
use Rattle.kfs_image_nodes.specs.Rows.{heads_of}
use Rattle.kfs_image.specs.Raw.Rows.{header_edit}
use Rattle.kfs_image.proofs.RawLemmas.RawRows.{are_edits, heads_made}
use Rattle.kfs_image.proofs.raw.contents.raw_headers.Goals as goal

pub change_then-requires : goal.change_then-requires
change_then-requires g c =
    let edits = c.as_slice-2.ensures.value ∙ c.in_ok-edits.ensures ∙ ap (map header_edit) c.as_slice.ensures.value in
    record { edits = subst AreEdits (sym edits) (are_edits c.args.raw.now c.requires); then = tt }

pub returns : goal.returns
returns g c =
    let edits = c.as_slice-2.ensures.value ∙ c.in_ok-edits.ensures ∙ ap (map header_edit) c.as_slice.ensures.value in
    ap heads_of (c.in_ok-change_then.ensures.ok ∙ (λ i. rewritten (c.in_ok-headers.ensures i) (edits i))) ∙ heads_made c.args.raw.now c.requires
