use Rattle.std.proofs.Common.{◌≡◌, List, [], ◌∷◌, ◌++◌, sym, ap, subst, ◌∙◌}
use Rattle.kfs_model.specs.Migration.{Move}
use Rattle.kfs_image.specs.declared.edit.Edit.{Edit}
use Rattle.kfs_image.specs.declared.edit.Edit.TheVariants.{Map, Bytes}
use Rattle.std.specs.Prelude.{Some}
use Rattle.kfs_migrate.specs.Applied.{AddsEdits, AreBytesOf}
use Rattle.kfs_migrate.proofs.MadeMoves.{append_two}
use Rattle.kfs_migrate.proofs.apply.add_edits.Goals as goal

pub returns : goal.returns
returns g c =
    let m : Move = record { number = c.m.inside.number; block = c.m.inside.block; target = record { tier = c.m.inside.tier; place = c.m.inside.place } } in
    let old = c.args.edits.now.items in
    let mapped : Edit g.row.A.Denot = Map m.number m.block (Some (m.target.tier, m.target.place)) in
    let written : Edit g.row.A.Denot = Bytes m.target.tier m.target.place c.in_ok-bytes.bytes in
    subst (λ (x : Move). AddsEdits c.args.image.now x old c.push-2.new.self.items) c.m.view_is (record {
      block = c.in_ok-bytes.bytes;
      bytes = subst (λ (x : Move). AreBytesOf c.args.image.now x c.in_ok-bytes.bytes.items) (sym c.m.view_is) c.in_ok-bytes.ensures;
      added = c.in_ok-push-2.ensures.items ∙ ap (λ (es : List (Edit g.row.A.Denot)). es ++ written ∷ []) c.in_ok-push.ensures.items ∙ append_two old mapped written;
    })
