use Rattle.std.proofs.Common.{◌≡◌, ℕ, Some, None, IfSome, IfNone, option_map, sym, ap, ◌∙◌}
use Rattle.kfs_types.specs.Views.{header_of}
use Rattle.kfs_maps.specs.Pages.Shown.{part}
use Rattle.kfs_model.specs.Table.{get, empty}
use Rattle.kfs_image_nodes.proofs.HeaderPages.{get-heads_in_page, no_headers, no_heads_in_page}
use Rattle.kfs_image_nodes.proofs.layout.Shape.page.Goals as goal

pub returns-clause-headers : goal.returns-clause-headers
returns-clause-headers g c =
    let headers = c.self.inside.rows.headers in
    elim c.page.result as (λ r. IfSome r (λ page. page.now ≡ record { index = c.args.index; values = part c.args.index headers }) → IfSome r (λ page. (n : ℕ) → option_map header_of (get page.now.values n) ≡ get (part c.args.index c.args.self.now.heads) n)) [
      | Some page ↦ λ is n.
          ap (λ sheet. option_map header_of (get sheet.values n)) is ∙ sym (get-heads_in_page c.args.index headers n) ∙ ap (λ contents. get (part c.args.index contents.heads) n) c.self.view_is
      | None ↦ λ none. none
    ] c.page.ensures.page

pub returns-clause-some : goal.returns-clause-some
returns-clause-some g c =
    let headers = c.self.inside.rows.headers in
    elim c.page.result as (λ r. IfSome r (λ page. part c.args.index headers ≡ empty → ⊥) → IfSome r (λ page. part c.args.index c.args.self.now.heads ≡ empty → ⊥)) [
      | Some page ↦ λ some none. some (no_headers c.args.index headers (ap (λ contents. part c.args.index contents.heads) c.self.view_is ∙ none))
      | None ↦ λ none. none
    ] c.page.ensures.some

pub returns-clause-none : goal.returns-clause-none
returns-clause-none g c =
    let headers = c.self.inside.rows.headers in
    elim c.page.result as (λ r. IfNone r (part c.args.index headers ≡ empty) → IfNone r (part c.args.index c.args.self.now.heads ≡ empty)) [
      | Some page ↦ λ some. some
      | None ↦ λ none. sym (ap (λ contents. part c.args.index contents.heads) c.self.view_is) ∙ no_heads_in_page c.args.index headers none
    ] c.page.ensures.none
