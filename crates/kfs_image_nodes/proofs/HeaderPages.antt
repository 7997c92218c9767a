-- The headers of one page, and the next one of all pages, as the model has them.
use Rattle.std.specs.Prelude.{IsSome}
use Rattle.std.proofs.Common.{◌≡◌, ℕ, ◌==◌, Bool, true, false, cond, Option, Some, None, option_map, refl, sym, ap, subst, ◌∙◌}
use Rattle.kfs_types.specs.declared.entry.Header.{Header as CodeHeader}
use Rattle.kfs_types.specs.Views.{header_of}
use Rattle.kfs_maps.specs.Pages.Edits.{page_of}
use Rattle.kfs_maps.specs.Pages.Shown.{part}
use Rattle.kfs_maps.specs.Pages.Values.{IsNextNumber}
use Rattle.kfs_model.specs.Table.{Table, numbers, empty, get}
use Rattle.kfs_model.proofs.TableLaws.{same_table, get-mapped, get-retain}
use Rattle.kfs_image_nodes.specs.Look.{IsNextNode}
use Rattle.kfs_image_nodes.specs.Rows.{heads_of}

kept : (b : Bool) (o : Option CodeHeader) → cond b (option_map header_of o) None ≡ option_map header_of (cond b o None)
kept true o = refl
kept false o = refl

nothing : (o : Option CodeHeader) → option_map header_of o ≡ None → o ≡ None
nothing None none = refl
nothing (Some header) none = cc

pub get-heads_in_page : (index : ℕ) (headers : Table numbers CodeHeader) (n : ℕ) → get (part index (heads_of headers)) n ≡ option_map header_of (get (part index headers) n)
get-heads_in_page index headers n =
    get-retain (λ m. page_of m == index) (heads_of headers) n
    ∙ ap (λ o. cond (page_of n == index) o None) (get-mapped (λ number header. header_of header) headers n)
    ∙ kept (page_of n == index) (get headers n)
    ∙ ap (option_map header_of) (sym (get-retain (λ m. page_of m == index) headers n))

pub no_headers : (index : ℕ) (headers : Table numbers CodeHeader) → part index (heads_of headers) ≡ empty → part index headers ≡ empty
unfolding get
no_headers index headers none = same_table _ _ (λ n. nothing (get (part index headers) n) (sym (get-heads_in_page index headers n) ∙ ap (λ t. get t n) none))

pub no_heads_in_page : (index : ℕ) (headers : Table numbers CodeHeader) → part index headers ≡ empty → part index (heads_of headers) ≡ empty
unfolding get
no_heads_in_page index headers none = same_table _ _ (λ n. get-heads_in_page index headers n ∙ ap (λ t. option_map header_of (get t n)) none)

-- the next number that has a header is the next that a node has
pub next_header : (headers : Table numbers CodeHeader) (after number : ℕ) {header : CodeHeader} → IsNextNumber headers after number header → IsNextNode (heads_of headers) after number
next_header headers after number {header} next = record {
  node = subst IsSome (sym (get-mapped (λ number header. header_of header) headers number ∙ ap (option_map header_of) next.here)) refl;
  later = next.above;
  least = λ m above less. get-mapped (λ number header. header_of header) headers m ∙ ap (option_map header_of) (next.least m above less);
}
