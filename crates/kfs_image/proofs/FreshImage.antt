-- A new image shows the tree of the root directory alone, and is lawful.
use Rattle.std.proofs.Common.{◌≡◌, ℕ, Bool, true, false, cond, List, Option, Some, None, option_map, refl, sym, ap, subst, ◌∙◌}
use Rattle.std.specs.Ordering.{eq_by_cmp}
use Rattle.kfs_model.specs.Limits.{greatest_mode_of_version_1}
use Rattle.kfs_model.specs.Table.{numbers, empty, get}
use Rattle.kfs_model.proofs.TableLaws.{same_table, get-mapped}
use Rattle.kfs_model.specs.Tree.{Tree, Node, DirectoryBody, headers, node_header, node_over}
use Rattle.kfs_model.specs.Soundness.{IsSound}
use Rattle.kfs_model.specs.Fresh.{fresh_tree}
use Rattle.kfs_model.proofs.FreshTree.{fresh_is_sound}
use Rattle.kfs_model.proofs.Heads.{get-headers}
use Rattle.kfs_model.specs.Placement.{TierSizes, AreTierSizes, Place, Placement}
use Rattle.kfs_model.specs.Device.Device.{Devices}
use Rattle.kfs_model.specs.Device.ShownTree.{IsLawful, file_bytes, shown_tree}
use Rattle.kfs_image.specs.Blocks.Blocks.{BlocksShown}
use Rattle.kfs_image_nodes.specs.Contents.{Contents, root_alone}
use Rattle.kfs_image.specs.Image.{image_with, fresh_image}

abbrev fresh : Tree ℕ
fresh = fresh_tree

abbrev no_blocks : Placement
no_blocks = empty

abbrev none_written : Devices
none_written = empty

-- a directory has no bytes, whatever stands in blocks
node_back : (content : ℕ → ℕ → List ℕ) (number : ℕ) → option_map (node_over content number) (option_map (node_header fresh.names number) (get fresh.nodes number)) ≡ get fresh.nodes number
unfolding get
node_back content number = by (eq_by_cmp numbers.compare number 1)
  where
    root : Option (Node ℕ)
    root = Some (record { mode = greatest_mode_of_version_1; uid = 0; gid = 0; body = DirectoryBody })

    by : (at_root : Bool) → option_map (node_over content number) (option_map (node_header fresh.names number) (cond at_root root None)) ≡ cond at_root root None
    by true = refl
    by false = refl

module _ (sizes : TierSizes) where
  nodes_shown : (shown_tree (fresh_image sizes)).nodes ≡ fresh.nodes
  nodes_shown = same_table _ fresh.nodes (λ number.
      get-mapped (node_over (file_bytes no_blocks none_written)) (headers fresh) number
      ∙ ap (option_map (node_over (file_bytes no_blocks none_written) number)) (get-headers fresh number)
      ∙ node_back (file_bytes no_blocks none_written) number)

  fresh_is_shown : shown_tree (fresh_image sizes) ≡ fresh
  fresh_is_shown = λ i. record { nodes = nodes_shown i; names = fresh.names }

  no_place : (block : ℕ × ℕ) (place : Place) → get no_blocks block ≡ Some place → ⊥
  unfolding get
  no_place block place is = cc

  no_bytes : (tier place : ℕ) (bytes : List ℕ) → get none_written (tier, place) ≡ Some bytes → ⊥
  unfolding get
  no_bytes tier place bytes is = cc

  fresh_is_lawful : AreTierSizes sizes → IsLawful (fresh_image sizes)
  fresh_is_lawful in_range = record {
    sizes = in_range;
    tree = record { sound = subst IsSound (sym fresh_is_shown) (fresh_is_sound ℕ); counted = ap (λ (t : Tree ℕ). headers t) fresh_is_shown };
    placed = record {
      laid = record { apart = λ block other place is also. absurd (no_place block place is); in_tier = λ block place is. absurd (no_place block place is) };
      of_files = λ number block place is. absurd (no_place (number, block) place is);
    };
    blocks = record { in_tier = λ tier place bytes is. absurd (no_bytes tier place bytes is); full = λ tier place bytes is. absurd (no_bytes tier place bytes is) };
  }

  -- no block is mapped or written
  abbrev pub no_block : BlocksShown
  no_block = record { sizes = sizes; placement = empty; devices = empty }

  pub fresh_from : AreTierSizes sizes → (contents : Contents) (blocks : BlocksShown) → contents ≡ root_alone → blocks ≡ no_block → IsLawful (image_with contents blocks)
  fresh_from in_range contents blocks root none = subst IsLawful (λ i. image_with (sym root i) (sym none i)) (fresh_is_lawful in_range)
