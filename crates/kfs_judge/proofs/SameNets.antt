-- What a walk found holds with another net of the same rows, too.
use Rattle.std.proofs.Common.{◌≡◌, ℕ, Bool, List, Result, Ok, Err, sym, ap, subst}
use Rattle.std.specs.Prelude.{IsErr}
use Rattle.kfs_model.specs.Access.{Client}
use Rattle.kfs_model.specs.Entry.{Entry}
use Rattle.kfs_model.specs.Tree.{Tree}
use Rattle.kfs_model.specs.Sight.{Sight, client_sight}
use Rattle.kfs_model.specs.Run.{run, over_bytes}
use Rattle.kfs_image_nodes.specs.Lent.{IsSameNet}
use Rattle.kfs_image_nodes.specs.declared.net.Net.{Net}
use Rattle.kfs_pieces.specs.declared.log.FileSize.{FileSize}
use Rattle.kfs_judge.specs.declared.walk.EntryFault.{EntryFault as CodeEntryFault}
use Rattle.kfs_judge.specs.Step.Nets.{AreNamesOf, AreNodesOf, IsNetOf}
use Rattle.kfs_judge.specs.Walks.{ComesToTree, IsSameOutcome, fault_of}

module _ {A : Type 0} where
  pub same_net : (before after : Sight) (net other : Net A (List ℕ)) → IsSameNet net other → IsNetOf before after net → IsNetOf before after other
  same_net before after net other same is = record {
    names = subst (AreNamesOf before after) (sym same.names) is.names;
    nodes = subst (AreNodesOf before after) (ap (λ rows. rows.items) (sym same.nodes)) is.nodes;
  }

  module _ (client : Client) (held : ℕ → Bool) (t : Tree ℕ) (entries : List Entry) (sizes : List FileSize) where
    pub same_tree : (outcome other : Result (Net A (List ℕ)) CodeEntryFault) → IsSameOutcome outcome other → ComesToTree client held t entries outcome sizes → ComesToTree client held t entries other sizes
    same_tree (Err fault) (Err other) same comes = subst (λ f. run over_bytes client (client_sight t held) t entries ≡ Err (fault_of f)) (sym same) comes
    same_tree (Ok net) (Ok other) same comes = (comes.0, comes.1, comes.2, comes.3, same_net _ _ net other same comes.4, comes.5)
    same_tree (Err fault) (Ok other) same comes = absurd same
    same_tree (Ok net) (Err other) same comes = absurd same

  -- both are faults, or none is
  pub same_kind : (outcome other : Result (Net A (List ℕ)) CodeEntryFault) → IsSameOutcome outcome other → IsErr other → IsErr outcome
  same_kind (Err fault) (Err other) same is = is
  same_kind (Ok net) (Ok other) same is = is
  same_kind (Err fault) (Ok other) same is = absurd same
  same_kind (Ok net) (Err other) same is = absurd same
