-- What the outcome of a verdict does to an image and its leases, and the answer to it.
use Rattle.std.specs.Prelude.{◌≡◌, ℕ, ◌≤◌, ◌<◌, ◌==◌, not, Bool, List, [], ◌∷◌, ◌++◌, length, Option, None, Some}
use Rattle.std.specs.List.{AllByRecursion}
use Rattle.kfs_model.specs.Lease.{Leases, without_gone}
use Rattle.kfs_model.specs.Plan.{PiecesAscend}
use Rattle.kfs_types.specs.declared.entry.Log.{Log}
use Rattle.kfs_types.specs.declared.entry.Header.{Header}
use Rattle.kfs_types.specs.declared.plan.NodeRow.{NodeRow}
use Rattle.kfs_types.specs.declared.plan.Plan.{Plan}
use Rattle.kfs_entry.specs.Answers.{SpansAreWithin, log_of, plan_of}
use Rattle.kfs_pieces.specs.Lefts.{IsFilled, PieceIsInRange}
use Rattle.kfs_image.specs.Tier.Unused.{unused_places}
use Rattle.kfs_image_nodes.specs.declared.net.Net.{Net}
use Rattle.kfs_model.specs.Device.ShownTree.{DeviceImage}
use Rattle.kfs_desk.specs.declared.fill.bytes.LogBytes.{LogBytes}
use Rattle.kfs_desk.specs.Fill.Bytes.{entries_of, pieces_of, HasPayloads}
use Rattle.kfs_desk.specs.Fill.FillOf.{CanLandWith, HasLandedWith}
use Rattle.kfs_plan.specs.declared.submission.Outcome.{Outcome}
use Rattle.kfs_plan.specs.declared.submission.Outcome.TheVariants as outcomes
use Rattle.kfs_desk.specs.declared.history.answers.Reply.{Reply}
use Rattle.kfs_desk.specs.declared.history.answers.Reply.TheVariants as replies

-- the leases after a row of a net: where the row's node is gone, those on it end
abbrev pub ended_with : Leases → (number : ℕ) → Option Header → Leases
ended_with leases number None = without_gone leases (λ node. not (node == number))
ended_with leases number (Some header) = leases

-- the leases after all rows
abbrev pub ended_by : Leases → List NodeRow → Leases
ended_by leases [] = leases
ended_by leases (row ∷ rows) = ended_by (ended_with leases row.number row.now) rows

-- the numbers of the nodes that the rows remove
abbrev pub removed_with : (number : ℕ) → Option Header → List ℕ
removed_with number None = number ∷ []
removed_with number (Some header) = []

abbrev pub removed_by : List NodeRow → List ℕ
removed_by [] = []
removed_by (row ∷ rows) = removed_with row.number row.now ++ removed_by rows

-- how many places of tier 0 hold no block
abbrev pub free_in : DeviceImage → ℕ
free_in image = length (unused_places image.sizes image.placement 0)

module _ {A : Type 0} where
  -- the log decodes from these bytes, and the pieces are the plan's
  pub record AreReadFrom (source : List ℕ) (log : Log A (List ℕ)) (plan : Plan A (List ℕ)) (bytes : LogBytes A) : Type 0 where
    pub entries : entries_of bytes ≡ (log_of source log).entries
    pub pieces : pieces_of bytes ≡ (plan_of plan).pieces

  -- payloads lie in the bytes; the pieces are in order and can be cut into blocks; and where there is
  -- room, the net can be applied
  pub record CanLandYes (image : DeviceImage) (source : List ℕ) (log : Log A (List ℕ)) (plan : Plan A (List ℕ)) (net : Net A (List ℕ)) (need : ℕ) : Type 0 where
    pub within : SpansAreWithin (length source) log
    pub ascend : PiecesAscend (plan_of plan).pieces
    pub whole : AllByRecursion PieceIsInRange plan.pieces
    pub filled : AllByRecursion IsFilled plan.pieces
    pub fits : need ≤ free_in image → (bytes : LogBytes A) → AreReadFrom source log plan bytes → CanLandWith image bytes net

  abbrev pub CanLand : DeviceImage → (source : List ℕ) → Outcome A (List ℕ) → Type 0
  CanLand image source (outcomes.No fault) = Unit {0}
  CanLand image source (outcomes.Yes log plan net need) = CanLandYes image source log plan net need

  -- what is asked of the bytes of a log and its net before they land
  pub record CanLandBytes (image : DeviceImage) (bytes : LogBytes A) (net : Net A (List ℕ)) : Type 0 where
    pub payloads : HasPayloads bytes
    pub pieces : PiecesAscend (pieces_of bytes)
    pub whole : AllByRecursion PieceIsInRange bytes.pieces.now
    pub filled : AllByRecursion IsFilled bytes.pieces.now
    pub fits : CanLandWith image bytes net

  -- the same as `HasLandedWith`, of which a proof sees no part
  unfoldable pub IsLandedWith : (old : DeviceImage) → LogBytes A → Net A (List ℕ) → (new : DeviceImage) → Type 0
  IsLandedWith old bytes net new = HasLandedWith old bytes net new

  -- the net was applied, with a fill of its log
  pub record HasLanded (old : DeviceImage) (source : List ℕ) (log : Log A (List ℕ)) (plan : Plan A (List ℕ)) (net : Net A (List ℕ)) (new : DeviceImage) : Type 0 where
    pub bytes : LogBytes A
    pub are : AreReadFrom source log plan bytes
    pub landed : HasLandedWith old bytes net new

  -- the answer to an outcome is right: a No passes on its fault; a Yes needs more places than there
  -- are, or its log was landed
  abbrev pub AnswersOutcome : (old : DeviceImage) → (source : List ℕ) → (position : ℕ) → (again : Bool) → Outcome A (List ℕ) → Reply → (new : DeviceImage) → Type 0
  AnswersOutcome old source position again (outcomes.No fault) reply new = (reply ≡ replies.No position again fault) × (new ≡ old)
  AnswersOutcome old source position again (outcomes.Yes log plan net need) (replies.No p rejudged fault) new = ⊥
  AnswersOutcome old source position again (outcomes.Yes log plan net need) (replies.NoRoom p rejudged n free) new =
      (replies.NoRoom p rejudged n free ≡ replies.NoRoom position again need (free_in old)) × (free_in old < need) × (new ≡ old)
  AnswersOutcome old source position again (outcomes.Yes log plan net need) (replies.Yes p rejudged n) new =
      (replies.Yes p rejudged n ≡ replies.Yes position again need) × (need ≤ free_in old) × HasLanded old source log plan net new

  -- the leases after the answer to a net: after a Yes, those on removed nodes have ended
  abbrev pub left_by : Leases → Net A (List ℕ) → Reply → Leases
  left_by leases net (replies.Yes position rejudged need) = ended_by leases net.nodes.items
  left_by leases net (replies.No position rejudged fault) = leases
  left_by leases net (replies.NoRoom position rejudged need free) = leases

  abbrev pub leases_left : Leases → Outcome A (List ℕ) → Reply → Leases
  leases_left leases (outcomes.No fault) reply = leases
  leases_left leases (outcomes.Yes log plan net need) reply = left_by leases net reply
