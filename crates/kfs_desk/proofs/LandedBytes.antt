-- A Yes lands with its bytes: with the fill of its log it makes the machine's step, and without room nothing changes.
use Rattle.std.proofs.Common.{◌≡◌, Bool, ℕ, ◌<◌, ◌≤◌, cond, List, [], length, Some, None, Result, Ok, refl, sym, ap, subst, ◌∙◌, le-ltb, lt-ltb}
use Rattle.std.specs.List.{AllByRecursion}
use Rattle.kfs_model.specs.Entry.{Entry}
use Rattle.kfs_model.specs.Judgement.{Accepted, IsJudgement, NoRoom, Reading, State, Submission, Yes, client_sight_of, free_places, reply_to, verdict_on}
use Rattle.kfs_model.specs.Machine.{OneByOne, Replied, Row, Submit, landed, next, outcome_of, replied}
use Rattle.kfs_model.specs.Placement.{need}
use Rattle.kfs_model.specs.Plan.{ArePieces}
use Rattle.kfs_model.specs.PlanRow.{Piece}
use Rattle.kfs_model.specs.Run.{EntryFault, Mark, byte_of, looked_up}
use Rattle.kfs_model.specs.Sight.{ClientSight}
use Rattle.kfs_model.specs.Soundness.{IsSound}
use Rattle.kfs_model.specs.Tree.{Tree, headers}
use Rattle.kfs_model.proofs.Cells.{headers-recut, recut}
use Rattle.kfs_model.proofs.Marks.{marks_give_bytes}
use Rattle.kfs_model.proofs.RowFits.{row_fits}
use Rattle.kfs_types.specs.declared.entry.Log.{Log as CodeLog}
use Rattle.kfs_types.specs.declared.plan.Plan.{Plan as CodePlan}
use Rattle.kfs_entry.specs.Answers.{log_of, plan_of}
use Rattle.kfs_model.specs.Device.ShownTree.{DeviceImage, IsLawful, shown_tree}
use Rattle.kfs_image.specs.Tier.Unused.{unused_places}
use Rattle.kfs_image_nodes.specs.Contents.{Contents}
use Rattle.kfs_image_nodes.specs.Change.{reheaded, renamed}
use Rattle.kfs_image_nodes.specs.declared.net.Net.{Net}
use Rattle.kfs_image.specs.declared.net.Fill.{Fill}
use Rattle.kfs_image.specs.Net.{CanApply, applied}
use Rattle.kfs_desk.specs.declared.fill.bytes.LogBytes.{LogBytes}
use Rattle.kfs_desk.specs.Fill.Bytes.{entries_of, pieces_of}
use Rattle.kfs_desk.specs.Fill.FillOf.{CanLandWith, Fills, HasLandedWith, IsFillOf, places_of}
use Rattle.kfs_desk.proofs.FillLemmas.LandedImages.{IsLanding, landed_lawful, landed_placement, landed_tree}
use Rattle.kfs_pieces.specs.Lefts.{IsFilled, PieceIsInRange}
use Rattle.kfs_plan.specs.Judging.{TellsYes}
use Rattle.kfs_desk.specs.declared.history.answers.Reply.TheVariants as replies
use Rattle.kfs_desk.specs.Landing.{ended_by}
use Rattle.kfs_desk.specs.Machine.{IsDesk, IsDone, IsStep, Parts, state_at, state_of}
use Rattle.kfs_desk.proofs.Landing.{contents_are, leases_end}
use Rattle.kfs_desk.proofs.WholePieces as whole

module _ (desk : Parts) (is_desk : IsDesk desk) (lawful : IsLawful desk.image) (submission : Submission) {A : Type 0} (log : CodeLog A (List ℕ)) (plan : CodePlan A (List ℕ)) (net : Net A (List ℕ)) (told : ℕ) (after : Tree ℕ) (marked_after : Tree Mark)
    (yes : TellsYes (state_of desk) submission (record { log = log; plan = plan; net = net; told = told }) after marked_after) where
  abbrev s : State
  s = state_of desk

  abbrev entries : List Entry
  entries = (log_of submission.log log).entries

  abbrev pieces : List Piece
  pieces = (plan_of plan).pieces

  abbrev sight_before : ClientSight
  sight_before = client_sight_of s yes.client.number

  -- how many places of tier 0 are free
  abbrev free : ℕ
  free = length (unused_places desk.image.sizes desk.image.placement 0)

  heads_alike : headers marked_after ≡ headers after
  heads_alike =
      let byte = byte_of s.tree entries in
      let both : ◌≡◌ {A = Result (Tree ℕ) EntryFault} (Ok (recut byte marked_after)) (Ok after) =
      ap (looked_up byte) (sym yes.comes.ran_marked) ∙ marks_give_bytes yes.client sight_before s.tree entries ∙ yes.comes.ran in
      let same : recut byte marked_after ≡ after = cc in
      sym (headers-recut byte marked_after) ∙ ap (λ (t : Tree ℕ). headers t) same

  heads_are : reheaded desk.image.heads net.nodes.items ≡ headers after
  heads_are = ap (λ (c : Contents). c.heads) (contents_are desk is_desk lawful submission log plan net told after marked_after yes)

  names_are : renamed desk.image.names net.names.items ≡ after.names
  names_are = ap (λ (c : Contents). c.names) (contents_are desk is_desk lawful submission log plan net told after marked_after yes)

  -- the plan's pieces can be cut into blocks
  pub plan_whole : AllByRecursion PieceIsInRange plan.pieces
  plan_whole = whole.pieces_whole yes.client sight_before s.tree entries marked_after refl yes.comes.ran_marked log.version yes.spelled.log_read.0.1 after yes.comes.sound heads_alike plan.pieces yes.right.pieces.said

  pub plan_filled : AllByRecursion IsFilled plan.pieces
  plan_filled = whole.pieces_filled marked_after plan.pieces yes.right.pieces.said

  -- ---- with room

  module _ (fill : Fill A) (bytes : LogBytes A) (says : entries_of bytes ≡ entries) (tells : pieces_of bytes ≡ pieces) (is : IsFillOf desk.image bytes net.nodes.items fill) (room : told ≤ free) where
    abbrev places : List ℕ
    places = places_of fill.rows.items

    fills : Fills s entries pieces after marked_after fill
    fills =
        subst (λ es. Fills s es pieces after marked_after fill) says
        (subst (λ ps. Fills s (entries_of bytes) ps after marked_after fill) tells
        (is s after marked_after refl refl refl heads_alike heads_are (subst (ArePieces marked_after) (sym tells) yes.right.pieces) (subst (λ n. n ≤ free) yes.need_told room)))

    landing : IsLanding desk.image s yes.client sight_before entries after marked_after pieces net fill places
    landing = record {
      lawful = lawful;
      tree = refl;
      placement = refl;
      sizes = refl;
      ran = yes.comes.ran;
      marks = yes.comes.ran_marked;
      sound = yes.comes.sound;
      right = yes.right.pieces;
      heads = heads_are;
      names = names_are;
      chosen = fills.chosen;
      rows = fills.rows;
      cleared = fills.cleared;
    }

    -- The net and the fill can be applied.
    pub can_apply : CanApply net fill desk.image
    can_apply = landed_lawful desk.image s yes.client sight_before entries after marked_after pieces net fill places landing

    -- the state where both have been applied
    abbrev state_filled : State
    state_filled = state_at (applied net fill desk.image) desk.clients (ended_by desk.leases net.nodes.items)

    tree_is : shown_tree (applied net fill desk.image) ≡ after
    tree_is = landed_tree desk.image s yes.client sight_before entries after marked_after pieces net fill places landing

    -- It is the machine's state after the landing.
    filled_is : state_filled ≡ landed s after marked_after places
    filled_is = λ i. record {
      clients = desk.clients;
      sizes = desk.image.sizes;
      tree = tree_is i;
      leases = leases_end desk is_desk lawful submission log plan net told after marked_after yes i;
      placement = landed_placement desk.image s yes.client sight_before entries after marked_after pieces net fill places landing i;
    }

    answer : reply_to s (Yes after marked_after) ≡ Accepted told
    unfolding reply_to free_places
    answer =
        ap (λ b. cond b (NoRoom (need marked_after) free) (Accepted (need marked_after))) (le-ltb free (need marked_after) (subst (λ n. n ≤ free) yes.need_told room))
        ∙ ap Accepted (sym yes.need_told)

    -- the submission with the places of the fill
    abbrev row_filled : (again : Bool) → Reading → Row
    row_filled again reading = record { call = Submit submission reading; answer = Replied (Accepted told); rejudged = again; places = places }

    fits_filled : (again : Bool) (reading : Reading) → Yes after marked_after ≡ verdict_on s submission.client reading → next s (row_filled again reading) ≡ Some (landed s after marked_after places)
    unfolding outcome_of
    fits_filled again reading judged = row_fits s (landed s after marked_after places) _ (
        ap (λ verdict. replied s places verdict (reply_to s verdict)) (sym judged)
        ∙ ap (replied s places (Yes after marked_after)) answer
        ∙ ap (λ b. cond b (Some (Replied (Accepted told), landed s after marked_after places)) None) fills.chosen
        )

    pub step_filled : (judgement : IsJudgement s submission (Yes after marked_after)) → (position : ℕ) (again : Bool) → IsStep s submission (replies.Yes position again told) (row_filled again judgement.reading) state_filled
    step_filled judgement position again = record {
      reading = judgement.reading;
      read = judgement.read;
      asked = refl;
      reply = Accepted told;
      said = refl;
      answered = refl;
      rejudged = refl;
      least = fills.least;
      fits = fits_filled again judgement.reading judgement.judgement ∙ ap Some (sym filled_is);
    }

    pub done_filled : IsDone s submission state_filled
    done_filled = record {
      done = record {
        client = yes.client;
        row = yes.row;
        log = log_of submission.log log;
        spelled = yes.spelled.log_read;
        holds = subst (OneByOne yes.client sight_before 0 [] s.tree entries) (sym tree_is) yes.comes.allowed;
      };
      sound = subst IsSound (sym tree_is) yes.comes.sound;
    }

  -- ---- what land_bytes is asked for and leaves

  module _ (bytes : LogBytes A) (says : entries_of bytes ≡ entries) (tells : pieces_of bytes ≡ pieces) (room : told ≤ free) where
    pub can_land_with : CanLandWith desk.image bytes net
    can_land_with fill is = can_apply fill bytes says tells is room

    module _ (new : DeviceImage) (has : HasLandedWith desk.image bytes net new) where
      -- the state with the image that it leaves
      abbrev pub state_landed : State
      state_landed = state_at new desk.clients (ended_by desk.leases net.nodes.items)

      -- the same of the image that the fill makes
      with_new : (P : State → Type 0) → P (state_filled has.fill bytes says tells has.is room) → P state_landed
      with_new P = subst (λ image. P (state_at image desk.clients (ended_by desk.leases net.nodes.items))) (sym has.made)

      pub step_landed : IsJudgement s submission (Yes after marked_after) → (position : ℕ) (again : Bool) → (row : Row) × IsStep s submission (replies.Yes position again told) row state_landed
      step_landed judgement position again =
          with_new (λ t. (row : Row) × IsStep s submission (replies.Yes position again told) row t) (_, step_filled has.fill bytes says tells has.is room judgement position again)

      pub done_landed : IsDone s submission state_landed
      done_landed = with_new (IsDone s submission) (done_filled has.fill bytes says tells has.is room)

  -- ---- without room

  module _ (full : free < told) where
    no_room : reply_to s (Yes after marked_after) ≡ NoRoom told free
    unfolding reply_to free_places
    no_room =
        ap (λ b. cond b (NoRoom (need marked_after) free) (Accepted (need marked_after))) (lt-ltb free (need marked_after) (subst (λ n. free < n) yes.need_told full))
        ∙ ap (λ n. NoRoom n free) (sym yes.need_told)

    -- A row without places fits, and leaves the state as it is.
    pub fits_full : (again : Bool) (reading : Reading) → Yes after marked_after ≡ verdict_on s submission.client reading
        → next s (record { call = Submit submission reading; answer = Replied (NoRoom told free); rejudged = again; places = [] }) ≡ Some s
    unfolding outcome_of
    fits_full again reading judged = row_fits s s _ (
        ap (λ verdict. replied s [] verdict (reply_to s verdict)) (sym judged)
        ∙ ap (replied s [] (Yes after marked_after)) no_room
        )
