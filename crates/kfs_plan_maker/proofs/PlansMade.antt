-- What a walk with leases comes to: a right plan, or none.
use Rattle.std.proofs.Common.{◌≡◌, ℕ, ◌<◌, ◌≤◌, ◌^◌, Bool, List, [], length, map, Result, Ok, Err, refl, sym, ap, subst, ◌∙◌, inl, inr, arith}
use Rattle.std.proofs.lemmas.List.{length-map}
use Rattle.std.specs.Prelude.{IfOk, IsErr}
use mathlib.Core.List.{map-map}
use Rattle.kfs_model.specs.Access.{Client}
use Rattle.kfs_model.specs.CleanStep.{IsClient, Fits}
use Rattle.kfs_model.specs.Entry.{Entry, Log}
use Rattle.kfs_model.specs.Header.{Header}
use Rattle.kfs_model.specs.Plan.{AreDifferences, AreNameRows, AreNodeRows, ArePieces, header_now, keyed_name, keyed_node, number_now}
use Rattle.kfs_model.specs.Run.{Mark, EntryFault, run, over_bytes, over_marks, marked}
use Rattle.kfs_model.specs.Sight.{sight, client_sight}
use Rattle.kfs_model.specs.Soundness.{IsSound}
use Rattle.kfs_model.specs.Table.{Table, numbers, get}
use Rattle.kfs_model.specs.Tree.{Tree, NameTable, headers, name_order}
use Rattle.kfs_entry.specs.Answers.{log_of, plan_of}
use Rattle.kfs_types.specs.Views.{entry_of, name_row_of, node_row_of, piece_of}
use Rattle.kfs_types.specs.declared.entry.Log.{Log as CodeLog}
use Rattle.kfs_types.specs.declared.plan.Plan.{Plan as CodePlan}
use Rattle.kfs_image_nodes.specs.declared.net.Net.{Net}
use Rattle.kfs_judge.specs.Walks.{ComesToTree, HasOrderedSizes, fault_of}
use Rattle.kfs_judge.specs.declared.walk.EntryFault.{EntryFault as CodeEntryFault}
use Rattle.kfs_judge.specs.declared.walk.Walk.{Walk}
use Rattle.kfs_judge.specs.Step.Nets.{IsNetOf}
use Rattle.kfs_judge.specs.Step.Rows.{keyed_name_row, keyed_node_row}
use Rattle.kfs_plan.proofs.MarkedRuns.{ends_beside}
use Rattle.kfs_plan_maker.specs.AskedLeases.{sight_with_leases}
use Rattle.kfs_plan_maker.specs.PlanMade.{HasNoPlan, IsOwnLog, IsPlanOf}
use Rattle.kfs_plan_maker.specs.Rows.{IsShort}
use Rattle.kfs_plan_maker.specs.Walks.{HasRowsOf, IsLogFrom, IsWalkWithLeases}
use Rattle.kfs_plan_maker.proofs.LeasedRuns.{clean_run_from, same_marked_run, same_run}
use Rattle.kfs_plan_maker.proofs.PlanLength.{few_files, few_names, few_nodes}

-- a net's rows are right for the run over marks that ends beside
module _ {A : Type 0} (t after : Tree ℕ) (net : Net A (List ℕ)) (differs : IsNetOf (sight t) (sight after) net) (end : Tree Mark) where
  right_names : after.names ≡ end.names → AreNameRows t.names end.names (map name_row_of net.names.items)
  right_names same =
      subst (AreDifferences name_order number_now (get t.names) (get end.names)) (sym (map-map keyed_name name_row_of net.names.items))
      (subst (λ (names : NameTable). AreDifferences name_order number_now (get t.names) (get names) (map keyed_name_row net.names.items)) same differs.names)

  right_nodes : headers after ≡ headers end → AreNodeRows (headers t) (headers end) (map node_row_of net.nodes.items)
  right_nodes same =
      subst (AreDifferences numbers header_now (get (headers t)) (get (headers end))) (sym (map-map keyed_node node_row_of net.nodes.items))
      (subst (λ (heads : Table numbers Header). AreDifferences numbers header_now (get (headers t)) (get heads) (map keyed_node_row net.nodes.items)) same differs.nodes)

-- a run without a fault leads where the run with every lease leads
only_end : (client : Client) (t : Tree ℕ) (entries : List Entry) (after : Tree Mark) → run over_marks client (sight_with_leases t) (marked t) entries ≡ Ok after
    → (held : ℕ → Bool) → IfOk (run over_marks client (client_sight t held) (marked t) entries) (λ end. end ≡ after)
only_end client t entries after ran held = at (run over_marks client (client_sight t held) (marked t) entries) refl
  where
    at : (ended : Result (Tree Mark) EntryFault) → run over_marks client (client_sight t held) (marked t) entries ≡ ended → IfOk ended (λ end. end ≡ after)
    at (Ok end) is = let all = clean_run_from client (sight t) held over_marks 0 [] (marked t) entries end is in cc
    at (Err fault) is = tt

module _ {A : Type 0} (client : Client) (t : Tree ℕ) (source : List ℕ) (log : CodeLog A (List ℕ)) (from : IsLogFrom client.number source log) (in_range : IsClient client) (sound : IsSound t) (walk : Walk A (List ℕ)) (leased : IsWalkWithLeases client t log walk) where
  abbrev entries : List Entry
  entries = (log_of source log).entries

  fits : Fits client t entries
  fits = record { in_range = in_range; sound = sound; version = log.version; fitting = from.spelled.0.1 }

  comes : ComesToTree client leased.held t entries walk.outcome walk.sizes.items
  comes = leased.walks source from.within t leased.held fits leased.agrees

  pub own_spelled : IsOwnLog client source (log_of source log)
  own_spelled = record { spelled = from.spelled; owner = from.owner }

  -- a bad entry is bad with every lease, too
  pub no_plan : IsErr walk.outcome → HasNoPlan client t source
  no_plan bad other own = at walk.outcome refl bad
    where
      at : (outcome : Result (Net A (List ℕ)) CodeEntryFault) → walk.outcome ≡ outcome → IsErr outcome → IsErr (run over_bytes client (sight_with_leases t) t other.entries)
      at (Ok net) is bad = cc
      at (Err fault) is bad =
          let stops : run over_bytes client (client_sight t leased.held) t entries ≡ Err (fault_of fault) = subst (λ o. ComesToTree client leased.held t entries o walk.sizes.items) is comes in
          let with_all = sym (same_run client t entries fits leased.held (leased.named source)) ∙ stops in
          let same : log_of source log ≡ other = from.only other own.spelled in
          subst (λ (l : Log). IsErr (run over_bytes client (sight_with_leases t) t l.entries)) same (subst IsErr (sym with_all) refl)

  -- a plan of the walk's rows is right
  pub plan_is_right : (net : Net A (List ℕ)) → walk.outcome ≡ Ok net → (plan : CodePlan A (List ℕ)) → HasRowsOf log walk plan → IsPlanOf client t entries (plan_of plan)
  plan_is_right net is plan rows =
      let came : ComesToTree client leased.held t entries (Ok net) walk.sizes.items = subst (λ o. ComesToTree client leased.held t entries o walk.sizes.items) is comes in
      let end = ends_beside client (client_sight t leased.held) t entries came.0 came.1 in
      let pieces = rows.pieces client leased.walks source from.within t leased.held fits leased.agrees in
      let same_end : pieces.0 ≡ end.marked_after = (let one = pieces.1 in let two = end.ran in cc) in
      let ran = sym (same_marked_run client t entries fits leased.held (leased.named source)) ∙ end.ran in
      let parts = subst (λ o. IfOk o (λ (net : Net A (List ℕ)). (plan.names ≡ net.names.items) × (plan.nodes ≡ net.nodes.items))) is rows.net in
      record {
        after = end.marked_after;
        ran = ran;
        right = record {
          names = subst (λ names. AreNameRows t.names end.marked_after.names (map name_row_of names)) (sym parts.0) (right_names t came.0 net came.4 end.marked_after end.names);
          nodes = subst (λ nodes. AreNodeRows (headers t) (headers end.marked_after) (map node_row_of nodes)) (sym parts.1) (right_nodes t came.0 net came.4 end.marked_after end.heads);
          pieces = subst (λ marks. ArePieces marks (map piece_of plan.pieces)) same_end pieces.2;
        };
        only = only_end client t entries end.marked_after ran;
      }

  -- the parts of a plan of the walk's rows are as short as their counts ask
  pub plan_is_short : HasOrderedSizes walk → (net : Net A (List ℕ)) → walk.outcome ≡ Ok net → (plan : CodePlan A (List ℕ)) → HasRowsOf log walk plan → IsShort plan
  plan_is_short ordered net is plan rows =
      let came : ComesToTree client leased.held t entries (Ok net) walk.sizes.items = subst (λ o. ComesToTree client leased.held t entries o walk.sizes.items) is comes in
      let same = subst (λ o. IfOk o (λ (net : Net A (List ℕ)). (plan.names ≡ net.names.items) × (plan.nodes ≡ net.nodes.items))) is rows.net in
      let before = client_sight t leased.held in
      let names = few_names client before t came.0 entries fits came.1 (map keyed_name_row net.names.items) came.4.names in
      let nodes = few_nodes client before t came.0 entries fits came.1 (map keyed_node_row net.nodes.items) came.4.nodes in
      let files = few_files client before t came.0 entries fits came.1 walk.sizes.items ordered.ascending came.5 in
      let entry_count = length-map log.entries (entry_of source) in
      let name_count = length-map net.names.items keyed_name_row in
      let node_count = length-map net.nodes.items keyed_node_row in
      let same_names = ap length same.0 in
      let same_nodes = ap length same.1 in
      let short = from.short in
      record {
        names = omega (arith, names, entry_count, name_count, same_names, short);
        nodes = omega (arith, nodes, entry_count, node_count, same_nodes, short);
        pieces = omega (arith, files, entry_count, rows.few, short);
      }
