-- The walk of the same log with borrowed names, whose net has the same rows.
use Rattle.std.proofs.Common.{map, subst, sym, ap, ◌∙◌}
use Rattle.kfs_model.specs.Looked.{looked_cells}
use Rattle.kfs_model.specs.Sight.{client_sight}
use Rattle.kfs_types.specs.Views.{entry_of}
use Rattle.kfs_pieces.specs.Sizes.{SizesAscend, IsSize}
use Rattle.std.specs.List.{AllByRecursion}
use Rattle.kfs_judge_reads.specs.Reads.{Agrees, AreAmong, AreOnce}
use Rattle.kfs_judge_reads.specs.View.{clients_of, client_sight_in}
use Rattle.kfs_judge.specs.Walks.{ComesToTree, IsRowOf, IsWalkOf, ReadsLookedCells}
use Rattle.kfs_judge.proofs.SameNets.{same_tree, same_kind}
use Rattle.kfs_judge.proofs.walk.judge_entries_keeping.Goals as goal

pub returns-clause-known : goal.returns-clause-known
returns-clause-known g c =
    let known = c.in_ok-walk.ensures.known in
    let log = c.in_ok-borrowed.ensures in
    let same = c.in_ok-owned.ensures in
    let walk = c.in_ok-walk.walk in
    let owned = c.in_ok-owned.owned in
    let client = known.0 in
    let is = known.2 in (
      client,
      subst (λ l. IsRowOf (clients_of c.args.view.now) l.client client) log known.1,
      subst
          (λ l. IsWalkOf client l owned)
          log
          (λ source within tree held fits agrees.
          let entries = map (entry_of source) c.in_ok-borrowed.borrowed.entries in
          let come = is source within tree held fits (subst (λ r. Agrees r.entries (client_sight tree held)) same.reads agrees) in
          same_tree client held tree entries owned.sizes.items walk.outcome owned.outcome same.outcome (subst (λ s. ComesToTree client held tree entries walk.outcome s.items) (sym same.sizes) come)),
    )

pub returns-clause-view_agrees : goal.returns-clause-view_agrees
returns-clause-view_agrees g c =
    subst (λ r. Agrees r.entries (client_sight_in c.args.view.now c.args.log.now.client)) (sym c.in_ok-owned.ensures.reads)
    (subst (λ l. Agrees c.in_ok-walk.walk.reads.entries (client_sight_in c.args.view.now l.client)) c.in_ok-borrowed.ensures c.in_ok-walk.ensures.view_agrees)

pub returns-clause-once : goal.returns-clause-once
returns-clause-once g c = λ kept. subst (λ r. AreOnce r.entries) (sym c.in_ok-owned.ensures.reads) (c.in_ok-walk.ensures.once kept)

pub returns-clause-among : goal.returns-clause-among
returns-clause-among g c =
    subst (λ l. ReadsLookedCells c.args.view.now l c.in_ok-owned.owned) c.in_ok-borrowed.ensures
    (λ client row source within. subst (λ r. AreAmong r.entries (looked_cells client (client_sight_in c.args.view.now c.in_ok-borrowed.borrowed.client) (map (entry_of source) c.in_ok-borrowed.borrowed.entries))) (sym c.in_ok-owned.ensures.reads) (c.in_ok-walk.ensures.among client row source within))

pub returns-clause-keeps : goal.returns-clause-keeps
returns-clause-keeps g c = ap (λ r. r.keeps) c.in_ok-owned.ensures.reads ∙ c.in_ok-walk.ensures.keeps

pub returns-clause-sizes : goal.returns-clause-sizes
returns-clause-sizes g c =
    let same = c.in_ok-owned.ensures in
    let sizes = c.in_ok-walk.ensures.sizes in
    let is = sym same.sizes in
    record {
      ascending = subst (λ s. SizesAscend 0 s.items) is sizes.ascending;
      short = subst (λ s. AllByRecursion IsSize s.items) is sizes.short;
      none = λ fault. ap (λ s. s.items) same.sizes ∙ sizes.none (same_kind c.in_ok-walk.walk.outcome c.in_ok-owned.owned.outcome same.outcome fault);
    }
