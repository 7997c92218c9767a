-- What lands is the log of the verdict, where there is room for its blocks.
use Rattle.std.proofs.Common.{◌≡◌, ◌≤◌, List, ℕ, map, refl, sym, subst, ◌∙◌, Result, Ok, Err, false}
use Rattle.std.specs.Prelude.{OnOk, is_err}
use Rattle.kfs_types.specs.Views.{entry_of, piece_of}
use Rattle.kfs_types.specs.declared.entry.Log.{Log}
use Rattle.kfs_types.specs.declared.plan.Plan.{Plan}
use Rattle.kfs_image_nodes.specs.Lent.{net_in}
use Rattle.kfs_desk.specs.declared.fill.bytes.LogBytes.{LogBytes}
use Rattle.kfs_desk.specs.Fill.Bytes.{entries_in}
use Rattle.kfs_desk.specs.Fill.FillOf.{HasLandedWith}
use Rattle.kfs_desk.specs.Found.{found_in}
use Rattle.kfs_desk.specs.declared.history.answers.Reply.TheVariants as replies
use Rattle.kfs_desk.specs.Landing.{AnswersOutcome, AreReadFrom, CanLand, CanLandYes, free_in}
use Rattle.kfs_desk.proofs.desk.land.Goals as goal

are_of : {A : Type 0} (source : List ℕ) (log : Log A (List ℕ)) (plan : Plan A (List ℕ)) (bytes : LogBytes A) → bytes.source.now ≡ source → entries_in bytes.entries ≡ log.entries → bytes.pieces.now ≡ plan.pieces → AreReadFrom source log plan bytes
are_of source log plan bytes from entries pieces = record {
  entries = λ i. map (entry_of (from i)) (entries i);
  pieces = λ i. map piece_of (pieces i);
}

where_ok : {T E P : Type 0} (r : Result T E) → OnOk r P → is_err r ≡ false → P
where_ok (Ok x) holds good = holds
where_ok (Err e) holds good = cc

pub change_state-requires-clause-fits : goal.change_state-requires-clause-fits
change_state-requires-clause-fits g c =
    let parts = c.in-Ok.parts in
    let are = c.in-Ok.ensures.yes in
    let source = c.args.source.now in
    let image = c.args.image.now in
    let can : CanLandYes image source are.log are.plan (net_in parts.net) parts.need = subst (CanLand image source) are.is c.requires in
    let room : parts.need ≤ free_in image = subst (λ n. parts.need ≤ n) (c.from.ensures ∙ c.free-free.ensures) c.if-from-need.false in
    let bytes : LogBytes _ = record { source = c.args.source; entries = parts.entries; pieces = parts.pieces } in
    can.fits room bytes (are_of source are.log are.plan bytes refl are.entries are.pieces)

pub returns-clause-answer : goal.returns-clause-answer
returns-clause-answer g c =
    let parts = c.in-Ok.parts in
    let are = c.in-Ok.ensures.yes in
    let source = c.args.source.now in
    let image = c.args.image.now in
    let room : parts.need ≤ free_in image = subst (λ n. parts.need ≤ n) (c.from.ensures ∙ c.free-free.ensures) c.if-from-need.false in
    let bytes : LogBytes _ = record { source = c.args.source; entries = parts.entries; pieces = parts.pieces } in
    let landed : HasLandedWith image bytes (net_in parts.net) c.change_state.new.image = c.in_ok-change_state.ensures.image in
    subst (λ outcome. AnswersOutcome image source c.args.position c.args.rejudged outcome (replies.Yes c.args.position c.args.rejudged parts.need) c.change_state.new.image) (sym are.is)
    (refl, room, record { bytes = bytes; are = are_of source are.log are.plan bytes refl are.entries are.pieces; landed = landed })
