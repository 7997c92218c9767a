use Rattle.kfs_image.proofs.BlocksLemmas.HeldBlocks.{can_move, in_tier, held_after, shown_ok, shown_err}
use Rattle.kfs_image.proofs.blocks.blocks.FileBlocks.change.Goals as goal

pub change_near-requires-clause-then : goal.change_near-requires-clause-then
change_near-requires-clause-then g c = record {
  places = can_move c.self.inside.placement c.self.inside.tiers c.args.self.now c.self.view_is c.self.invariant c.args.edits.now c.args.written.items c.requires
      c.in_ok-moves.moves.given.items c.in_ok-moves.moves.taken.items c.in_ok-moves.ensures.given c.in_ok-moves.ensures.taken;
  in_tier = in_tier c.self.inside.placement c.self.inside.tiers c.args.self.now c.self.view_is c.self.invariant c.args.edits.now c.args.written.items c.requires
      c.in_ok-moves.moves.given.items c.in_ok-moves.moves.taken.items c.in_ok-moves.ensures.given c.in_ok-moves.ensures.taken;
  whole = c.requires.whole;
}

pub invariant_of-self : goal.invariant_of-self
invariant_of-self g c =
    held_after c.self.inside.placement c.self.inside.tiers c.args.self.now c.self.view_is c.self.invariant c.args.edits.now c.args.written.items c.requires
    c.in_ok-moves.moves.given.items c.in_ok-moves.moves.taken.items c.in_ok-moves.ensures.given c.in_ok-moves.ensures.taken
    _ c.change_near.new.self c.change_near.new.then.tiers.now c.change_near.result c.change_near.ensures.ok c.change_near.ensures.err c.change_near.ensures.made c.change_near.ensures.kept

pub returns-clause-ok : goal.returns-clause-ok
returns-clause-ok g c =
    shown_ok c.self.inside.placement c.self.inside.tiers c.args.self.now c.self.view_is c.self.invariant c.args.edits.now c.args.written.items c.requires
    c.in_ok-moves.moves.given.items c.in_ok-moves.moves.taken.items c.in_ok-moves.ensures.given c.in_ok-moves.ensures.taken
    _ c.change_near.new.self c.change_near.new.then.tiers.now c.change_near.result c.change_near.ensures.ok c.change_near.ensures.made

pub returns-clause-err : goal.returns-clause-err
returns-clause-err g c =
    shown_err c.self.inside.placement c.self.inside.tiers c.args.self.now c.self.view_is c.self.invariant c.args.edits.now c.args.written.items c.requires
    c.in_ok-moves.moves.given.items c.in_ok-moves.moves.taken.items c.in_ok-moves.ensures.given c.in_ok-moves.ensures.taken
    _ c.change_near.new.self c.change_near.new.then.tiers.now c.change_near.result c.change_near.ensures.err c.change_near.ensures.kept
