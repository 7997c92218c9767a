use Rattle.std.proofs.Common.{◌≡◌, All, vec_len, refl, subst, sym, ap, ◌∙◌}
use Rattle.std.proofs.lemmas.List.Elements.{All-head, All-tail}
use Rattle.std.specs.Vec.Iter.{into_iter_items}
use Rattle.kfs_model.specs.Limits.{block_size}
use Rattle.kfs_image.specs.declared.tier.tiers.NewBlock.{NewBlock}
use Rattle.kfs_image.specs.Tier.Tiers.{IsInTier, with_blocks}
use Rattle.kfs_image.specs.Tier.TierViews.{free_of, devices_of, HasRoomAt}
use Rattle.kfs_image.proofs.TierLemmas.TierLists.{with_blocks-none, with_blocks-first}
use Rattle.kfs_image.proofs.tier.tiers.write_all.Goals as goal

pub loop-block-init : goal.loop-block-init
loop-block-init g c =
    let same = sym c.into_iter-block-iterator.ensures.into_iter_gives.0 in
    record {
      ready = tt;
      finite = tt;
      in_tier = subst (All (λ (b : NewBlock _). IsInTier (free_of c.args.tiers.now) b.place)) same c.requires.in_tier;
      room = subst (All (λ (b : NewBlock _). HasRoomAt c.args.tiers.now b.place)) same c.requires.room;
      whole = subst (All (λ (b : NewBlock _). vec_len b.bytes ≡ block_size)) same c.requires.whole;
      free = refl;
      devices = ap (λ blocks. with_blocks blocks (devices_of c.args.tiers.now)) (sym same);
    }

pub write-requires-clause-in_tier : goal.write-requires-clause-in_tier
write-requires-clause-in_tier g c = All-head (λ (b : NewBlock _). IsInTier (free_of c.loop-block.tiers) b.place) c.in-Some.block (into_iter_items c.next.new.self) (subst (All (λ (b : NewBlock _). IsInTier (free_of c.loop-block.tiers) b.place)) c.in-Some.ensures.steps.0 c.loop-block.invariant.in_tier)

pub write-requires-clause-room : goal.write-requires-clause-room
write-requires-clause-room g c = All-head (λ (b : NewBlock _). HasRoomAt c.loop-block.tiers b.place) c.in-Some.block (into_iter_items c.next.new.self) (subst (All (λ (b : NewBlock _). HasRoomAt c.loop-block.tiers b.place)) c.in-Some.ensures.steps.0 c.loop-block.invariant.room)

pub write-requires-clause-whole : goal.write-requires-clause-whole
write-requires-clause-whole g c = All-head (λ (b : NewBlock _). vec_len b.bytes ≡ block_size) c.in-Some.block (into_iter_items c.next.new.self) (subst (All (λ (b : NewBlock _). vec_len b.bytes ≡ block_size)) c.in-Some.ensures.steps.0 c.loop-block.invariant.whole)

pub loop-block-preserved : goal.loop-block-preserved
loop-block-preserved g c =
    let later = into_iter_items c.next.new.self in
    record {
      ready = tt;
      finite = tt;
      in_tier = subst (λ free. All (λ (b : NewBlock _). IsInTier free b.place) later) (sym c.write.ensures.free)
          (All-tail (λ (b : NewBlock _). IsInTier (free_of c.loop-block.tiers) b.place) c.in-Some.block later (subst (All (λ (b : NewBlock _). IsInTier (free_of c.loop-block.tiers) b.place)) c.in-Some.ensures.steps.0 c.loop-block.invariant.in_tier));
      room = λ k d below. c.write.ensures.others _ (All-tail (λ (b : NewBlock _). HasRoomAt c.loop-block.tiers b.place) c.in-Some.block later (subst (All (λ (b : NewBlock _). HasRoomAt c.loop-block.tiers b.place)) c.in-Some.ensures.steps.0 c.loop-block.invariant.room) k d below);
      whole = All-tail (λ (b : NewBlock _). vec_len b.bytes ≡ block_size) c.in-Some.block later (subst (All (λ (b : NewBlock _). vec_len b.bytes ≡ block_size)) c.in-Some.ensures.steps.0 c.loop-block.invariant.whole);
      free = c.write.ensures.free ∙ c.loop-block.invariant.free;
      devices = ap (with_blocks later) c.write.ensures.devices
          ∙ sym (with_blocks-first (into_iter_items c.loop-block.block-iterator) c.in-Some.block later (devices_of c.loop-block.tiers) c.in-Some.ensures.steps.0)
          ∙ c.loop-block.invariant.devices;
    }

pub returns-clause-devices : goal.returns-clause-devices
returns-clause-devices g c =
    sym (with_blocks-none (into_iter_items c.loop-block.block-iterator) (devices_of c.loop-block.tiers) (sym c.loop-block.block-iterator.rest.ok.0 ∙ c.in-None.ensures.steps.0)) ∙ c.loop-block.invariant.devices
