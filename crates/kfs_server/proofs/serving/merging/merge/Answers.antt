use Rattle.std.proofs.Common.{◌≡◌, ◌+◌, List, length, refl, sym, ap, subst, ◌∙◌, arith}
use Rattle.kfs_server.specs.declared.replies.reply.NumberedReply.{NumberedReply}
use Rattle.kfs_server.proofs.ServingLemmas.Merged.{IsMergedTo, enough, merge_begins, merge_ends, merge_goes_on}
use Rattle.kfs_server.proofs.serving.merging.merge.Goals as goal

pub loop-one-init : goal.loop-one-init
loop-one-init g c =
    let zero : length c.args.replies.now.items ≡ 0 = ap length c.requires.none in record {
      merged = subst (λ (xs : List NumberedReply). IsMergedTo c.args.decided.now c.args.answers.now 0 c.args.answers.now xs) (sym c.requires.none) (merge_begins c.args.decided.now c.args.answers.now c.requires.as_many);
      room = omega (arith, zero, c.args.replies.now.ok.0);
      capacity = refl;
    }

pub reply_in-reply-requires : goal.reply_in-reply-requires
reply_in-reply-requires g c = enough c.args.decided.now c.args.answers.now c.loop-one.one-index _ c.loop-one.rest.now c.loop-one.replies.items c.loop-one-test.true c.loop-one.invariant.merged

pub push_reserved-requires : goal.push_reserved-requires
push_reserved-requires g c = omega (arith, c.loop-one.invariant.room, c.loop-one.invariant.capacity, c.requires.room, c.loop-one-test.true)

pub loop-one-preserved : goal.loop-one-preserved
loop-one-preserved g c = record {
  merged = subst (λ (xs : List NumberedReply). IsMergedTo c.args.decided.now c.args.answers.now (c.loop-one.one-index + 1) c.reply_in-reply.result.1.now xs) (sym c.push_reserved.ensures.items)
      (merge_goes_on c.args.decided.now c.args.answers.now c.loop-one.one-index _ c.loop-one.rest.now c.loop-one.replies.items c.loop-one-test.true c.loop-one.invariant.merged
      c.reply_in-reply.result.1.now _ refl c.reply_in-reply.ensures.reply c.reply_in-reply.ensures.behind);
  room = omega (arith, c.loop-one.invariant.room, c.push_reserved.ensures.len);
  capacity = c.push_reserved.ensures.capacity ∙ c.loop-one.invariant.capacity;
}

pub returns-clause-replies : goal.returns-clause-replies
returns-clause-replies g c = merge_ends c.args.decided.now c.args.answers.now c.loop-one.one-index c.loop-one.rest.now c.loop-one.replies.items c.loop-one-test.false c.loop-one.invariant.merged
