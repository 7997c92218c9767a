use Rattle.std.proofs.Common.{◌+◌, arith, refl}
use Rattle.hex.proofs.Pairs.{decode_done}
use Rattle.kfs_program_text.proofs.Hexadecimals.{one_more_pair}
use Rattle.kfs_program_text.proofs.digits.decode_into.Goals as goal

pub turn-preserved : goal.turn-preserved
turn-preserved c =
    let step = c.put_byte-byte.ensures in
    record {
      room = omega (arith, c.turn.invariant.room, c.put_byte-byte.auto.out);
      read =
          one_more_pair c.args.digits.now c.turn.out c.put_byte-byte.new.out (c.turns.done + c.turn.place) (c.turns.done + (c.turn.place + 1)) c.turn.all c.put_byte-byte.result (omega (arith, c.requires, c.turn.auto.out)) (omega (arith, c.turn.invariant.room, c.turn-test.true)) (omega arith) step.out step.byte step.none c.turn.invariant.read;
    }

pub rest-preserved : goal.rest-preserved
rest-preserved c =
    let step = c.put_byte-byte-in-rest.ensures in
    one_more_pair c.args.digits.now c.rest.out c.put_byte-byte-in-rest.new.out c.rest.index (c.rest.index + 1) c.rest.all c.put_byte-byte-in-rest.result (omega (arith, c.requires, c.rest.auto.out)) (omega (arith, c.rest.auto.out, c.turns.auto.out, c.rest-test.true)) refl step.out step.byte step.none c.rest.invariant

pub returns-clause-yes : goal.returns-clause-yes
returns-clause-yes c = λ yes.
    decode_done c.args.digits.now c.rest.out c.rest.index (omega (arith, c.rest.auto.out, c.turns.auto.out, c.rest-test.false)) (omega (arith, c.requires, c.turns.auto.out, c.rest-test.false)) (c.rest.invariant.0 (grind (arith, yes)))
