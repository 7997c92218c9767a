use Rattle.std.proofs.Common.{◌≡◌, ℕ, List, [], ◌∷◌, ◌++◌, length, refl, sym, ap, subst, ◌∙◌, arith, rules}
use Rattle.kfs_server.specs.Frames.Begun.{AreReadTo, IsPending}
use Rattle.kfs_call.specs.declared.frame.Incoming.{Incoming}
use Rattle.kfs_server.specs.declared.frames.begun.Begun.{Begun}
use Rattle.kfs_server.proofs.FramesLemmas.OneCut.{pending_partial}
use Rattle.kfs_server.proofs.FramesLemmas.Reads.{reads_begin, reads_end, reads_on}
use Rattle.kfs_server.proofs.frames.reader.FrameReader.take.Goals as goal

nothing_left : (xs : List ℕ) → length xs ≡ 0 → xs ≡ []
nothing_left [] is = refl
nothing_left (x ∷ xs) is = absurd (omega (arith, is))

pub pieces-init : goal.pieces-init
pieces-init g c =
    let piece = c.args.piece.now in
    let begun = c.args.self.now.begun in
    let none : length c.args.out.now.items ≡ 0 = ap length c.requires.none in record {
      begun = c.requires.begun;
      read = λ came pending. subst (λ (xs : List (Incoming g.row.A.Denot)). AreReadTo piece (came ++ piece) xs begun) (sym c.requires.none) (reads_begin came piece begun pending);
      room = omega (arith, c.requires.room, none, c.args.out.now.ok.0);
      few = omega (arith, none, c.args.out.now.ok.0);
      capacity = search rules;
    }

pub pieces-preserved : goal.pieces-preserved
pieces-preserved g c =
    let so_far = c.pieces.invariant in
    let piece = c.args.piece.now in
    let taken = c.look_at-whole.result in record {
      begun = c.look_at-whole.ensures.begun;
      read = λ came pending. subst (λ (xs : List (Incoming g.row.A.Denot)). AreReadTo taken.rest.now (came ++ piece) xs taken.begun) (sym c.push_whole.ensures.items)
          (reads_on (came ++ piece) c.pieces.rest.now taken.rest.now c.pieces.out.items taken.whole c.pieces.self.begun taken.begun (so_far.read came pending)
          (λ later is. c.look_at-whole.ensures.next later (subst (λ (b : Begun g.row.A.Denot). IsPending b later) (sym c.replace-begun.ensures.value) is)));
      room = omega (arith, so_far.room, c.push_whole.ensures.more, c.push_whole.ensures.capacity, c.look_at-whole.ensures.fewer);
      few = omega (arith, so_far.few, c.push_whole.ensures.more, c.look_at-whole.ensures.fewer);
      capacity = c.push_whole.ensures.capacity ∙ so_far.capacity;
    }

pub returns-clause-few : goal.returns-clause-few
returns-clause-few g c = omega (arith, c.pieces.invariant.few)

pub returns-clause-read : goal.returns-clause-read
returns-clause-read g c = λ came pending.
    let zero : length c.pieces.rest.now ≡ 0 = search rules in
    let none : c.pieces.rest.now ≡ [] = nothing_left c.pieces.rest.now zero in
    reads_end (came ++ c.args.piece.now) c.pieces.out.items c.pieces.self.begun
    (subst (λ (rest : List ℕ). AreReadTo rest (came ++ c.args.piece.now) c.pieces.out.items c.pieces.self.begun) none (c.pieces.invariant.read came pending))

pub returns-clause-partial : goal.returns-clause-partial
returns-clause-partial g c = λ left pending. pending_partial c.pieces.self.begun left c.pieces.invariant.begun pending
