use Rattle.std.proofs.Common.{ℕ, ◌<◌, length, arith}
use Rattle.kfs_desk.proofs.FillLemmas.BlockBytes.{read_or_clear}
use Rattle.kfs_desk.proofs.fill.bytes.read_or_clear.Goals as goal

pub returns : goal.returns
returns g c k below =
    let old = c.args.bytes.now in
    let new = c.read_file.new.buffer in
    let after = c.clear.new.bytes in
    let within : (j : ℕ) → j < length old → j < length after = λ j inside. omega (arith, inside, c.clear.auto.bytes, c.read_file.auto.buffer) in
    read_or_clear c.args.image.now c.args.number c.args.start old new after c.args.held c.unwrap_or-read.result
    (λ j from inside. c.requires.zero j inside from)
    (λ j inside. c.clear.ensures.front j (within j inside))
    (λ j inside. c.clear.ensures.zero j (within j inside))
    (λ j inside. c.clear.ensures.behind j (within j inside))
    c.read_file.result c.unwrap_or-read.ensures c.read_file.ensures.read c.read_file.ensures.no_node c.read_file.ensures.directory c.read_file.ensures.kept k (omega (arith, below, c.clear.auto.bytes, c.read_file.auto.buffer))
