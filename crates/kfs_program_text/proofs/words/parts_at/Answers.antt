-- The first word of a text stands before its first space.
use Rattle.std.proofs.Common.{◌∙◌, ◌∷◌, ◌+◌, ap, sym, take}
use Rattle.std.proofs.lemmas.List.{take_rest}
use Rattle.kfs_program_text.specs.Cut.{cut, space}
use Rattle.kfs_program_text.proofs.WordsCut.{cut_at, uncut}
use Rattle.kfs_program_text.proofs.words.parts_at.Goals as goal

pub returns-in-Some : goal.returns-in-Some
returns-in-Some c =
    cut_at space c.args.text.now c.in-Some.place (sym c.requires ∙ c.in-Some.is)
    ∙ ap (λ rest. take c.in-Some.place c.args.text.now ∷ cut space rest) (sym (take_rest c.args.text.now (c.in-Some.place + 1)))

pub returns-in-None : goal.returns-in-None
returns-in-None c = uncut space c.args.text.now (sym c.requires ∙ c.in-None.is)
