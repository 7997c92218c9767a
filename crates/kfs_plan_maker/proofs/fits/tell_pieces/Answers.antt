use Rattle.std.proofs.Common.{All, subst}
use Rattle.std.proofs.lemmas.List.{take_all}
use Rattle.std.proofs.lemmas.List.Elements.{All-nil, All-more}
use Rattle.kfs_model.specs.Spelling.{IsPiece}
use Rattle.kfs_types.specs.Views.{piece_of}
use Rattle.kfs_types.specs.declared.plan.Piece.{Piece}
use Rattle.kfs_types.specs.declared.plan.Source.TheVariants.{Zero}
use Rattle.kfs_plan_maker.proofs.fits.tell_pieces.Goals as goal

abbrev Fits : Piece → Type 0
Fits row = IsPiece (piece_of row)

abbrev none : Piece
none = record { number = 0; start = 0; len = 0; source = Zero }

pub loop-row-init : goal.loop-row-init
loop-row-init c = All-nil Fits

pub loop-row-preserved : goal.loop-row-preserved
loop-row-preserved c = All-more Fits c.args.rows.now c.loop-row.row-index none c.loop-row-test.true c.loop-row.invariant c.tell_piece.ensures

pub returns : goal.returns
returns c = subst (All Fits) (take_all c.loop-row.row-index c.args.rows.now c.loop-row-test.false) c.loop-row.invariant
