-- By computation, but for the marks of the 4,097 bytes: a look at each of them walks the list, so a law says what all are.
use Rattle.std.proofs.Common.{◌≡◌, ℕ, ◌+◌, ◌<◌, List, [], ◌∷◌, length, replicate, slice_get, Option, Some, None, refl, ap, ◌∙◌, arith}
use Rattle.std.proofs.lemmas.Option.{slice_get-get_or}
use Rattle.kfs_model.specs.Table.{get, insert, retain, mapped, united}
use Rattle.kfs_model.specs.Tree.{Tree, FileBody, DirectoryBody}
use Rattle.kfs_model.specs.Sight.{climb_meets, climbed}
use Rattle.kfs_model.specs.Lease.{live_at}
use Rattle.kfs_model.specs.PlanRow.{Piece}
use Rattle.kfs_model.specs.Check.{fault, checks_of, first_failing}
use Rattle.kfs_model.specs.Effect.{overwritten, without_unnamed, change_of}
use Rattle.kfs_model.specs.Run.{Mark, Zero, Payload, places_from, run_from}
use Rattle.kfs_model.specs.FirstWrong.{RowFault, Pieces, changed_bytes, first_wrong_row, or_else, wrong_below, missed_by}
use Rattle.kfs_model.specs.Placement.{written_blocks}
use Rattle.kfs_model.specs.Judgement.{Yes, No, AtRow, Reply, judged, free_places, reply_to}
use Rattle.kfs_model.proofs.Pieces.{HasMark, along_all, well_from}
use Rattle.kfs_model.proofs.Tape.{get_or-places, places_long}
use Rattle.kfs_model.specs.Examples.Example.{named, name_a, table, with_file, log_piece, Replies}
use Rattle.kfs_model.specs.Examples.Example.FileCases.{two_blocks, two_blocks_plan, with_room}
use Rattle.kfs_model.proofs.examples.files.room_for_two_blocks.Goals as goal

abbrev payload : List ℕ
payload = replicate 4097 120

abbrev marks : List Mark
marks = places_from (Payload 0) 0 payload

-- the tree that the log leaves, and each of its bytes marked
abbrev after : Tree ℕ
after = with_file payload

abbrev marked_after : Tree Mark
marked_after = record {
  nodes = table ((1, record { mode = 511; uid = 0; gid = 0; body = DirectoryBody }) ∷ (5, record { mode = 420; uid = 1000; gid = 1000; body = FileBody marks }) ∷ []);
  names = table (named 1 name_a 5 ∷ []);
}

abbrev piece : Piece
piece = log_piece 5 0 4097 0 0

mark_there : (bytes : List ℕ) (place : ℕ) → place < length bytes → slice_get (places_from (Payload 0) 0 bytes) (0 + place) ≡ Some (Payload 0 (0 + place))
mark_there bytes place h =
    let start : 0 + place ≡ place = omega arith in
    ap (slice_get (places_from (Payload 0) 0 bytes)) start ∙ slice_get-get_or (places_from (Payload 0) 0 bytes) place Zero (omega (arith, places_long (Payload 0) 0 bytes))
    ∙ ap Some (get_or-places (Payload 0) 0 bytes place h)

has_mark : (place : ℕ) → place < 4097 → HasMark marked_after piece place
unfolding HasMark get insert
has_mark place h = mark_there payload place h

well : wrong_below marked_after [] piece ≡ None
unfolding get insert changed_bytes
well = well_from marked_after [] piece (record { filled = refl; begins = refl; holds = along_all marked_after piece 4097 0 (λ place low high. has_mark place (omega arith)); missed = refl })

right : first_wrong_row (with_file []) marked_after two_blocks_plan ≡ None
unfolding get insert retain mapped united changed_bytes first_wrong_row
right = ap (λ (wrong : Option ℕ). or_else Pieces (elim wrong as (λ _. Option ℕ) [ Some index ↦ Some index | None ↦ missed_by marked_after (piece ∷ []) ]) None) well

replies : (places : ℕ) (reply : Reply) → reply_to (with_room places) (Yes after marked_after) ≡ reply → Replies (with_room places) 7 two_blocks two_blocks_plan reply
unfolding get insert retain mapped climb_meets climbed live_at fault checks_of first_failing overwritten without_unnamed change_of run_from judged
replies places reply e = ap (λ (found : Option RowFault). reply_to (with_room places) (elim found [ None ↦ Yes after marked_after | Some wrong ↦ No (AtRow wrong) ])) right ∙ e

pub returns-clause-no_room : goal.returns-clause-no_room
unfolding get insert written_blocks free_places reply_to
returns-clause-no_room c = replies 1 _ refl

pub returns-clause-accepted : goal.returns-clause-accepted
unfolding get insert written_blocks free_places reply_to
returns-clause-accepted c = replies 2 _ refl
