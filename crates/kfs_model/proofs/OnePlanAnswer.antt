-- Bytes have one answer as a plan: what it must be is a function of the bytes.
use Rattle.std.proofs.Common.{◌≡◌, ◌≢◌, ℕ, zero, suc, List, [], ◌∷◌, ◌++◌, Result, Ok, Err, refl, sym, ap, subst, ◌∙◌, append_assoc}
use Rattle.std.specs.List.{flat_map}
use Rattle.std.proofs.lemmas.List.{append-nil}
use Rattle.kfs_model.specs.PlanRow.{NameRow, NodeRow, Piece, Plan}
use Rattle.kfs_model.specs.Spelling.{IsBytes, BeginsWithNo, BeginsWithRows, PlanHeader, IsPlanHeader, plan_header, plan_header_of, name_row_bytes, IsNameRow, node_row_bytes, IsNodeRow, piece_bytes, IsPiece, IsPlan, plan_bytes, PartLacksRow, PlanAnswer, SpellingFault, BadHeader, BadEntry, Trailing, BadRow}
use Rattle.kfs_model.proofs.Reading.{plan_header_read, name_row_read, node_row_read, piece_read}
use Rattle.kfs_model.proofs.PlanLaws.{name_row_field, node_row_field, piece_field}
use Rattle.kfs_model.proofs.HeaderLaws.{plan_header_field}
use Rattle.kfs_model.proofs.RowsRead.{IsBytes-behind, with_option, rows_read, none_read, stand_is_read, stop_is_read}

-- the rows of a part and what is read behind them, or how many came before the one that is missing
abbrev part_then : {V : Type 0} → ℕ → Result (List V × List ℕ) ℕ → (List V → List ℕ → Result Plan SpellingFault) → Result Plan SpellingFault
part_then part (Ok x) f = f x.0 x.1
part_then part (Err k) f = Err (BadRow part k)

abbrev plan_rest : PlanHeader → List NameRow → List NodeRow → List Piece → List ℕ → Result Plan SpellingFault
plan_rest h names nodes pieces [] = Ok (record { version = h.version; names = names; nodes = nodes; pieces = pieces })
plan_rest h names nodes pieces (b ∷ more) = Err Trailing

abbrev pieces_reading : PlanHeader → List NameRow → List NodeRow → List ℕ → Result Plan SpellingFault
pieces_reading h names nodes bytes = part_then 2 (rows_read piece_read h.pieces bytes) (λ pieces rest. plan_rest h names nodes pieces rest)

abbrev nodes_reading : PlanHeader → List NameRow → List ℕ → Result Plan SpellingFault
nodes_reading h names bytes = part_then 1 (rows_read node_row_read h.nodes bytes) (λ nodes rest. pieces_reading h names nodes rest)

abbrev names_reading : PlanHeader → List ℕ → Result Plan SpellingFault
names_reading h bytes = part_then 0 (rows_read name_row_read h.names bytes) (λ names rest. nodes_reading h names rest)

-- the one answer to the bytes
unfoldable pub plan_reading : List ℕ → Result Plan SpellingFault
plan_reading bytes = with_option (plan_header_read bytes) (Err BadHeader) (λ x. names_reading x.0 x.1)

trailing : (h : PlanHeader) (names : List NameRow) (nodes : List NodeRow) (pieces : List Piece) (more : List ℕ) → more ≢ [] → plan_rest h names nodes pieces more ≡ Err Trailing
trailing h names nodes pieces [] some = absurd (some refl)
trailing h names nodes pieces (b ∷ more) some = refl

behind_header : (h : PlanHeader) (rest : List ℕ) → IsPlanHeader h → plan_reading (plan_header h ++ rest) ≡ names_reading h rest
unfolding plan_reading
behind_header h rest fits = ap (λ o. with_option o (Err BadHeader) (λ x. names_reading x.0 x.1)) (plan_header_field.again h rest fits)

no_header : (bytes : List ℕ) → IsBytes bytes → BeginsWithNo IsPlanHeader plan_header bytes → plan_reading bytes ≡ Err BadHeader
unfolding plan_reading
no_header bytes fits never = ap (λ o. with_option o (Err BadHeader) (λ x. names_reading x.0 x.1)) (none_read IsPlanHeader plan_header plan_header_read plan_header_field bytes fits never)

-- behind a part that stands, the next is read
behind_names : (h : PlanHeader) (bytes rest : List ℕ) (stand : BeginsWithRows IsNameRow name_row_bytes h.names bytes rest) → names_reading h bytes ≡ nodes_reading h stand.rows rest
behind_names h bytes rest stand = ap (λ x. part_then 0 x (λ names rest. nodes_reading h names rest)) (stand_is_read IsNameRow name_row_bytes name_row_read name_row_field h.names bytes rest stand)

behind_nodes : (h : PlanHeader) (names : List NameRow) (bytes rest : List ℕ) (stand : BeginsWithRows IsNodeRow node_row_bytes h.nodes bytes rest) → nodes_reading h names bytes ≡ pieces_reading h names stand.rows rest
behind_nodes h names bytes rest stand = ap (λ x. part_then 1 x (λ nodes rest. pieces_reading h names nodes rest)) (stand_is_read IsNodeRow node_row_bytes node_row_read node_row_field h.nodes bytes rest stand)

behind_pieces : (h : PlanHeader) (names : List NameRow) (nodes : List NodeRow) (bytes rest : List ℕ) (stand : BeginsWithRows IsPiece piece_bytes h.pieces bytes rest) → pieces_reading h names nodes bytes ≡ plan_rest h names nodes stand.rows rest
behind_pieces h names nodes bytes rest stand = ap (λ x. part_then 2 x (λ pieces rest. plan_rest h names nodes pieces rest)) (stand_is_read IsPiece piece_bytes piece_read piece_field h.pieces bytes rest stand)

stand_bytes : {V : Type 0} {F : V → Type 0} {s : V → List ℕ} {count : ℕ} {bytes rest : List ℕ} → IsBytes bytes → BeginsWithRows F s count bytes rest → IsBytes rest
stand_bytes {V} {F} {s} {count} {bytes} {rest} fits stand = IsBytes-behind (flat_map s stand.rows) rest (subst IsBytes stand.are.spelled fits)

row_is_missing : (h : PlanHeader) (part k : ℕ) (bytes : List ℕ) → IsBytes bytes → PartLacksRow h part k bytes → names_reading h bytes ≡ Err (BadRow part k)
row_is_missing h zero k bytes fits stop =
    ap (λ x. part_then 0 x (λ names rest. nodes_reading h names rest)) (stop_is_read IsNameRow name_row_bytes name_row_read name_row_field h.names k bytes fits stop)
row_is_missing h (suc zero) k bytes fits stop =
    behind_names h bytes stop.0 stop.1
    ∙ ap (λ x. part_then 1 x (λ nodes rest. pieces_reading h stop.1.rows nodes rest)) (stop_is_read IsNodeRow node_row_bytes node_row_read node_row_field h.nodes k stop.0 (stand_bytes fits stop.1) stop.2)
row_is_missing h (suc (suc zero)) k bytes fits stop =
    behind_names h bytes stop.0 stop.2 ∙ behind_nodes h stop.2.rows stop.0 stop.1 stop.3
    ∙ ap (λ x. part_then 2 x (λ pieces rest. plan_rest h stop.2.rows stop.3.rows pieces rest)) (stop_is_read IsPiece piece_bytes piece_read piece_field h.pieces k stop.1 (stand_bytes (stand_bytes fits stop.2) stop.3) stop.4)
row_is_missing h (suc (suc (suc part))) k bytes fits stop = absurd stop

whole_plan : (p : Plan) (more : List ℕ) → IsPlan p → plan_reading (plan_bytes p ++ more) ≡ plan_rest (plan_header_of p) p.names p.nodes p.pieces more
whole_plan p more fits =
    let names = flat_map name_row_bytes p.names in
    let nodes = flat_map node_row_bytes p.nodes in
    let pieces = flat_map piece_bytes p.pieces in
    let regrouped : plan_bytes p ++ more ≡ plan_header (plan_header_of p) ++ (names ++ (nodes ++ (pieces ++ more))) =
    append_assoc (plan_header (plan_header_of p) ++ names ++ nodes) pieces more ∙ append_assoc (plan_header (plan_header_of p) ++ names) nodes (pieces ++ more)
    ∙ append_assoc (plan_header (plan_header_of p)) names (nodes ++ (pieces ++ more)) in
    ap plan_reading regrouped
    ∙ behind_header (plan_header_of p) (names ++ (nodes ++ (pieces ++ more))) fits.0
    ∙ behind_names (plan_header_of p) (names ++ (nodes ++ (pieces ++ more))) (nodes ++ (pieces ++ more)) (record { rows = p.names; number = refl; are = record { fit = fits.1; spelled = refl } })
    ∙ behind_nodes (plan_header_of p) p.names (nodes ++ (pieces ++ more)) (pieces ++ more) (record { rows = p.nodes; number = refl; are = record { fit = fits.2; spelled = refl } })
    ∙ behind_pieces (plan_header_of p) p.names p.nodes (pieces ++ more) more (record { rows = p.pieces; number = refl; are = record { fit = fits.3; spelled = refl } })

pub plan_is_read : (bytes : List ℕ) → IsBytes bytes → (answer : Result Plan SpellingFault) → PlanAnswer bytes answer → plan_reading bytes ≡ answer
plan_is_read bytes fits (Ok p) is = ap plan_reading (is.1 ∙ sym (append-nil (plan_bytes p))) ∙ whole_plan p [] is.0
plan_is_read bytes fits (Err Trailing) is = ap plan_reading is.4 ∙ whole_plan is.0 is.1 is.2 ∙ trailing (plan_header_of is.0) is.0.names is.0.nodes is.0.pieces is.1 is.3
plan_is_read bytes fits (Err BadHeader) is = no_header bytes fits is
plan_is_read bytes fits (Err (BadRow part k)) is =
    let behind : IsBytes is.1 = IsBytes-behind (plan_header is.0) is.1 (subst IsBytes is.3 fits) in
    ap plan_reading is.3 ∙ behind_header is.0 is.1 is.2 ∙ row_is_missing is.0 part k is.1 behind is.4
plan_is_read bytes fits (Err (BadEntry k)) is = absurd is

pub one_plan_answer : (bytes : List ℕ) → IsBytes bytes → (a b : Result Plan SpellingFault) → PlanAnswer bytes a → PlanAnswer bytes b → a ≡ b
one_plan_answer bytes fits a b is this = sym (plan_is_read bytes fits a is) ∙ plan_is_read bytes fits b this
