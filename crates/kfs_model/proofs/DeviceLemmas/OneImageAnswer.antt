-- Bytes have one answer as a raw image: what it must be is a function of the bytes.
use Rattle.std.proofs.Common.{◌≡◌, ◌≢◌, ℕ, zero, suc, ◌+◌, List, [], ◌∷◌, ◌++◌, Result, Ok, Err, refl, sym, ap, subst, ◌∙◌, append_assoc}
use Rattle.std.specs.List.{flat_map}
use Rattle.std.proofs.lemmas.List.{append-nil}
use Rattle.kfs_model.specs.PlanRow.{NameRow}
use Rattle.kfs_model.specs.Spelling.{IsBytes, BeginsWithNo, BeginsWithRows, IsNameRow, name_row_bytes}
use Rattle.kfs_model.proofs.Reading.{name_row_read}
use Rattle.kfs_model.proofs.PlanLaws.{name_row_field}
use Rattle.kfs_model.proofs.RowsRead.{IsBytes-behind, with_option, rows_read, none_read, stand_is_read, stop_is_read}
use Rattle.kfs_model.specs.Device.RawImage.{RawNode, ExtentRow, RawImage}
use Rattle.kfs_model.specs.Device.Spelling.{raw_node_bytes, IsRawNode, extent_bytes, IsExtentRow, ImageHeader, image_header, IsImageHeader, image_header_of, raw_image_bytes, IsRawImage, ImageSpellingFault, BadImageHeader, ImageTrailing, BadImageRow, ImagePartLacksRow, rows_before, ImageAnswer}
use Rattle.kfs_model.proofs.DeviceLemmas.ImageReading.{raw_node_read, extent_read, image_header_read}
use Rattle.kfs_model.proofs.DeviceLemmas.ImageFields.{raw_node_field, extent_field, image_header_field}

abbrev ReadImage : Type 0
ReadImage = Result RawImage ImageSpellingFault

-- the rows of a part and what is read behind them, or how many came before the one that is missing, with
-- those of earlier parts
abbrev part_then : {V : Type 0} → (earlier : ℕ) → Result (List V × List ℕ) ℕ → (List V → List ℕ → ReadImage) → ReadImage
part_then earlier (Ok x) f = f x.0 x.1
part_then earlier (Err k) f = Err (BadImageRow (earlier + k))

abbrev image_rest : ImageHeader → List RawNode → List NameRow → List ExtentRow → List ℕ → ReadImage
image_rest h nodes names extents [] = Ok (record { version = h.version; sizes = h.sizes; nodes = nodes; names = names; extents = extents })
image_rest h nodes names extents (b ∷ more) = Err ImageTrailing

abbrev extents_reading : ImageHeader → List RawNode → List NameRow → List ℕ → ReadImage
extents_reading h nodes names bytes = part_then (h.nodes + h.names) (rows_read extent_read h.extents bytes) (λ extents rest. image_rest h nodes names extents rest)

abbrev names_reading : ImageHeader → List RawNode → List ℕ → ReadImage
names_reading h nodes bytes = part_then h.nodes (rows_read name_row_read h.names bytes) (λ names rest. extents_reading h nodes names rest)

abbrev nodes_reading : ImageHeader → List ℕ → ReadImage
nodes_reading h bytes = part_then 0 (rows_read raw_node_read h.nodes bytes) (λ nodes rest. names_reading h nodes rest)

-- the one answer to the bytes
unfoldable pub image_reading : List ℕ → Result RawImage ImageSpellingFault
image_reading bytes = with_option (image_header_read bytes) (Err BadImageHeader) (λ x. nodes_reading x.0 x.1)

trailing : (h : ImageHeader) (nodes : List RawNode) (names : List NameRow) (extents : List ExtentRow) (more : List ℕ) → more ≢ [] → image_rest h nodes names extents more ≡ Err ImageTrailing
trailing h nodes names extents [] some = absurd (some refl)
trailing h nodes names extents (b ∷ more) some = refl

behind_header : (h : ImageHeader) (rest : List ℕ) → IsImageHeader h → image_reading (image_header h ++ rest) ≡ nodes_reading h rest
unfolding image_reading
behind_header h rest fits = ap (λ o. with_option o (Err BadImageHeader) (λ x. nodes_reading x.0 x.1)) (image_header_field.again h rest fits)

no_header : (bytes : List ℕ) → IsBytes bytes → BeginsWithNo IsImageHeader image_header bytes → image_reading bytes ≡ Err BadImageHeader
unfolding image_reading
no_header bytes fits never = ap (λ o. with_option o (Err BadImageHeader) (λ x. nodes_reading x.0 x.1)) (none_read IsImageHeader image_header image_header_read image_header_field bytes fits never)

-- behind a part that stands, the next is read
behind_nodes : (h : ImageHeader) (bytes rest : List ℕ) (stand : BeginsWithRows IsRawNode raw_node_bytes h.nodes bytes rest) → nodes_reading h bytes ≡ names_reading h stand.rows rest
behind_nodes h bytes rest stand = ap (λ x. part_then 0 x (λ nodes rest. names_reading h nodes rest)) (stand_is_read IsRawNode raw_node_bytes raw_node_read raw_node_field h.nodes bytes rest stand)

behind_names : (h : ImageHeader) (nodes : List RawNode) (bytes rest : List ℕ) (stand : BeginsWithRows IsNameRow name_row_bytes h.names bytes rest) → names_reading h nodes bytes ≡ extents_reading h nodes stand.rows rest
behind_names h nodes bytes rest stand = ap (λ x. part_then h.nodes x (λ names rest. extents_reading h nodes names rest)) (stand_is_read IsNameRow name_row_bytes name_row_read name_row_field h.names bytes rest stand)

behind_extents : (h : ImageHeader) (nodes : List RawNode) (names : List NameRow) (bytes rest : List ℕ) (stand : BeginsWithRows IsExtentRow extent_bytes h.extents bytes rest)
    → extents_reading h nodes names bytes ≡ image_rest h nodes names stand.rows rest
behind_extents h nodes names bytes rest stand = ap (λ x. part_then (h.nodes + h.names) x (λ extents rest. image_rest h nodes names extents rest)) (stand_is_read IsExtentRow extent_bytes extent_read extent_field h.extents bytes rest stand)

pub stand_bytes : {V : Type 0} {F : V → Type 0} {s : V → List ℕ} {count : ℕ} {bytes rest : List ℕ} → IsBytes bytes → BeginsWithRows F s count bytes rest → IsBytes rest
stand_bytes {V} {F} {s} {count} {bytes} {rest} fits stand = IsBytes-behind (flat_map s stand.rows) rest (subst IsBytes stand.are.spelled fits)

row_is_missing : (h : ImageHeader) (part k : ℕ) (bytes : List ℕ) → IsBytes bytes → ImagePartLacksRow h part k bytes → nodes_reading h bytes ≡ Err (BadImageRow (rows_before h part + k))
row_is_missing h zero k bytes fits stop =
    ap (λ x. part_then 0 x (λ nodes rest. names_reading h nodes rest)) (stop_is_read IsRawNode raw_node_bytes raw_node_read raw_node_field h.nodes k bytes fits stop)
row_is_missing h (suc zero) k bytes fits stop =
    behind_nodes h bytes stop.0 stop.1
    ∙ ap (λ x. part_then h.nodes x (λ names rest. extents_reading h stop.1.rows names rest)) (stop_is_read IsNameRow name_row_bytes name_row_read name_row_field h.names k stop.0 (stand_bytes fits stop.1) stop.2)
row_is_missing h (suc (suc zero)) k bytes fits stop =
    behind_nodes h bytes stop.0 stop.2 ∙ behind_names h stop.2.rows stop.0 stop.1 stop.3
    ∙ ap (λ x. part_then (h.nodes + h.names) x (λ extents rest. image_rest h stop.2.rows stop.3.rows extents rest))
    (stop_is_read IsExtentRow extent_bytes extent_read extent_field h.extents k stop.1 (stand_bytes (stand_bytes fits stop.2) stop.3) stop.4)
row_is_missing h (suc (suc (suc part))) k bytes fits stop = absurd stop

whole_image : (raw : RawImage) (more : List ℕ) → IsRawImage raw → image_reading (raw_image_bytes raw ++ more) ≡ image_rest (image_header_of raw) raw.nodes raw.names raw.extents more
whole_image raw more fits =
    let h = image_header_of raw in
    let nodes = flat_map raw_node_bytes raw.nodes in
    let names = flat_map name_row_bytes raw.names in
    let extents = flat_map extent_bytes raw.extents in
    let regrouped : raw_image_bytes raw ++ more ≡ image_header h ++ (nodes ++ (names ++ (extents ++ more))) =
    append_assoc (image_header h ++ nodes ++ names) extents more ∙ append_assoc (image_header h ++ nodes) names (extents ++ more) ∙ append_assoc (image_header h) nodes (names ++ (extents ++ more)) in
    ap image_reading regrouped
    ∙ behind_header h (nodes ++ (names ++ (extents ++ more))) fits.0
    ∙ behind_nodes h (nodes ++ (names ++ (extents ++ more))) (names ++ (extents ++ more)) (record { rows = raw.nodes; number = refl; are = record { fit = fits.1; spelled = refl } })
    ∙ behind_names h raw.nodes (names ++ (extents ++ more)) (extents ++ more) (record { rows = raw.names; number = refl; are = record { fit = fits.2; spelled = refl } })
    ∙ behind_extents h raw.nodes raw.names (extents ++ more) more (record { rows = raw.extents; number = refl; are = record { fit = fits.3; spelled = refl } })

pub image_is_read : (bytes : List ℕ) → IsBytes bytes → (answer : Result RawImage ImageSpellingFault) → ImageAnswer bytes answer → image_reading bytes ≡ answer
image_is_read bytes fits (Ok raw) is = ap image_reading (is.1 ∙ sym (append-nil (raw_image_bytes raw))) ∙ whole_image raw [] is.0
image_is_read bytes fits (Err ImageTrailing) is = ap image_reading is.4 ∙ whole_image is.0 is.1 is.2 ∙ trailing (image_header_of is.0) is.0.nodes is.0.names is.0.extents is.1 is.3
image_is_read bytes fits (Err BadImageHeader) is = no_header bytes fits is
image_is_read bytes fits (Err (BadImageRow k)) is =
    let behind : IsBytes is.1 = IsBytes-behind (image_header is.0) is.1 (subst IsBytes is.3 fits) in
    let missing = is.4 in
    ap image_reading is.3 ∙ behind_header is.0 is.1 is.2 ∙ row_is_missing is.0 missing.part missing.in_part is.1 behind missing.lacks ∙ ap (λ (n : ℕ). Err (BadImageRow n)) (sym missing.counted)

pub one_image_answer : (bytes : List ℕ) → IsBytes bytes → (one other : Result RawImage ImageSpellingFault) → ImageAnswer bytes one → ImageAnswer bytes other → one ≡ other
one_image_answer bytes fits one other is this = sym (image_is_read bytes fits one is) ∙ image_is_read bytes fits other this
