-- All bytes have an answer as a log, and one as a plan.
use Rattle.std.proofs.Common.{◌≡◌, ◌≢◌, ℕ, List, [], ◌∷◌, ◌++◌, length, Option, Some, None, Result, Ok, Err, refl, sym, ap, subst, ◌∙◌, append_assoc, inl, inr}
use Rattle.std.specs.List.{flat_map}
use Rattle.std.proofs.lemmas.List.{append-nil}
use Rattle.kfs_model.specs.Entry.{Log}
use Rattle.kfs_model.specs.PlanRow.{Plan}
use Rattle.kfs_model.specs.Spelling.{IsBytes, BeginsWithRows, LogHeader, IsLogHeader, log_header, log_header_of, IsEntry, entry_bytes, IsLog, log_bytes, LogAnswer, PlanHeader, IsPlanHeader, plan_header, plan_header_of, IsPlan, plan_bytes, IsNameRow, name_row_bytes, IsNodeRow, node_row_bytes, IsPiece, piece_bytes, PlanAnswer, SpellingFault, BadHeader, BadEntry, Trailing, BadRow}
use Rattle.kfs_model.proofs.Reading.{log_header_read, plan_header_read}
use Rattle.kfs_model.proofs.EntryLaws.{entry_field}
use Rattle.kfs_model.proofs.HeaderLaws.{log_header_field, plan_header_field}
use Rattle.kfs_model.proofs.PlanLaws.{name_row_field, node_row_field, piece_field}
use Rattle.kfs_model.proofs.RowsRead.{IsBytes-behind}
use Rattle.kfs_model.proofs.RowsOrStop.{begins_with_none, rows_or_stop}

abbrev pub HasLogAnswer : List ℕ → Type 0
HasLogAnswer bytes = (answer : Result Log SpellingFault) × LogAnswer bytes answer

abbrev pub HasPlanAnswer : List ℕ → Type 0
HasPlanAnswer bytes = (answer : Result Plan SpellingFault) × PlanAnswer bytes answer

-- ---- logs

-- a header and entries that stand behind it are a log
pub spelled_log : (bytes rest more : List ℕ) (h : LogHeader) → IsLogHeader h → bytes ≡ log_header h ++ rest → (stand : BeginsWithRows (IsEntry h.version) entry_bytes h.count rest more)
    → let l : Log = record { version = h.version; client = h.client; entries = stand.rows } in IsLog l × (bytes ≡ log_bytes l ++ more)
spelled_log bytes rest more h fits parts stand =
    let l : Log = record { version = h.version; client = h.client; entries = stand.rows } in
    let same : log_header_of l ≡ h = ap (λ (n : ℕ). record { version = h.version; client = h.client; count = n }) stand.number in
    let whole : bytes ≡ log_header h ++ (flat_map entry_bytes l.entries ++ more) = parts ∙ ap (λ (b : List ℕ). log_header h ++ b) stand.are.spelled in
    let joined : bytes ≡ log_header h ++ flat_map entry_bytes l.entries ++ more = whole ∙ sym (append_assoc (log_header h) (flat_map entry_bytes l.entries) more) in (
      (subst IsLogHeader (sym same) fits, stand.are.fit),
      joined ∙ ap (λ (g : LogHeader). log_header g ++ flat_map entry_bytes l.entries ++ more) (sym same),
    )

log_behind : (bytes rest more : List ℕ) (h : LogHeader) → IsLogHeader h → bytes ≡ log_header h ++ rest → BeginsWithRows (IsEntry h.version) entry_bytes h.count rest more → HasLogAnswer bytes
log_behind bytes rest [] h fits parts stand =
    let l = spelled_log bytes rest [] h fits parts stand in
    (Ok (record { version = h.version; client = h.client; entries = stand.rows }), (l.0, l.1 ∙ append-nil _))
log_behind bytes rest (b ∷ more) h fits parts stand =
    let l = spelled_log bytes rest (b ∷ more) h fits parts stand in
    let some : b ∷ more ≢ [] = λ e. cc in
    (Err Trailing, (record { version = h.version; client = h.client; entries = stand.rows }, b ∷ more, l.0, some, l.1))

pub log_has_answer : (bytes : List ℕ) → IsBytes bytes → HasLogAnswer bytes
log_has_answer bytes are = by_header (log_header_read bytes) refl
  where
    by_header : (found : Option (LogHeader × List ℕ)) → log_header_read bytes ≡ found → HasLogAnswer bytes
    by_header None is = (Err BadHeader, begins_with_none log_header_field bytes is)
    by_header (Some x) is =
        let header = log_header_field.takes bytes x are is in
        elim (rows_or_stop (entry_field x.0.version) x.0.count x.1 header.rest_bytes) [
          | inl stand ↦ log_behind bytes x.1 stand.0 x.0 header.fits header.parts stand.1
          | inr stop ↦ (Err (BadEntry stop.0), (x.0, x.1, header.fits, header.parts, stop.1))
        ]

-- ---- plans

-- three parts that stand are a plan
pub plan_is_spelled : (source a b d rest : List ℕ) (h : PlanHeader) → IsPlanHeader h → source ≡ plan_header h ++ a
    → (names : BeginsWithRows IsNameRow name_row_bytes h.names a b) (nodes : BeginsWithRows IsNodeRow node_row_bytes h.nodes b d) (pieces : BeginsWithRows IsPiece piece_bytes h.pieces d rest)
    → let p : Plan = record { version = h.version; names = names.rows; nodes = nodes.rows; pieces = pieces.rows } in IsPlan p × (source ≡ plan_bytes p ++ rest)
plan_is_spelled source a b d rest h fits front names nodes pieces =
    let p : Plan = record { version = h.version; names = names.rows; nodes = nodes.rows; pieces = pieces.rows } in
    let same : plan_header_of p ≡ h = ap (λ (n : ℕ × ℕ × ℕ). record { version = h.version; names = n.0; nodes = n.1; pieces = n.2 }) (let e : (length names.rows, length nodes.rows, length pieces.rows) ≡ (h.names, h.nodes, h.pieces) = rw (names.number, nodes.number, pieces.number) refl in e) in
    let n = flat_map name_row_bytes names.rows in
    let m = flat_map node_row_bytes nodes.rows in
    let q = flat_map piece_bytes pieces.rows in
    let whole : source ≡ plan_header h ++ (n ++ (m ++ (q ++ rest))) =
    front ∙ ap (λ (l : List ℕ). plan_header h ++ l) (names.are.spelled ∙ ap (λ (l : List ℕ). n ++ l) (nodes.are.spelled ∙ ap (λ (l : List ℕ). m ++ l) pieces.are.spelled)) in
    let joined : plan_header h ++ n ++ m ++ q ++ rest ≡ plan_header h ++ (n ++ (m ++ (q ++ rest))) =
    append_assoc (plan_header h ++ n ++ m) q rest ∙ append_assoc (plan_header h ++ n) m (q ++ rest) ∙ append_assoc (plan_header h) n (m ++ (q ++ rest)) in (
      (subst IsPlanHeader (sym same) fits, names.are.fit, nodes.are.fit, pieces.are.fit),
      whole ∙ sym joined ∙ ap (λ (g : PlanHeader). plan_header g ++ n ++ m ++ q ++ rest) (sym same),
    )

plan_behind : (bytes a b d rest : List ℕ) (h : PlanHeader) → IsPlanHeader h → bytes ≡ plan_header h ++ a
    → (names : BeginsWithRows IsNameRow name_row_bytes h.names a b) (nodes : BeginsWithRows IsNodeRow node_row_bytes h.nodes b d) (pieces : BeginsWithRows IsPiece piece_bytes h.pieces d rest) → HasPlanAnswer bytes
plan_behind bytes a b d [] h fits parts names nodes pieces =
    let p = plan_is_spelled bytes a b d [] h fits parts names nodes pieces in
    (Ok (record { version = h.version; names = names.rows; nodes = nodes.rows; pieces = pieces.rows }), (p.0, p.1 ∙ append-nil _))
plan_behind bytes a b d (byte ∷ more) h fits parts names nodes pieces =
    let p = plan_is_spelled bytes a b d (byte ∷ more) h fits parts names nodes pieces in
    let some : byte ∷ more ≢ [] = λ e. cc in
    (Err Trailing, (record { version = h.version; names = names.rows; nodes = nodes.rows; pieces = pieces.rows }, byte ∷ more, p.0, some, p.1))

bytes_behind : {V : Type 0} {F : V → Type 0} {s : V → List ℕ} {count : ℕ} {bytes rest : List ℕ} → IsBytes bytes → BeginsWithRows F s count bytes rest → IsBytes rest
bytes_behind {V} {F} {s} {count} {bytes} {rest} are stand = IsBytes-behind (flat_map s stand.rows) rest (subst IsBytes stand.are.spelled are)

module _ (bytes a : List ℕ) (h : PlanHeader) (fits : IsPlanHeader h) (parts : bytes ≡ plan_header h ++ a) where
  pieces_behind : (b d : List ℕ) → IsBytes d → BeginsWithRows IsNameRow name_row_bytes h.names a b → BeginsWithRows IsNodeRow node_row_bytes h.nodes b d → HasPlanAnswer bytes
  pieces_behind b d are names nodes =
      elim (rows_or_stop piece_field h.pieces d are) [
        | inl stand ↦ plan_behind bytes a b d stand.0 h fits parts names nodes stand.1
        | inr stop ↦ (Err (BadRow 2 stop.0), (h, a, fits, parts, (b, d, names, nodes, stop.1)))
      ]

  nodes_behind : (b : List ℕ) → IsBytes b → BeginsWithRows IsNameRow name_row_bytes h.names a b → HasPlanAnswer bytes
  nodes_behind b are names =
      elim (rows_or_stop node_row_field h.nodes b are) [
        | inl stand ↦ pieces_behind b stand.0 (bytes_behind are stand.1) names stand.1
        | inr stop ↦ (Err (BadRow 1 stop.0), (h, a, fits, parts, (b, names, stop.1)))
      ]

  names_behind : IsBytes a → HasPlanAnswer bytes
  names_behind are =
      elim (rows_or_stop name_row_field h.names a are) [
        | inl stand ↦ nodes_behind stand.0 (bytes_behind are stand.1) stand.1
        | inr stop ↦ (Err (BadRow 0 stop.0), (h, a, fits, parts, stop.1))
      ]

pub plan_has_answer : (bytes : List ℕ) → IsBytes bytes → HasPlanAnswer bytes
plan_has_answer bytes are = by_header (plan_header_read bytes) refl
  where
    by_header : (found : Option (PlanHeader × List ℕ)) → plan_header_read bytes ≡ found → HasPlanAnswer bytes
    by_header None is = (Err BadHeader, begins_with_none plan_header_field bytes is)
    by_header (Some x) is =
        let header = plan_header_field.takes bytes x are is in
        names_behind bytes x.1 x.0 header.fits header.parts header.rest_bytes
