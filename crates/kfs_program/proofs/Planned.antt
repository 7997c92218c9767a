-- The lines of `plan`: an image, a client, a log.
use Rattle.std.proofs.Common.{◌≡◌, ℕ, nat_lt, List, [], ◌∷◌, ◌++◌, length, codes, bytes_eq, refl, ap, subst, ◌∙◌, arith, option_map, Bool, true, false, Option, Some, None, Result, Ok, Err, if◌then◌else◌}
use Rattle.std.specs.Result.{IsErrAnd}
use Rattle.kfs_model.specs.Access.{Client}
use Rattle.kfs_model.specs.Device.ShownTree.{DeviceImage}
use Rattle.kfs_program_text.specs.Command.{Load, asked_by}
use Rattle.kfs_program.specs.Images.Loading.{AppendsLine, LoadsWith}
use Rattle.kfs_program_text.specs.Decimals.{hexadecimal}
use Rattle.kfs_program_text.specs.Parts.{line_of}
use Rattle.kfs_program_text.specs.Reading.{ReadsAs, first_by, only}
use Rattle.std.proofs.lemmas.Bool.Decides.{nat_tests}
use Rattle.kfs_program_text.proofs.WordByWord.{first_if}
use Rattle.kfs_program_text.specs.declared.words.Refusal.{Refusal}
use Rattle.kfs_program.specs.Planning.{IsClientOf, IsImageOf, RefusesClient, RefusesImage, SaysForLog, SaysOfPlan, TakesClient, TakesImage, log_in, log_said}

-- ---- the image

-- the bytes make the image
pub loaded : (bytes before after cleared : List ℕ) (result : Option DeviceImage) (image : DeviceImage) → result ≡ Some image → cleared ≡ [] → AppendsLine before after (LoadsWith bytes result) → TakesImage (Some (Load bytes)) (Some image) cleared
loaded bytes before after cleared result image is empty appended =
    let (line, added, (made, ok)) = subst (λ (r : Option DeviceImage). AppendsLine before after (LoadsWith bytes r)) is appended in
    (made, empty)

-- they make none
pub unloaded : (bytes before after : List ℕ) (result : Option DeviceImage) → result ≡ None → before ≡ [] → AppendsLine before after (LoadsWith bytes result) → TakesImage (Some (Load bytes)) None after
unloaded bytes before after result is none appended =
    let (line, added, why) = subst (λ (r : Option DeviceImage). AppendsLine before after (LoadsWith bytes r)) is appended in
    let alone : after ≡ line_of line = subst (λ (b : List ℕ). after ≡ b ++ line_of line) none added in
    (line, why, alone)

-- ---- the log

pub reads_none : {T V : Type 0} (view : T → V) (expected : Option V) (refusal : Refusal) (result : Result T Refusal) → IsErrAnd result (λ other. other ≡ refusal) → expected ≡ None → ReadsAs view expected result
reads_none view expected refusal (Ok x) is none = absurd is
reads_none view expected refusal (Err other) is none = λ bad. none

some_left : (some : Bool) (name : List ℕ) (words : List (List ℕ)) → some ≡ true → (if some then option_map {U = List ℕ × List (List ℕ)} (λ x. (x, words)) (Some name) else None) ≡ None → ⊥
some_left false name words is none = cc
some_left true name words is none = cc

-- there is no first word
pub nameless : (words : List (List ℕ)) → first_by (λ word. Some word) words ≡ None → log_in words ≡ None
unfolding first_by
nameless [] none = refl
nameless ([] ∷ words) none = refl
nameless ((byte ∷ bytes) ∷ words) none = absurd (some_left (nat_lt 0 (length (byte ∷ bytes))) (byte ∷ bytes) words (grind (arith, nat_tests)) none)

-- the first word is this one
pub named : (words : List (List ℕ)) (name : List ℕ) (left : List (List ℕ)) → first_by (λ word. Some word) words ≡ Some (name, left) → log_in words ≡ (if bytes_eq name (codes "log") then only hexadecimal left else None)
unfolding first_by
named [] name left is = cc
named (first ∷ words) name left is =
    let same = first_if (nat_lt 0 (length first)) first name words left is in
    ap (λ w. if bytes_eq w (codes "log") then only hexadecimal words else None) same.1
    ∙ ap (λ ws. if bytes_eq name (codes "log") then only hexadecimal ws else None) same.2

-- ---- line after line

-- the image of the first line is known
pub image_known : (first said text : List ℕ) (result : Option DeviceImage) (image : DeviceImage) → said ≡ first → result ≡ Some image → TakesImage (asked_by said) result text → IsImageOf (asked_by first) image
image_known first said text result image same is takes =
    let known = subst (λ (r : Option DeviceImage). TakesImage (asked_by said) r text) is takes in
    subst (λ (l : List ℕ). IsImageOf (asked_by l) image) same known.0

-- the first line is refused
pub refuses_image : (first said text : List ℕ) (result : Option DeviceImage) → said ≡ first → result ≡ None → TakesImage (asked_by said) result text → SaysOfPlan (first ∷ []) false text
refuses_image first said text result same is takes =
    let refused = subst (λ (r : Option DeviceImage). TakesImage (asked_by said) r text) is takes in
    subst (λ (l : List ℕ). RefusesImage (asked_by l) text) same refused

-- the client of the second line is known
pub client_known : (second said text : List ℕ) (result : Option Client) (client : Client) → said ≡ second → result ≡ Some client → TakesClient (asked_by said) result text → IsClientOf (asked_by second) client
client_known second said text result client same is takes =
    let known = subst (λ (r : Option Client). TakesClient (asked_by said) r text) is takes in
    subst (λ (l : List ℕ). IsClientOf (asked_by l) client) same known.0

-- the second line is refused
pub refuses_client : (first second said text : List ℕ) (image : DeviceImage) (result : Option Client) → said ≡ second → result ≡ None → IsImageOf (asked_by first) image → TakesClient (asked_by said) result text → SaysOfPlan (first ∷ second ∷ []) false text
refuses_client first second said text image result same is known takes =
    let refused = subst (λ (r : Option Client). TakesClient (asked_by said) r text) is takes in
    (image, known, subst (λ (l : List ℕ). RefusesClient (asked_by l) text) same refused)

-- the log is answered
pub says_log : (first second third said text : List ℕ) (image : DeviceImage) (client : Client) (is_log : Bool) → said ≡ third → IsImageOf (asked_by first) image → IsClientOf (asked_by second) client → SaysForLog image client (log_said said) is_log text
    → SaysOfPlan (first ∷ second ∷ third ∷ []) is_log text
says_log first second third said text image client is_log same is_image is_client says =
    (image, client, is_image, is_client, subst (λ (l : List ℕ). SaysForLog image client (log_said l) is_log text) same says)
