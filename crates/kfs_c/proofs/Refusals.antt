-- Why no desk is opened, as it is told.
use Rattle.std.proofs.Common.{◌≡◌, ◌⊎◌, inl, inr, ℕ, ◌+◌, ◌<◌, ◌++◌, List, ◌∷◌, All, Some, Result, Ok, Err, length, take, drop, refl, sym, ap, subst, ◌∙◌, take-append-drop, arith}
use Rattle.std.proofs.lemmas.List.{length-take-le}
use Rattle.std.specs.Prelude.{IfErr, IsErrAnd}
use Rattle.kfs_model.specs.Access.{Client}
use Rattle.kfs_model.specs.Device.Finding.{finding_of}
use Rattle.kfs_model.specs.Device.RawImage.{RawImage}
use Rattle.kfs_model.specs.Device.Spelling.{ImageAnswer}
use Rattle.kfs_image.specs.Codec.Answers.{OnImageRefusal}
use Rattle.kfs_image.specs.declared.codec.fault.ImageFault.{ImageFault}
use Rattle.kfs_shape.specs.Findings.{Names, finding_shown}
use Rattle.kfs_shape.specs.declared.fault.ShapeFault.{ShapeFault}
use Rattle.kfs_shape.specs.declared.fault.ShapeFault.TheVariants as shapes
use Rattle.kfs_desk.specs.Opening.{begin_fault}
use Rattle.kfs_desk.specs.declared.history.answers.BeginFault.{BeginFault}
use Rattle.kfs_desk.specs.declared.history.answers.BeginFault.TheVariants as beginnings
use Rattle.kfs_c.specs.declared.numbers.ClientRow.{ClientRow}
use Rattle.kfs_c.specs.declared.submission.numbers.FaultNumbers.{FaultNumbers}
use Rattle.kfs_c.specs.declared.opening.Unopened.{Unopened}
use Rattle.kfs_c.specs.declared.opening.Unopened.TheVariants.{NoMemory, Refused}
use Rattle.kfs_c.specs.Opening.{AreClientsRefused, AreRowsRefused, BreaksRule, IsNoImage, IsRowRefused, IsRowRight, IsRefusedAs, broken_as, unbegun_as, unread_as}

-- what is said wherever a fault is told
pub refused_by : (Says : FaultNumbers → Type 0) (why : Unopened) → ((told : FaultNumbers) → why ≡ Refused told → Says told) → IsRefusedAs Says why
refused_by Says NoMemory each = tt
refused_by Says (Refused told) each = each told refl

pub refused_more : (One Other : FaultNumbers → Type 0) (why : Unopened) → ((told : FaultNumbers) → One told → Other told) → IsRefusedAs One why → IsRefusedAs Other why
refused_more One Other NoMemory more one = tt
refused_more One Other (Refused told) more one = more told one

pub unread : (bytes : List ℕ) (found : ImageFault) → OnImageRefusal (ImageAnswer bytes) found → IsRefusedAs (IsNoImage bytes) (unread_as found)
unread bytes found is = refused_by (IsNoImage bytes) (unread_as found) (λ told e. (found, is, e))

pub broken : (bytes : List ℕ) (raw : RawImage) (found : ShapeFault) → ImageAnswer bytes (Ok raw) → Names found (finding_of raw) → IsRefusedAs (BreaksRule bytes) (broken_as found)
broken bytes raw (shapes.Found finding) read named = (raw, read, finding_shown finding, named, refl)
broken bytes raw shapes.OutOfMemory read named = tt

pub unbegun : (clients : List Client) (found : BeginFault) → (found ≡ beginnings.OutOfMemory) ⊎ (begin_fault clients ≡ Some found) → IsRefusedAs (AreClientsRefused clients) (unbegun_as found)
unbegun clients found (inl out) = subst (λ fault. IsRefusedAs (AreClientsRefused clients) (unbegun_as fault)) (sym out) tt
unbegun clients found (inr is) = refused_by (AreClientsRefused clients) (unbegun_as found) (λ told e. (found, is, e))

-- the same is said of the fault that a caller passes on
pub passed_on : {A : Type 0} (Says : FaultNumbers → Type 0) (why : Unopened) (result : Result A Unopened) → IsErrAnd result (λ given. given ≡ why) → IsRefusedAs Says why → IfErr result (IsRefusedAs Says)
passed_on Says why (Ok value) given is = tt
passed_on Says why (Err found) given is = subst (IsRefusedAs Says) (sym given) is

-- the row at this index, where those above it are right
pub row_refused : (groups : List ℕ) (rows : List ClientRow) (i : ℕ) (row : ClientRow) (why : Unopened) → i < length rows → drop i rows ≡ row ∷ drop (i + 1) rows → All (IsRowRight groups) (take i rows)
    → IsRefusedAs (IsRowRefused groups row i) why → IsRefusedAs (AreRowsRefused groups rows) why
row_refused groups rows i row why below ahead right =
    let cut : rows ≡ take i rows ++ row ∷ drop (i + 1) rows = sym (take-append-drop i rows) ∙ ap (λ rest. take i rows ++ rest) ahead in
    let index : i ≡ length (take i rows) = sym (length-take-le i rows (omega (arith, below))) in
    refused_more (IsRowRefused groups row i) (AreRowsRefused groups rows) why
    (λ told is. (take i rows, row, drop (i + 1) rows, cut, right, subst (λ at. IsRowRefused groups row at told) index is))
