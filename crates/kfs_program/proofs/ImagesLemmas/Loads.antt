-- What the line says of bytes: that they make an image, or why they make none.
use Rattle.std.proofs.Common.{◌≡◌, ℕ, List, ◌++◌, refl, sym, subst, ap, ◌∙◌, inl, inr, true, false, Option, Some, None, Ok}
use Rattle.std.specs.Prelude.{codes, is_some}
use Rattle.kfs_model.specs.Device.ShownTree.{DeviceImage}
use Rattle.kfs_model.specs.Device.RawImage.{RawImage, image_of}
use Rattle.kfs_model.specs.Device.Finding.{IsWellFormed, finding_of}
use Rattle.kfs_model.specs.Device.Spelling.{ImageAnswer, BadImageHeader, ImageTrailing, BadImageRow}
use Rattle.kfs_image.specs.Codec.Answers.{OnImageRefusal}
use Rattle.kfs_image.specs.declared.codec.raw.RawImage.{RawImage as CodeRawImage}
use Rattle.kfs_image.specs.declared.codec.fault.ImageFault.{ImageFault}
use Rattle.kfs_image.specs.declared.codec.fault.ImageFault.TheVariants as faults
use Rattle.kfs_shape.specs.Findings.{finding_shown}
use Rattle.kfs_shape.specs.declared.fault.Finding.{Finding as CodeFinding}
use Rattle.kfs_program_text.specs.Parts.{line_of}
use Rattle.kfs_program.specs.Report.{finding_text, image_fault_text}
use Rattle.kfs_program.specs.Images.Loading.{AppendsLine, AreSound, LoadsWith, SaysWhyNot}
use Rattle.kfs_program.specs.Images.Showing.{AnswersImage, AppendsAnswer, Passes, Shows, bytes_said, show_text}

-- the bytes decode to none
says_fault : (bytes : List ℕ) (fault : ImageFault) → (fault ≡ faults.OutOfMemory → ⊥) → OnImageRefusal {M = RawImage} (ImageAnswer bytes) fault → SaysWhyNot bytes (codes "image " ++ image_fault_text fault)
says_fault bytes faults.BadImageHeader other refused = inl (BadImageHeader, refused, refl)
says_fault bytes (faults.BadImageRow k) other refused = inl (BadImageRow k, refused, refl)
says_fault bytes faults.ImageTrailing other refused = inl (ImageTrailing, refused, refl)
says_fault bytes faults.OutOfMemory other refused = absurd (other refl)

module _ (bytes before after : List ℕ) where
  pub unspelled : (fault : ImageFault) → (fault ≡ faults.OutOfMemory → ⊥) → OnImageRefusal {M = RawImage} (ImageAnswer bytes) fault → after ≡ before ++ line_of (codes "image " ++ image_fault_text fault) → AppendsLine before after (SaysWhyNot bytes)
  unspelled fault other refused added = (codes "image " ++ image_fault_text fault, added, says_fault bytes fault other refused)

  -- they break a rule
  pub broken : (mid : List ℕ) (raw : RawImage) (finding : CodeFinding) → ImageAnswer bytes (Ok raw) → mid ≡ before → finding_of raw ≡ Some (finding_shown finding) → after ≡ mid ++ line_of (finding_text finding.rule finding.number) → AppendsLine before after (SaysWhyNot bytes)
  broken mid raw finding read same found added =
      (finding_text finding.rule finding.number, added ∙ ap (λ text. text ++ line_of (finding_text finding.rule finding.number)) same, inr (finding_shown finding, record { raw = raw; read = read; found = found }, refl))

  -- they break none
  pub loaded : (mid : List ℕ) (raw : RawImage) (image : DeviceImage) → ImageAnswer bytes (Ok raw) → mid ≡ before → IsWellFormed raw → image ≡ image_of raw → after ≡ mid ++ line_of (codes "ok") → AppendsLine before after (LoadsWith bytes (Some image))
  loaded mid raw image read same well_formed is added =
      (codes "ok", added ∙ ap (λ text. text ++ line_of (codes "ok")) same, (record { raw = raw; read = read; well_formed = well_formed; is = is }, refl))

-- ---- what is written for a line that says these bytes

module _ (line before bytes : List ℕ) (said : bytes_said line ≡ Some bytes) where
  -- where they make no image
  says_why : (Says : (bytes text : List ℕ) → Type 0) (after : List ℕ) → AppendsLine before after (SaysWhyNot bytes) → AppendsAnswer Says line before after false
  says_why Says after (why, added, told) = (line_of why, added, subst (λ b. AnswersImage Says b false (line_of why)) (sym said) (why, told, refl))

  pub checked : (after : List ℕ) (image : Option DeviceImage) → AppendsLine before after (LoadsWith bytes image) → AppendsAnswer Passes line before after (is_some image)
  checked after (Some image) (text, added, (is, ok)) = (line_of text, added, subst (λ b. AnswersImage Passes b true (line_of text)) (sym said) (image, is, ap line_of ok))
  checked after None told = says_why Passes after told

  module _ {A : Type 0} (mid : List ℕ) (rows : Option (CodeRawImage A)) (sound : AreSound bytes before mid rows) where
    pub unshown : rows ≡ None → AppendsAnswer (Shows A) line before mid false
    unshown none = says_why (Shows A) mid (subst (AreSound bytes before mid) none sound)

    pub shown : (raw : CodeRawImage A) (after : List ℕ) → rows ≡ Some raw → after ≡ mid ++ show_text raw → AppendsAnswer (Shows A) line before after true
    shown raw after some added =
        let (read, well_formed, same) = subst (AreSound bytes before mid) some sound in
        (show_text raw, added ∙ ap (λ text. text ++ show_text raw) same, subst (λ b. AnswersImage (Shows A) b true (show_text raw)) (sym said) (raw, read, well_formed, refl))
