-- Why bytes were not read, or make no image, as it is told.
use Rattle.std.proofs.Common.{inl, inr, ℕ, List, Ok, Err, option_map, refl, ap}
use Rattle.kfs_model.specs.Device.Finding.{finding_of}
use Rattle.kfs_model.specs.Device.RawImage.{RawImage}
use Rattle.kfs_model.specs.Device.Spelling as images
use Rattle.kfs_model.specs.Device.Spelling.{ImageAnswer}
use Rattle.kfs_image.specs.Codec.Answers.{OnImageRefusal}
use Rattle.kfs_image.specs.declared.codec.fault.ImageFault.{ImageFault}
use Rattle.kfs_image.specs.declared.codec.fault.ImageFault.TheVariants as image_faults
use Rattle.kfs_call.specs.StateRows as states
use Rattle.kfs_call.specs.StateRows.{StateRows, StateAnswer}
use Rattle.kfs_call.specs.StateViews.{OnStateAnswer}
use Rattle.kfs_call.specs.declared.state_fault.StateFault.{StateFault}
use Rattle.kfs_call.specs.declared.state_fault.StateFault.TheVariants as state_faults
use Rattle.kfs_shape.specs.Findings.{Names, finding_shown}
use Rattle.kfs_shape.specs.declared.fault.ShapeFault.{ShapeFault}
use Rattle.kfs_shape.specs.declared.fault.ShapeFault.TheVariants as shape_faults
use Rattle.kfs_call_desk.specs.Restore.Restored.{BadImage, BadState, BrokenRule, Refused, RestoreAnswer, rule_refusal}
use Rattle.kfs_call_desk.specs.Restore.Told.{IsRefusedFor, OnRefused, image_told, rule_told, state_told}

module _ (source : List ℕ) where
  pub state_refused : {V : Type 0} (view : V → StateRows) (fault : StateFault) → OnStateAnswer view (StateAnswer source) (Err fault) → OnRefused (λ refusal. RestoreAnswer source (Err refusal)) (state_told fault)
  state_refused view state_faults.BadHeader found = inr (BadState states.BadHeader, refl, (Err states.BadHeader, found, refl))
  state_refused view (state_faults.BadRow part k) found = inr (BadState (states.BadRow part k), refl, (Err (states.BadRow part k), found, refl))
  state_refused view state_faults.OutOfMemory found = inl refl

  pub image_refused : (s : StateRows) → StateAnswer source (Ok s) → (fault : ImageFault) → OnImageRefusal (ImageAnswer s.image) fault → OnRefused (λ refusal. RestoreAnswer source (Err refusal)) (image_told fault)
  image_refused s is image_faults.BadImageHeader found = inr (BadImage images.BadImageHeader, refl, (Ok s, is, (Err images.BadImageHeader, found, refl)))
  image_refused s is (image_faults.BadImageRow k) found = inr (BadImage (images.BadImageRow k), refl, (Ok s, is, (Err (images.BadImageRow k), found, refl)))
  image_refused s is image_faults.ImageTrailing found = inr (BadImage images.ImageTrailing, refl, (Ok s, is, (Err images.ImageTrailing, found, refl)))
  image_refused s is image_faults.OutOfMemory found = inl refl

pub rule_refused : (raw : RawImage) (found : ShapeFault) → Names found (finding_of raw) → IsRefusedFor (rule_refusal raw) (rule_told found)
rule_refused raw (shape_faults.Found finding) named = inr (Refused (BrokenRule (finding_shown finding)), refl, ap (λ o. option_map Refused (option_map BrokenRule o)) named)
rule_refused raw shape_faults.OutOfMemory named = inl refl
