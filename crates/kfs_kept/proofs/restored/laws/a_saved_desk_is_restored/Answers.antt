use Rattle.kfs_kept.proofs.RestoredLemmas.SavedStates.{saved_is_restored}
use Rattle.kfs_kept.proofs.restored.laws.a_saved_desk_is_restored.Goals as goal

pub returns : goal.returns
returns g c = λ bytes beside saved.
    saved_is_restored c.args.desk.now.state bytes
    (record {
      in_order = c.image-image.ensures.in_order;
      lawful = c.leases-leases.ensures.lawful;
      shown = record { image = c.image-image.result.now; lawful = c.shape-shape.ensures.lawful; is = c.image-image.ensures.shown };
      beside = beside;
    })
    saved
