-- What a walk has found over the cells holds of the run over a sound tree.
use Rattle.std.specs.Prelude.{◌≡◌, ℕ, Bool, List, [], Result, Ok, Err, refl}
use Rattle.std.proofs.Common.{ap, sym, subst, ◌∙◌}
use Rattle.kfs_model.specs.CleanStep.{Fits}
use Rattle.kfs_model.specs.Access.{Client}
use Rattle.kfs_model.specs.Entry.{Entry}
use Rattle.kfs_model.specs.Tree.{Tree}
use Rattle.kfs_model.specs.Sight.{Sight, sight, client_sight}
use Rattle.kfs_model.specs.Run.{EntryFault, run, over_bytes}
use Rattle.kfs_model.specs.SeenAfter.{seen_run_from, shown_run}
use Rattle.kfs_model.proofs.OneByOne.{run_is_one_by_one}
use Rattle.kfs_model.proofs.SeenRun.{run_is_seen, run_keeps_sound, bytes_faithful}
use Rattle.kfs_image_nodes.specs.declared.net.Net.{Net}
use Rattle.kfs_judge.specs.declared.walk.EntryFault.{EntryFault as CodeEntryFault}
use Rattle.kfs_judge.specs.Walks.{WalkEndsIn, ComesToTree, fault_of}
use Rattle.kfs_judge.specs.Step.Nets.{IsNetOf}
use Rattle.kfs_pieces.specs.declared.log.FileSize.{FileSize}
use Rattle.kfs_pieces.specs.Sizes.{AreSizesBetween}

stopped : (fault : EntryFault) (ran : Result (Tree ℕ) EntryFault) → shown_run ran ≡ Err fault → ran ≡ Err fault
stopped fault (Ok after) is = cc
stopped fault (Err other) is = ap Err cc

ended : (shown : Sight) (ran : Result (Tree ℕ) EntryFault) → shown_run ran ≡ Ok shown → (after : Tree ℕ) × (ran ≡ Ok after) × (sight after ≡ shown)
ended shown (Ok after) is = (after, refl, cc)
ended shown (Err fault) is = cc

module _ (client : Client) (held : ℕ → Bool) (t : Tree ℕ) (entries : List Entry) (fits : Fits client t entries) where
  seen : shown_run (run over_bytes client (client_sight t held) t entries) ≡ seen_run_from client (client_sight t held) 0 [] (sight t) entries
  seen = run_is_seen over_bytes bytes_faithful client (client_sight t held) fits.in_range 0 [] t fits.version entries fits.sound fits.fitting

  pub comes_to_tree : {A : Type 0} (outcome : Result (Net A (List ℕ)) CodeEntryFault) (sizes : List FileSize) → WalkEndsIn client (client_sight t held) entries outcome sizes → ComesToTree client held t entries outcome sizes
  comes_to_tree (Err fault) sizes comes = stopped (fault_of fault) _ (seen ∙ comes)
  comes_to_tree (Ok net) sizes comes =
      let (after, is, shown) = ended comes.0 _ (seen ∙ comes.1) in (
        after,
        is,
        run_keeps_sound over_bytes bytes_faithful client (client_sight t held) fits.in_range 0 [] t fits.version entries fits.sound fits.fitting after is,
        run_is_one_by_one client (client_sight t held) 0 [] t entries after is,
        subst (λ s. IsNetOf (sight t) s net) (sym shown) comes.2,
        subst (λ s. AreSizesBetween (sight t) s entries sizes) (sym shown) comes.3,
      )
