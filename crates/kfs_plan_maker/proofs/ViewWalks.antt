-- The walk over a view with the leases that a log may ask for.
use Rattle.std.proofs.Common.{◌≡◌, ℕ, Bool, true, cond, List, [], ◌∷◌, Some, None, sym, ap, subst, ◌∙◌, eq-eqb}
use Rattle.std.specs.Prelude.{is_some}
use Rattle.std.specs.List.{AllByRecursion, flat_map}
use Rattle.kfs_model.specs.Access.{Client}
use Rattle.kfs_model.specs.Lease.{Leases, holds, row_of}
use Rattle.kfs_model.specs.Sight.{sight, client_sight}
use Rattle.kfs_model.specs.Tree.{target}
use Rattle.kfs_model.specs.Device.ShownTree.{DeviceImage, IsLawful, shown_tree}
use Rattle.kfs_types.specs.declared.entry.Log.{Log as CodeLog}
use Rattle.kfs_image.specs.Image as images
use Rattle.kfs_image.proofs.ShownTrees.{sight_shown}
use Rattle.kfs_image_nodes.specs.Contents.{sight_of}
use Rattle.kfs_judge.specs.Walks.{IsRowOf, IsWalkOf}
use Rattle.kfs_judge.specs.declared.walk.Walk.{Walk}
use Rattle.kfs_judge.specs.Views.{View, clients_of, contents_of, leases_of, client_sight_in, Agrees}
use Rattle.kfs_lease.specs.Writer.{leases_of_writer}
use Rattle.kfs_lease.proofs.WriterLeases.{writer_holds}
use Rattle.kfs_plan_maker.specs.AskedLeases.{named_in}
use Rattle.kfs_plan_maker.specs.Walks.{IsWalkWithLeases}
use Rattle.kfs_plan_maker.proofs.NamedNumbers.{each_named}

-- the row of a lone client
one_row : (client : Client) (number : ℕ) → number ≡ client.number → row_of (client ∷ []) number ≡ Some client
one_row client number owner = ap (λ b. cond b (Some client) None) (eq-eqb client.number number (sym owner))

pub row_is_there : (clients : List Client) (client : Client) (number : ℕ) → clients ≡ client ∷ [] → number ≡ client.number → is_some (row_of clients number) ≡ true
row_is_there clients client number are owner = ap (λ rows. is_some (row_of rows number)) are ∙ ap is_some (one_row client number owner)

module _ {A : Type 0} (image : DeviceImage) (lawful : IsLawful image) (client : Client) (log : CodeLog A (List ℕ)) (numbers : List ℕ) (view : View A) (walk : Walk A (List ℕ)) where
  pub leased_walk : numbers ≡ flat_map (named_in (target image.names)) log.entries → contents_of view ≡ images.contents_of image → leases_of view ≡ leases_of_writer log.client numbers → clients_of view ≡ client ∷ []
      → log.client ≡ client.number → ((row : Client) × IsRowOf (clients_of view) log.client row × IsWalkOf row log walk) → Agrees walk.reads.entries (client_sight_in view log.client)
      → IsWalkWithLeases client (shown_tree image) log walk
  leased_walk named contents leases clients owner known agrees =
      let table : Leases = leases_of_writer log.client numbers in
      let held : ℕ → Bool = λ n. holds table log.client n in
      let row : row_of (clients_of view) log.client ≡ Some client = ap (λ rows. row_of rows log.client) clients ∙ one_row client log.client owner in
      let same_client : known.0 ≡ client = (let one = known.1 in cc) in
      let sights : sight_of (contents_of view) ≡ sight (shown_tree image) = ap sight_of contents ∙ sight_shown image lawful in
      let seen : client_sight_in view log.client ≡ client_sight (shown_tree image) held = λ i. record { sight = sights i; held = holds (leases i) log.client } in
      record {
        held = held;
        named = λ source. each_named (target image.names) held source log.entries (subst (AllByRecursion (λ n. held n ≡ true)) named (writer_holds log.client numbers));
        agrees = subst (Agrees walk.reads.entries) seen agrees;
        walks = subst (λ c. IsWalkOf c log walk) same_client known.2;
      }
