-- Names of a directory, listed one behind another.
use Rattle.std.proofs.Common.{◌≡◌, ℕ, ◌+◌, ◌-◌, ◌≤◌, ◌<◌, Bool, true, false, List, [], ◌∷◌, ◌++◌, length, length-append, Option, Some, refl, sym, ap, subst, ◌∙◌, append_assoc, append-nil, arith}
use Rattle.kfs_model.specs.Tree.{NameTable}
use Rattle.kfs_model.specs.Spelling.{byte, number32}
use Rattle.kfs_server.specs.LookUps.Found.{HasNoName, IsListedIn, IsListing, IsNextName, listed_bytes, listing_bytes}

listed_len : (name : List ℕ) (number : ℕ) → length (listed_bytes name number) ≡ 5 + length name
unfolding number32
listed_len name number = omega (arith, length-append (number32 number ++ byte (length name)) name)

module _ (names : NameTable) (directory room : ℕ) (after : Option (List ℕ)) where
  -- with whatever follows, these bytes are a listing
  abbrev pub IsListedTo : (last : Option (List ℕ)) (bytes : List ℕ) → Type 0
  IsListedTo last bytes = (rest : List (List ℕ × ℕ)) (more : Bool) → IsListing names directory (room - length bytes) last rest more → IsListedIn names directory room after more (bytes ++ listing_bytes rest)

  pub listing_begins : (bytes : List ℕ) → bytes ≡ [] → IsListedTo after bytes
  listing_begins bytes none =
      let begins : IsListedTo after [] = λ rest more is.
      let e : room - 0 ≡ room = omega arith in
      record { listing = rest; are = subst (λ (n : ℕ). IsListing names directory n after rest more) e is; said = refl } in
      subst (λ (bs : List ℕ). IsListedTo after bs) (sym none) begins

  pub listing_goes_on : (last : Option (List ℕ)) (bytes new name : List ℕ) (number : ℕ) → IsNextName names directory last name number → 5 + length name ≤ room - length bytes → new ≡ bytes ++ listed_bytes name number → IsListedTo last bytes
      → IsListedTo (Some name) new
  listing_goes_on last bytes new name number next fits is so_far = λ rest more listing.
      let e : room - length new ≡ (room - length bytes) - (5 + length name) = omega (arith, ap length is, length-append bytes (listed_bytes name number), listed_len name number) in
      let whole = so_far ((name, number) ∷ rest) more (next, fits, subst (λ (n : ℕ). IsListing names directory n (Some name) rest more) e listing) in
      subst (λ (bs : List ℕ). IsListedIn names directory room after more bs) (sym (append_assoc bytes (listed_bytes name number) (listing_bytes rest)) ∙ ap (λ (bs : List ℕ). bs ++ listing_bytes rest) (sym is)) whole

  pub listing_len : (bytes new name : List ℕ) (number : ℕ) → 5 + length name ≤ room - length bytes → length bytes ≤ room → new ≡ bytes ++ listed_bytes name number → (length new ≤ room) × (room - length new < room - length bytes)
  listing_len bytes new name number fits within is =
      let e : length new ≡ length bytes + (5 + length name) = ap length is ∙ length-append bytes (listed_bytes name number) ∙ ap (λ (n : ℕ). length bytes + n) (listed_len name number) in
      (omega (arith, e), omega (arith, e))

  pub listing_ends : (last : Option (List ℕ)) (bytes : List ℕ) → IsListedTo last bytes → HasNoName names directory last → IsListedIn names directory room after false bytes
  listing_ends last bytes so_far none = subst (λ (bs : List ℕ). IsListedIn names directory room after false bs) (append-nil bytes) (so_far [] false none)

  pub listing_full : (last : Option (List ℕ)) (bytes name : List ℕ) (number : ℕ) → IsListedTo last bytes → IsNextName names directory last name number → room - length bytes < 5 + length name → IsListedIn names directory room after true bytes
  listing_full last bytes name number so_far next longer =
      subst (λ (bs : List ℕ). IsListedIn names directory room after true bs) (append-nil bytes) (so_far [] true (record { name = name; number = number; is = next; longer = longer }))
