-- The fault of a client, seen from its number and its grant.
use Rattle.std.proofs.Common.{◌≡◌, ◌==◌, Bool, true, false, cond, List, length, Option, Some, None, ap, ◌∙◌}
use Rattle.std.specs.List.{list_any}
use Rattle.kfs_model.specs.Access.{Client}
use Rattle.kfs_desk.specs.declared.history.answers.BeginFault.{BeginFault}
use Rattle.kfs_desk.specs.declared.history.answers.BeginFault.TheVariants.{ClientTwice, GrantOverlap}
use Rattle.kfs_desk.specs.Opening.{do_overlap, fault_behind}

module _ (earlier : List Client) (client : Client) where
  abbrev pub is_twice : Bool
  is_twice = list_any (λ (row : Client). row.number == client.number) earlier

  abbrev pub has_overlap : Bool
  has_overlap = list_any (λ (row : Client). do_overlap row client) earlier

  abbrev by_tests : (twice overlap : Bool) → Option BeginFault
  by_tests twice overlap = cond twice (Some (ClientTwice (length earlier))) (cond overlap (Some (GrantOverlap (length earlier))) None)

  pub number_taken : is_twice ≡ true → fault_behind earlier client ≡ Some (ClientTwice (length earlier))
  number_taken twice = ap (λ b. by_tests b has_overlap) twice

  pub grant_taken : is_twice ≡ false → has_overlap ≡ true → fault_behind earlier client ≡ Some (GrantOverlap (length earlier))
  grant_taken new overlap = ap (λ b. by_tests b has_overlap) new ∙ ap (λ b. by_tests false b) overlap

  pub no_fault : is_twice ≡ false → has_overlap ≡ false → fault_behind earlier client ≡ None
  no_fault new alone = ap (λ b. by_tests b has_overlap) new ∙ ap (λ b. by_tests false b) alone
