use Rattle.std.proofs.Common.{◌≡◌, ℕ, length}
use Rattle.kfs_maps.specs.Pages.Edits.{edited, Ascends, EditsAreWithin}
use Rattle.kfs_maps.specs.Pages.Groups.{all_held, laid_out, GroupsAreWhole}
use Rattle.kfs_maps.specs.Pages.Shown.{shown, AreIndexedFrom}
use Rattle.kfs_maps.proofs.pages.change.change_each.Given as goal

abbrev pub invariant-loop-rest : goal.invariant-loop-rest
invariant-loop-rest g l = record {
  count : length l.groups ≡ 32;
  ascends : Ascends l.rest;
  within : EditsAreWithin 0 1024 l.rest;
  whole : GroupsAreWhole (all_held l.groups);
  placed : AreIndexedFrom 0 (laid_out l.groups);
  made : (n : ℕ) → edited l.rest n (shown 0 (laid_out l.groups) n) ≡ edited l.edits n (shown 0 (laid_out l.fn.groups) n);
}

abbrev pub decreases-loop-rest : goal.decreases-loop-rest
decreases-loop-rest g l = length l.rest
