use Rattle.std.proofs.Common.{◌≡◌, ℕ, ◌+◌, ◌<◌, ◌≤◌, drop, length, count_by}
use Rattle.kfs_model.proofs.Counts.{tally}
use Rattle.kfs_shape.specs.NameCounts.{count_in, leads_to}
use Rattle.kfs_shape.proofs.names.name_counts.Given as goal

abbrev pub invariant-loop-link : goal.invariant-loop-link
invariant-loop-link g l = record {
  many : length l.counts.items ≡ l.many;
  counts : (number : ℕ) → number < l.many → count_in l.counts.items number + tally (leads_to number) (drop l.link-index l.links) ≡ count_by (leads_to number) l.links;
  few : (number : ℕ) → number < l.many → count_in l.counts.items number ≤ l.link-index;
}
