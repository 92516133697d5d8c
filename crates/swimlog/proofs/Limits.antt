-- What the sizes of a log keep, as orders of numbers. Assumes nothing.
use Rattle.std.proofs.Common.{◌≡◌, ℕ, ◌≤◌, true, arith}
use Rattle.std.proofs.lemmas.Bool.Decides.{nat_tests}
use Rattle.swimlog.specs.Limits.{are_sizes, most_gates, most_records}

pub record Limited (gates records : ℕ) : Type 0 where
  pub some : 1 ≤ gates
  pub few_gates : gates ≤ most_gates
  pub few_records : records ≤ most_records

pub limited : (gates records : ℕ) → are_sizes gates records ≡ true → Limited gates records
limited gates records h = record { some = grind (arith, nat_tests); few_gates = grind (arith, nat_tests); few_records = grind (arith, nat_tests) }
