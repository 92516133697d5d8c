-- The test of an interval's ends, taken apart and put together. Assumes nothing.
use Rattle.std.proofs.Common.{◌≡◌, true, ℤ, pos, neg_ℤ, ◌≤ℤ◌, arith}
use Rattle.std.proofs.lemmas.Int.{ints}
use Rattle.tube.specs.Spans.{reach, spans}

pub record Spanned (low high : ℤ) : Type 0 where
  pub floor : neg_ℤ (pos reach) ≤ℤ low
  pub ordered : low ≤ℤ high
  pub roof : high ≤ℤ pos reach

pub spanned : (low high : ℤ) → spans low high ≡ true → Spanned low high
spanned low high h = record { floor = grind (arith, ints); ordered = grind (arith, ints); roof = grind (arith, ints) }

pub spans_from : (low high : ℤ) → Spanned low high → spans low high ≡ true
spans_from low high h = grind (arith, ints)
