-- What the answer of a making tells of the numbers that it was given. Assumes nothing.
use Rattle.std.proofs.Common.{◌≡◌, ℕ, Bool, true, false, cond, not, ℤ, is_err, Ok, Err, Result, sym, refl, ap, ◌∙◌, arith}
use Rattle.std.proofs.lemmas.Bool.{true≢false}
use Rattle.tube.specs.Spans.{spans}
use Rattle.tube.specs.Tubes.{row, is_interval}
use Rattle.tube.specs.Intervals.{row_of, row_if_made, made}
use Rattle.tube.specs.declared.fault.MakingFault.{MakingFault}
use Rattle.tube.specs.declared.fault.MakingFault.TheVariants.{BadValue}
use Rattle.tube.specs.declared.interval.Interval.{Interval}
use Rattle.tube.specs.declared.row.Row.{Row}

by_test : (r : Result Interval MakingFault) (b : Bool) (w : Row) (x : MakingFault) → row_if_made r ≡ cond b (Ok w) (Err x) → is_err r ≡ not b
by_test (Ok i) b w x e = grind arith
by_test (Err y) b w x e = grind arith

pub refused_made : (w : Row) (r : Result Interval MakingFault) → row_if_made r ≡ made w.low w.high → is_err r ≡ not (is_interval w)
refused_made w r e = by_test r (is_interval w) w BadValue e

pub never_refused : (w : Row) (r : Result Interval MakingFault) (x : MakingFault) → row_if_made r ≡ made w.low w.high → is_interval w ≡ true → r ≡ Err x → ⊥
never_refused w r x e i refused = true≢false (ap is_err (sym refused) ∙ refused_made w r e ∙ ap not i)

pub record Made (low high : ℤ) (i : Interval) : Type 0 where
  pub spanned : spans low high ≡ true
  pub same_low : i.low ≡ low
  pub same_high : i.high ≡ high

ok_by_test : (i : Interval) (b : Bool) (w : Row) (x : MakingFault) → ◌≡◌ {A = Result Row MakingFault} (Ok (row_of i)) (cond b (Ok w) (Err x)) → (b ≡ true) × (row_of i ≡ w)
ok_by_test i true w x e = (refl, cc)
ok_by_test i false w x e = let z : ◌≡◌ {A = ℕ} 0 1 = cc in absurd (omega arith)

pub made_ok : (low high : ℤ) (i : Interval) → row_if_made (Ok i) ≡ made low high → Made low high i
made_ok low high i e =
    let k = ok_by_test i (spans low high) (row low high) BadValue e in
    record { spanned = k.0; same_low = ap (λ r. r.low) k.1; same_high = ap (λ r. r.high) k.1 }
