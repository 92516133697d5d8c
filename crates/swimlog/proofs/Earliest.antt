-- The earliest bad record: looking at the records one after the other finds it. Assumes nothing.
use Rattle.std.proofs.Common.{◌≡◌, ℕ, zero, suc, ◌+◌, ◌-◌, ◌<◌, List, Some, None, Option, refl, ap, ◌∙◌, subst, arith, below_more}
use Rattle.std.specs.Option.{option_or}
use Rattle.swimlog.specs.Logs.{record_fault, earliest_fault}
use Rattle.swimlog.specs.declared.fault.LogFault.{LogFault}

neither : {X : Type 0} (o p : Option X) → option_or o p ≡ None → (o ≡ None) × (p ≡ None)
neither None p e = (refl, e)
neither (Some x) p e = let z : ◌≡◌ {A = ℕ} 0 1 = cc in absurd (omega arith)

module _ (bytes : List ℕ) (gates records : ℕ) where
  at_same : (m n : ℕ) (o : Option LogFault) → m ≡ n → earliest_fault bytes gates records m ≡ o → earliest_fault bytes gates records n ≡ o
  at_same m n o same e = subst (λ k. earliest_fault bytes gates records k ≡ o) same e

  -- once found, it stays the earliest, however many more are looked at
  stays : (i more : ℕ) (e : LogFault) → earliest_fault bytes gates records i ≡ Some e → earliest_fault bytes gates records (more + i) ≡ Some e
  stays i zero e found = at_same i (zero + i) (Some e) (omega arith) found
  stays i (suc more) e found =
      at_same (suc (more + i)) (suc more + i) (Some e) (omega arith)
      (ap (λ o. option_or o (record_fault bytes gates records (more + i))) (stays i more e found))

  pub earliest_found : (i count : ℕ) (e : LogFault) → i < count → earliest_fault bytes gates records i ≡ None → record_fault bytes gates records i ≡ Some e → earliest_fault bytes gates records count ≡ Some e
  earliest_found i count e below none here =
      at_same (count - suc i + suc i) count (Some e) (omega arith)
      (stays (suc i) (count - suc i) e (ap (λ o. option_or o (record_fault bytes gates records i)) none ∙ here))

  pub none_earlier : (count i : ℕ) → earliest_fault bytes gates records count ≡ None → i < count → record_fault bytes gates records i ≡ None
  none_earlier zero i none below = absurd (omega arith)
  none_earlier (suc count) i none below =
      let k = neither (earliest_fault bytes gates records count) (record_fault bytes gates records count) none in
      below_more (λ n. record_fault bytes gates records n ≡ None) count (λ n less. none_earlier count n k.0 less) k.1 i (omega arith)
