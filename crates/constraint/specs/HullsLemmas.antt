-- The hull of the numbers of a row that pass a test: what it has, and that nothing else has it. Assumes nothing.
use Rattle.std.specs.Prelude.{◌≡◌, ℕ, zero, suc, ◌+◌, ◌<◌, ◌≤◌, Bool, true, false, cond, ℤ, pos, ◌-ℤ◌, ◌≤ℤ◌, Some, None, Option, unsigned_abs}
use Rattle.std.proofs.Math.Path.{refl}
use Rattle.std.proofs.Common.{sym, ap, subst, ◌∙◌, ⊎_elim, add-zero, lt_irrefl, lt_of_le_of_lt, arith}
use Rattle.std.specs.Int.Signed.{pos-nat_abs, yes_non_neg}
use Rattle.std.proofs.lemmas.Int.{ints}
use Rattle.std.proofs.lemmas.Bool.{both_ways, cases_eq, cases_lt}
use Rattle.tube.specs.Tubes.{row, In}
use Rattle.tube.specs.declared.row.Row.{Row}
use Rattle.tube.proofs.Orders.{≤ℤ_antisym, ≤ℤ_trans}
use Rattle.constraint.specs.Hulls.{first, up_from, down_from, count, between, hull_of}

module _ (P : ℤ → Bool) where
  pub record Hull (r s : Row) : Type 0 where
    pub low_in : In r s.low
    pub high_in : In r s.high
    pub low_passes : P s.low ≡ true
    pub high_passes : P s.high ≡ true
    pub holds : (v : ℤ) → In r v → P v ≡ true → In s v

  -- the least interval that holds the numbers of a row that pass, or that none passes
  abbrev pub HullOf : Row → Option Row → Type 0
  HullOf r None = (v : ℤ) → In r v → P v ≡ false
  HullOf r (Some s) = Hull r s

  pub hull_unique : (r : Row) (o o' : Option Row) → HullOf r o → HullOf r o' → o ≡ o'
  hull_unique r None None h k = refl
  hull_unique r None (Some s) h k = absurd (both_ways _ (h s.low k.low_in) k.low_passes)
  hull_unique r (Some s) None h k = absurd (both_ways _ (k s.low h.low_in) h.low_passes)
  hull_unique r (Some s) (Some s') h k =
      let a = k.holds s.low h.low_in h.low_passes in
      let b = k.holds s.high h.high_in h.high_passes in
      let c = h.holds s'.low k.low_in k.low_passes in
      let d = h.holds s'.high k.high_in k.high_passes in
      ap Some (ap (λ x. row x s.high) (≤ℤ_antisym s.low s'.low c.above a.above) ∙ ap (row s'.low) (≤ℤ_antisym s.high s'.high b.below d.below))

  -- ---- what looking through the numbers finds

  module _ (at : ℕ → ℤ) where
    pub record First (k n : ℕ) (f : ℤ) : Type 0 where
      pub index : ℕ
      pub from : k ≤ index
      pub within : index < k + n
      pub is : f ≡ at index
      pub passes : P (at index) ≡ true
      pub before : (i : ℕ) → k ≤ i → i < index → P (at i) ≡ false

    abbrev FirstOf : (k n : ℕ) → Option ℤ → Type 0
    FirstOf k n None = (i : ℕ) → k ≤ i → i < k + n → P (at i) ≡ false
    FirstOf k n (Some f) = First k n f

    here_or_on : (k i : ℕ) → k ≤ i → P (at k) ≡ false → (k + 1 ≤ i → P (at i) ≡ false) → P (at i) ≡ false
    here_or_on k i h here on = ⊎_elim (λ e. subst (λ j. P (at j) ≡ false) e here) (λ n. on (omega arith)) (cases_eq k i)

    first_more : (k n : ℕ) (o : Option ℤ) (b : Bool) → P (at k) ≡ b → FirstOf (k + 1) n o → FirstOf k (suc n) (cond b (Some (at k)) o)
    first_more k n o true e h = record { index = k; from = omega arith; within = omega arith; is = refl; passes = e; before = λ i l u. absurd (lt_irrefl k (lt_of_le_of_lt l u)) }
    first_more k n None false e h = λ i l u. here_or_on k i l e (λ m. h i m (omega arith))
    first_more k n (Some f) false e h =
        let a = h.from in
        let b = h.within in
        record {
          index = h.index;
          from = omega arith;
          within = omega arith;
          is = h.is;
          passes = h.passes;
          before = λ i l u. here_or_on k i l e (λ m. h.before i m u);
        }

    first_is : (k n : ℕ) → FirstOf k n (first P at k n)
    unfolding first
    first_is k zero = λ i l u. absurd (lt_irrefl k (lt_of_le_of_lt l (subst (λ m. i < m) (add-zero k) u)))
    first_is k (suc n) = first_more k n (first P at (k + 1) n) (P (at k)) refl (first_is (k + 1) n)

  -- ---- both ends together

  -- a number of a row, by its place from either end
  pub record Placed (r : Row) (v : ℤ) : Type 0 where
    pub up : ℕ
    pub down : ℕ
    pub up_within : up < count r
    pub down_within : down < count r
    pub up_is : up_from r up ≡ v
    pub down_is : down_from r down ≡ v

  distance : (a b : ℤ) → a ≤ℤ b → pos (unsigned_abs (b -ℤ a)) ≡ b -ℤ a
  distance a b h = pos-nat_abs (b -ℤ a) (yes_non_neg {z = b -ℤ a} (omega (arith, ints)))

  placed : (r : Row) (v : ℤ) → In r v → Placed r v
  placed r v i =
      let u = distance r.low v i.above in
      let d = distance v r.high i.below in
      let n = distance r.low r.high (≤ℤ_trans _ _ _ i.above i.below) in
      record {
        up = unsigned_abs (v -ℤ r.low);
        down = unsigned_abs (r.high -ℤ v);
        up_within = omega (arith, ints);
        down_within = omega (arith, ints);
        up_is = omega (arith, ints);
        down_is = omega (arith, ints);
      }

  by_ends : (r : Row) → r.low ≤ℤ r.high → (l h : Option ℤ) → FirstOf (up_from r) 0 (count r) l → FirstOf (down_from r) 0 (count r) h → HullOf r (between l h)
  by_ends r o None h f g = λ v i. let q = placed r v i in subst (λ w. P w ≡ false) q.up_is (f q.up (omega arith) (omega (arith, q.up_within)))
  by_ends r o (Some l) None f g = λ v i. let q = placed r v i in subst (λ w. P w ≡ false) q.down_is (g q.down (omega arith) (omega (arith, q.down_within)))
  by_ends r o (Some l) (Some h) f g =
      let n = distance r.low r.high o in
      let a = f.is in
      let b = f.within in
      let c = g.is in
      let d = g.within in
      record {
        low_in = record { above = omega (arith, ints); below = omega (arith, ints) };
        high_in = record { above = omega (arith, ints); below = omega (arith, ints) };
        low_passes = subst (λ w. P w ≡ true) (sym a) f.passes;
        high_passes = subst (λ w. P w ≡ true) (sym c) g.passes;
        holds = λ v i p.
            let q = placed r v i in
            let e = q.up_is in
            let k = q.down_is in
            let up : f.index ≤ q.up = ⊎_elim (λ lt. absurd (both_ways _ (subst (λ w. P w ≡ false) e (f.before q.up (omega arith) lt)) p)) (λ ge. ge) (cases_lt q.up f.index) in
            let down : g.index ≤ q.down = ⊎_elim (λ lt. absurd (both_ways _ (subst (λ w. P w ≡ false) k (g.before q.down (omega arith) lt)) p)) (λ ge. ge) (cases_lt q.down g.index) in
            record { above = omega (arith, ints); below = omega (arith, ints) };
      }

  pub hull_of_is : (r : Row) → r.low ≤ℤ r.high → HullOf r (hull_of P r)
  unfolding hull_of
  hull_of_is r o = by_ends r o (first P (up_from r) 0 (count r)) (first P (down_from r) 0 (count r)) (first_is (up_from r) 0 (count r)) (first_is (down_from r) 0 (count r))
