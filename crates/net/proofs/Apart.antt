-- Queues in which no position waits twice: they are no longer than the net. Assumes nothing.
use Rattle.std.proofs.Common.{◌≡◌, ℕ, zero, suc, ◌+◌, ◌<◌, ◌≤◌, true, false, cond, ◌||◌, eqb, List, [], ◌∷◌, ◌++◌, length, sym, refl, ap, ◌∙◌, ⊎_elim, not-suc-le-zero, arith}
use Rattle.std.proofs.lemmas.Bool.{cases_Bool, cond_both, eqb-true, eqb-false, ne_eqb, or_parts, or_from, or_left, or_right}
use Rattle.net.specs.Nets.{waits, positions}
use Rattle.net.specs.Queues.{Apart, Below}

-- one more at the end
pub waits_push : (q : List ℕ) (i j : ℕ) → waits i (q ++ j ∷ []) ≡ (waits i q || eqb i j)
waits_push [] i j = grind arith
waits_push (k ∷ q) i j = let later = waits_push q i j in grind arith

pub apart_push : (q : List ℕ) (j : ℕ) → Apart q → waits j q ≡ false → Apart (q ++ j ∷ [])
apart_push [] j a w = (refl, tt)
apart_push (i ∷ q) j a w =
    let parts = or_parts (eqb j i) (waits j q) w in
    let other : eqb i j ≡ false = ne_eqb i j (λ e. eqb-false j i parts.0 (sym e)) in
    (waits_push q i j ∙ or_from (waits i q) (eqb i j) a.0 other, apart_push q j a.1 parts.1)

-- the queue without a position, which waits in it once at most
abbrev without : ℕ → List ℕ → List ℕ
without m [] = []
without m (j ∷ q) = cond (eqb m j) q (j ∷ without m q)

without_length : (m : ℕ) (q : List ℕ) → length q ≤ suc (length (without m q))
without_length m [] = omega arith
without_length m (j ∷ q) = cond_both (eqb m j) q (j ∷ without m q) (λ r. suc (length q) ≤ suc (length r)) (λ _. omega arith) (λ _. omega (arith, without_length m q))

without_waits : (m i : ℕ) (q : List ℕ) → waits i q ≡ false → waits i (without m q) ≡ false
without_waits m i [] w = refl
without_waits m i (j ∷ q) w =
    let parts = or_parts (eqb i j) (waits i q) w in
    cond_both (eqb m j) q (j ∷ without m q) (λ r. waits i r ≡ false) (λ _. parts.1) (λ _. or_from (eqb i j) (waits i (without m q)) parts.0 (without_waits m i q parts.1))

without_apart : (m : ℕ) (q : List ℕ) → Apart q → Apart (without m q)
without_apart m [] a = tt
without_apart m (j ∷ q) a = cond_both (eqb m j) q (j ∷ without m q) Apart (λ _. a.1) (λ _. (without_waits m j q a.0, without_apart m q a.1))

below_less : (m : ℕ) (q : List ℕ) → Below (suc m) q → waits m q ≡ false → Below m q
below_less m [] b w = tt
below_less m (j ∷ q) b w =
    let parts = or_parts (eqb m j) (waits m q) w in
    let other = eqb-false m j parts.0 in
    let here = b.0 in
    (omega arith, below_less m q b.1 parts.1)

without_below : (m : ℕ) (q : List ℕ) → Apart q → Below (suc m) q → Below m (without m q)
without_below m [] a b = tt
without_below m (j ∷ q) a b =
    cond_both (eqb m j) q (j ∷ without m q) (Below m)
    (λ e. below_less m q b.1 (ap (λ i. waits i q) (eqb-true m j e) ∙ a.0))
    (λ e. let other = eqb-false m j e in let here = b.0 in (omega arith, without_below m q a.1 b.1))

pub apart_short : (n : ℕ) (q : List ℕ) → Apart q → Below n q → length q ≤ n
apart_short zero [] a b = omega arith
apart_short zero (j ∷ q) a b = absurd (not-suc-le-zero b.0)
apart_short (suc n) q a b = omega (arith, without_length n q, apart_short n (without n q) (without_apart n q a) (without_below n q a b))

-- a position that does not wait yet has room
pub room : (n : ℕ) (q : List ℕ) (j : ℕ) → Apart q → Below n q → waits j q ≡ false → j < n → length q < n
room n q j a b w l = apart_short n (j ∷ q) (w, a) (l, b)

-- the positions with which a run begins
pub positions_length : (i n : ℕ) → length (positions i n) ≡ n
positions_length i zero = refl
positions_length i (suc n) = ap suc (positions_length (i + 1) n)

pub positions_wait : (i n j : ℕ) → i ≤ j → j < i + n → waits j (positions i n) ≡ true
positions_wait i zero j h l = absurd (omega arith)
positions_wait i (suc n) j h l =
    ⊎_elim
    (λ e. or_left (eqb j i) _ e)
    (λ e. let other = eqb-false j i e in or_right (eqb j i) _ (positions_wait (i + 1) n j (omega arith) (omega arith)))
    (cases_Bool (eqb j i))

-- those before the first do not wait, and those after the last
positions_before : (i n j : ℕ) → j < i → waits j (positions i n) ≡ false
positions_before i zero j l = refl
positions_before i (suc n) j l = or_from (eqb j i) _ (ne_eqb j i (λ e. omega arith)) (positions_before (i + 1) n j (omega arith))

pub positions_past : (i n j : ℕ) → i + n ≤ j → waits j (positions i n) ≡ false
positions_past i zero j l = refl
positions_past i (suc n) j l = or_from (eqb j i) _ (ne_eqb j i (λ e. omega arith)) (positions_past (i + 1) n j (omega arith))

pub positions_apart : (i n : ℕ) → Apart (positions i n)
positions_apart i zero = tt
positions_apart i (suc n) = (positions_before (i + 1) n i (omega arith), positions_apart (i + 1) n)
