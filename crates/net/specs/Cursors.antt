-- The loop in which records join the queue: a cursor goes along the chain of each cell that became narrower, and the least is the next. Assumes nothing.
use Rattle.std.specs.Prelude.{◌≡◌, ℕ, zero, suc, ◌+◌, ◌-◌, ◌<◌, ◌≤◌, min, Bool, true, false, cond, not, ◌&&◌, List, [], ◌∷◌, length, drop, Some, None, Option, ◌==◌, slice_index_or, refl}
use Rattle.std.proofs.Common.{sym, ap, subst, ◌∙◌, ⊎_elim, add-zero, arith}
use Rattle.std.proofs.Math.Nat.{suc-le-suc_iff}
use Rattle.std.proofs.lemmas.List.{get_or-drop, drop-drop, at_drop_more, at_drop_all}
use Rattle.std.proofs.lemmas.Bool.{cases_Bool, cases_lt, cases_eq, both_ways, false≢true, cond-true, cond-false, eq-eqb, eqb-true, ne_eqb, or_parts, or_from, or_left, or_right, or_cases, and_left}
use Rattle.net.specs.Nets.{some_cell, among, waits, joining}
use Rattle.net.specs.Chains.{after, least_after, cursor, counted}
use Rattle.net.specs.Links.{cell_of}
use Rattle.net.specs.Afters.{after_length, after_from, after_skips, after_finds, after_same}

-- a record none of whose cells passes a test, and one that has such a cell
module _ (test : ℕ → Bool) where
  pub none_passes : (cs : List ℕ) → ((c : ℕ) → test c ≡ true → among c cs ≡ false) → some_cell test cs ≡ false
  none_passes [] h = refl
  none_passes (c ∷ cs) h =
      let here : test c ≡ false = ⊎_elim (λ n. absurd (both_ways (among c (c ∷ cs)) (h c n) (or_left (c == c) (among c cs) (eq-eqb c c refl)))) (λ n. n) (cases_Bool (test c)) in
      or_from (test c) (some_cell test cs) here (none_passes cs (λ d n. (or_parts (d == c) (among d cs) (h d n)).1))

  pub one_passes : (cs : List ℕ) (c : ℕ) → among c cs ≡ true → test c ≡ true → some_cell test cs ≡ true
  one_passes [] c m n = absurd (false≢true m)
  one_passes (d ∷ cs) c m n =
      ⊎_elim
      (λ e. or_left (test d) (some_cell test cs) (subst (λ x. test x ≡ true) (eqb-true c d e) n))
      (λ k. or_right (test d) (some_cell test cs) (one_passes cs c k n))
      (or_cases (c == d) (among c cs) m)

-- the same test of every cell makes the same records join
some_alike : (test other : ℕ → Bool) → ((c : ℕ) → test c ≡ other c) → (cs : List ℕ) → some_cell test cs ≡ some_cell other cs
some_alike test other same [] = refl
some_alike test other same (c ∷ cs) = cc (same c, some_alike test other same cs)

pub joining_alike : (test other : ℕ → Bool) → ((c : ℕ) → test c ≡ other c) → (css : List (List ℕ)) (i : ℕ) (q : List ℕ) → joining css i q test ≡ joining css i q other
joining_alike test other same [] i q = refl
joining_alike test other same (cs ∷ css) i q = cc (some_alike test other same cs, joining_alike test other same css (i + 1) q)

joining_skips : (css : List (List ℕ)) (n i : ℕ) (q : List ℕ) (test : ℕ → Bool) → ((k : ℕ) → k < n → some_cell test (slice_index_or css k []) ≡ false) → joining css i q test ≡ joining (drop n css) (i + n) q test
joining_skips css zero i q test h = ap (λ m. joining css m q test) (sym (add-zero i))
joining_skips [] (suc n) i q test h = refl
joining_skips (cs ∷ css) (suc n) i q test h =
    let e : i + 1 + n ≡ i + suc n = omega arith in
    cond-false (some_cell test cs && not (waits i q)) _ _ (and_left _ _ (h 0 (omega arith)))
    ∙ joining_skips css n (i + 1) q test (λ k l. h (suc k) (suc-le-suc_iff.1 l))
    ∙ ap (λ m. joining (drop n css) m q test) e

module _ (css : List (List ℕ)) (q : List ℕ) (test : ℕ → Bool) where
  joining_between : (i j : ℕ) → i ≤ j → ((k : ℕ) → i ≤ k → k < j → some_cell test (slice_index_or css k []) ≡ false) → joining (drop i css) i q test ≡ joining (drop j css) j q test
  joining_between i j h quiet =
      let e : i + (j - i) ≡ j = omega arith in
      joining_skips (drop i css) (j - i) i q test (λ k l. ap (some_cell test) (get_or-drop i css k []) ∙ quiet (i + k) (omega arith) (omega arith))
      ∙ ap (λ l. joining l (i + (j - i)) q test) (drop-drop (j - i) i css)
      ∙ ap (λ m. joining (drop m css) m q test) e

  -- records before the next on every chain of a cell that passes are passed over
  joining_skip : (i j : ℕ) → i ≤ j → ((c : ℕ) → test c ≡ true → j ≤ after css c i) → joining (drop i css) i q test ≡ joining (drop j css) j q test
  joining_skip i j h past =
      joining_between i j h (λ k from l. none_passes test (slice_index_or css k []) (λ c n. after_skips css c i k from (omega (arith, past c n))))

-- the cursor of one cell
module _ (css : List (List ℕ)) where
  pub cursor_length : (o : Option ℕ) (i : ℕ) → cursor css o i ≤ length css
  cursor_length None i = omega arith
  cursor_length (Some c) i = after_length css c i

  -- it is the same from each position up to it
  pub cursor_same : (o : Option ℕ) (i j : ℕ) → i ≤ j → j ≤ cursor css o i → cursor css o j ≡ cursor css o i
  cursor_same None i j h l = refl
  cursor_same (Some c) i j h l = after_same css c i j h l

  -- before the end it stands on a record that mentions its cell
  pub cursor_finds : (o : Option ℕ) (i : ℕ) → cursor css o i < length css → among (cell_of o) (slice_index_or css (cursor css o i) []) ≡ true
  cursor_finds None i l = absurd (omega arith)
  cursor_finds (Some c) i l = after_finds css c i l

  -- past a position it moves on along its chain if it stands there, and else stays
  pub cursor_next : (o : Option ℕ) (i j : ℕ) → i ≤ j → j ≤ cursor css o i → j < length css → cursor css o (j + 1) ≡ cond (cursor css o i == j) (after css (cell_of o) (j + 1)) (cursor css o i)
  cursor_next None i j h l within = sym (cond-false _ _ _ (ne_eqb (length css) j (λ e. omega arith)))
  cursor_next (Some c) i j h l within =
      ⊎_elim
      (λ e. sym (cond-true _ _ _ (eq-eqb _ _ e)))
      (λ ne. after_same css c i (j + 1) (omega arith) (omega arith) ∙ sym (cond-false _ _ _ (ne_eqb _ _ ne)))
      (cases_eq (after css c i) j)

-- where the first of the chains of some cells stands
module _ (css : List (List ℕ)) where
  pub least_length : (cs : List ℕ) (i : ℕ) → least_after css cs i ≤ length css
  least_length [] i = omega arith
  least_length (c ∷ cs) i = omega (arith, least_length cs i)

  pub least_from : (cs : List ℕ) (i : ℕ) → i ≤ length css → i ≤ least_after css cs i
  least_from [] i h = h
  least_from (c ∷ cs) i h = omega (arith, after_from css c i h, least_from cs i h)

  least_least : (cs : List ℕ) (c i : ℕ) → among c cs ≡ true → least_after css cs i ≤ after css c i
  least_least [] c i m = absurd (false≢true m)
  least_least (d ∷ cs) c i m =
      ⊎_elim
      (λ e. let same = ap (λ x. after css x i) (eqb-true c d e) in omega arith)
      (λ k. let below = least_least cs c i k in omega arith)
      (or_cases (c == d) (among c cs) m)

  least_finds : (test : ℕ → Bool) (cs : List ℕ) (i : ℕ) → ((c : ℕ) → among c cs ≡ true → test c ≡ true) → least_after css cs i < length css → some_cell test (slice_index_or css (least_after css cs i) []) ≡ true
  least_finds test [] i passes l = absurd (omega arith)
  least_finds test (c ∷ cs) i passes l =
      let x = after css c i in
      let y = least_after css cs i in
      let here = passes c (or_left (c == c) (among c cs) (eq-eqb c c refl)) in
      ⊎_elim
      (λ h. let e : min x y ≡ x = omega arith in ap (λ k. some_cell test (slice_index_or css k [])) e ∙ one_passes test (slice_index_or css x []) c (after_finds css c i (omega arith)) here)
      (λ h. let e : min x y ≡ y = omega arith in ap (λ k. some_cell test (slice_index_or css k [])) e ∙ least_finds test cs i (λ d m. passes d (or_right (d == c) (among d cs) m)) (omega arith))
      (cases_lt x y)

  -- it is the least of the cursors
  pub least_counted : (o : Option ℕ) (os : List (Option ℕ)) (i : ℕ) → least_after css (counted (o ∷ os)) i ≡ min (cursor css o i) (least_after css (counted os) i)
  least_counted None os i = omega (arith, least_length (counted os) i)
  least_counted (Some c) os i = refl

swap : {X : Type 0} (b w : Bool) (x y : X) → b ≡ true → cond (b && not w) x y ≡ cond w y x
swap b true x y e = cc
swap b false x y e = cc

-- One turn of the loop: the least cursor is the next position that joins, unless it waits.
module _ (css : List (List ℕ)) (cs q : List ℕ) (i : ℕ) (within : i ≤ length css) where
  pub joining_next : joining (drop i css) i q (λ c. among c cs) ≡ joining (drop (least_after css cs i) css) (least_after css cs i) q (λ c. among c cs)
  joining_next = joining_skip css q (λ c. among c cs) i (least_after css cs i) (least_from css cs i within) (λ c m. least_least css cs c i m)

  pub joining_turn : (j : ℕ) → j ≡ least_after css cs i → j < length css → joining (drop i css) i q (λ c. among c cs) ≡ cond (waits j q) (joining (drop (j + 1) css) (j + 1) q (λ c. among c cs)) (j ∷ joining (drop (j + 1) css) (j + 1) q (λ c. among c cs))
  joining_turn j e l =
      let test : ℕ → Bool = λ c. among c cs in
      let found : some_cell test (slice_index_or css j []) ≡ true = subst (λ k. some_cell test (slice_index_or css k []) ≡ true) (sym e) (least_finds css test cs i (λ c m. m) (omega arith)) in
      let later = joining (drop (j + 1) css) (j + 1) q test in
      joining_next
      ∙ ap (λ k. joining (drop k css) k q test) (sym e)
      ∙ at_drop_more (λ l. joining l j q test) css j [] l
      ∙ swap (some_cell test (slice_index_or css j [])) (waits j q) (j ∷ later) later found

  pub joining_end : length css ≤ least_after css cs i → joining (drop i css) i q (λ c. among c cs) ≡ []
  joining_end past = joining_next ∙ at_drop_all (λ l. joining l (least_after css cs i) q (λ c. among c cs)) css (least_after css cs i) past
