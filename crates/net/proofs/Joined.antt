-- The queue while records join it, as the invariant of the loop that lets them. Assumes nothing.
use Rattle.std.proofs.Common.{◌≡◌, ℕ, ◌+◌, ◌<◌, ◌≤◌, true, false, eqb, List, [], ◌∷◌, ◌++◌, length, drop, sym, refl, ap, ◌∙◌, append_assoc, arith}
use Rattle.std.proofs.lemmas.Bool.{cond-true, cond-false, cond_both, ne_eqb}
use Rattle.net.specs.Nets.{among, waits, joining}
use Rattle.net.specs.Chains.{least_after}
use Rattle.net.specs.Queues.{joined_by}
use Rattle.net.proofs.Apart.{waits_push}
use Rattle.net.specs.Cursors.{joining_next, joining_turn, least_from, least_length}

-- The queue was q as the joining began, and is s now. Those before position i have joined, those from i on have still to.
pub record Joined (css : List (List ℕ)) (cs q : List ℕ) (i : ℕ) (s : List ℕ) : Type 0 where
  pub within : i ≤ length css
  pub rest : s ++ joining (drop i css) i q (λ c. among c cs) ≡ q ++ joining css 0 q (λ c. among c cs)
  pub waiting : (j : ℕ) → i ≤ j → waits j s ≡ waits j q

pub joined_start : (css : List (List ℕ)) (cs q : List ℕ) → Joined css cs q 0 q
joined_start css cs q = record { within = omega arith; rest = refl; waiting = λ j h. refl }

module _ (css : List (List ℕ)) (cs q : List ℕ) (i : ℕ) (s : List ℕ) (inv : Joined css cs q i s) where
  module _ (j : ℕ) (e : j ≡ least_after css cs i) (l : j < length css) where
    from : i ≤ j
    from = omega (arith, least_from css cs i inv.within)

    -- the record at the least cursor waits already
    joined_waits : waits j s ≡ true → Joined css cs q (j + 1) s
    joined_waits w =
        let turn = joining_turn css cs q i inv.within j e l ∙ cond-true (waits j q) _ _ (sym (inv.waiting j from) ∙ w) in
        record {
          within = omega arith;
          rest = ap (λ r. s ++ r) (sym turn) ∙ inv.rest;
          waiting = λ k h. inv.waiting k (omega (arith, from));
        }

    -- it does not, and joins
    joined_new : waits j s ≡ false → Joined css cs q (j + 1) (s ++ j ∷ [])
    joined_new w =
        let later = joining (drop (j + 1) css) (j + 1) q (λ c. among c cs) in
        let turn = joining_turn css cs q i inv.within j e l ∙ cond-false (waits j q) _ _ (sym (inv.waiting j from) ∙ w) in
        record {
          within = omega arith;
          rest = append_assoc s (j ∷ []) later ∙ ap (λ r. s ++ r) (sym turn) ∙ inv.rest;
          waiting = λ k h. let past : eqb k j ≡ false = ne_eqb k j (λ x. omega arith) in let pushed = waits_push s k j in let before = inv.waiting k (omega (arith, from)) in grind arith;
        }

    pub joined_turn : Joined css cs q (j + 1) (joined_by j s)
    joined_turn = cond_both (waits j s) s (s ++ j ∷ []) (Joined css cs q (j + 1)) joined_waits joined_new

  -- those before the least cursor have nothing to join for
  pub joined_skip : Joined css cs q (least_after css cs i) s
  joined_skip = record {
    within = least_length css cs i;
    rest = ap (λ r. s ++ r) (sym (joining_next css cs q i inv.within)) ∙ inv.rest;
    waiting = λ j h. inv.waiting j (omega (arith, least_from css cs i inv.within));
  }
