-- The first record from a position on that mentions a cell. Assumes nothing.
use Rattle.std.specs.Prelude.{◌≡◌, ℕ, zero, suc, ◌+◌, ◌<◌, ◌≤◌, Bool, true, false, cond, List, [], ◌∷◌, ◌++◌, length, nat_lt, slice_index_or, refl}
use Rattle.std.proofs.Common.{sym, ap, ◌∙◌, ⊎_elim, not-suc-le-zero, le_of_suc-le-suc, arith}
use Rattle.std.proofs.Math.Nat.{suc-le-suc_iff}
use Rattle.std.proofs.lemmas.Bool.{cases_lt, both_ways, cond-true, cond-false, cond_both, lt-ltb, le-ltb}
use Rattle.net.specs.Nets.{among}
use Rattle.net.specs.Chains.{after}

-- the first record from a position on that mentions the cell
pub after_length : (css : List (List ℕ)) (c from : ℕ) → after css c from ≤ length css
after_length [] c from = omega arith
after_length (cs ∷ css) c zero = cond_both (among c cs) 0 (suc (after css c 0)) (λ n. n ≤ suc (length css)) (λ _. omega arith) (λ _. suc-le-suc_iff.1 (after_length css c 0))
after_length (cs ∷ css) c (suc from) = suc-le-suc_iff.1 (after_length css c from)

pub after_from : (css : List (List ℕ)) (c from : ℕ) → from ≤ length css → from ≤ after css c from
after_from [] c from h = h
after_from (cs ∷ css) c zero h = omega arith
after_from (cs ∷ css) c (suc from) h = suc-le-suc_iff.1 (after_from css c from (le_of_suc-le-suc h))

-- the records before it do not mention the cell
pub after_skips : (css : List (List ℕ)) (c from i : ℕ) → from ≤ i → i < after css c from → among c (slice_index_or css i []) ≡ false
after_skips [] c from i h l = refl
after_skips (cs ∷ css) c zero zero h l =
    cond_both (among c cs) 0 (suc (after css c 0)) (λ n. 0 < n → among c cs ≡ false) (λ _ k. absurd (not-suc-le-zero k)) (λ e _. e) l
after_skips (cs ∷ css) c zero (suc i) h l =
    cond_both (among c cs) 0 (suc (after css c 0)) (λ n. suc i < n → among c (slice_index_or css i []) ≡ false) (λ _ k. absurd (not-suc-le-zero k)) (λ _ k. after_skips css c 0 i (omega arith) (le_of_suc-le-suc k)) l
after_skips (cs ∷ css) c (suc from) zero h l = absurd (not-suc-le-zero h)
after_skips (cs ∷ css) c (suc from) (suc i) h l = after_skips css c from i (le_of_suc-le-suc h) (le_of_suc-le-suc l)

-- and it does
pub after_finds : (css : List (List ℕ)) (c from : ℕ) → after css c from < length css → among c (slice_index_or css (after css c from) []) ≡ true
after_finds [] c from l = absurd (not-suc-le-zero l)
after_finds (cs ∷ css) c zero l =
    cond_both (among c cs) 0 (suc (after css c 0)) (λ n. n < suc (length css) → among c (slice_index_or (cs ∷ css) n []) ≡ true) (λ e _. e) (λ _ k. after_finds css c 0 (le_of_suc-le-suc k)) l
after_finds (cs ∷ css) c (suc from) l = after_finds css c from (le_of_suc-le-suc l)

-- so it is the least
pub after_least : (css : List (List ℕ)) (c from i : ℕ) → from ≤ i → among c (slice_index_or css i []) ≡ true → after css c from ≤ i
after_least css c from i h m =
    ⊎_elim (λ l. absurd (both_ways _ (after_skips css c from i h l) m)) (λ l. l) (cases_lt i (after css c from))

-- it is the same from each position up to it
pub after_same : (css : List (List ℕ)) (c i j : ℕ) → i ≤ j → j ≤ after css c i → after css c j ≡ after css c i
after_same [] c i j h l = refl
after_same (cs ∷ css) c zero zero h l = refl
after_same (cs ∷ css) c zero (suc j) h l =
    cond_both (among c cs) 0 (suc (after css c 0)) (λ n. suc j ≤ n → suc (after css c j) ≡ n) (λ _ k. absurd (not-suc-le-zero k)) (λ _ k. ap suc (after_same css c 0 j (omega arith) (le_of_suc-le-suc k))) l
after_same (cs ∷ css) c (suc i) zero h l = absurd (not-suc-le-zero h)
after_same (cs ∷ css) c (suc i) (suc j) h l = ap suc (after_same css c i j (le_of_suc-le-suc h) (le_of_suc-le-suc l))

-- one record more, at the end: what was found stays found
pub after_push_found : (css : List (List ℕ)) (cs : List ℕ) (c from : ℕ) → after css c from < length css → after (css ++ cs ∷ []) c from ≡ after css c from
after_push_found [] cs c from l = absurd (not-suc-le-zero l)
after_push_found (x ∷ css) cs c zero l =
    cond_both (among c x) 0 (suc (after css c 0)) (λ n. n < suc (length css) → cond (among c x) 0 (suc (after (css ++ cs ∷ []) c 0)) ≡ n)
    (λ e _. cond-true (among c x) _ _ e)
    (λ e k. cond-false (among c x) _ _ e ∙ ap suc (after_push_found css cs c 0 (le_of_suc-le-suc k)))
    l
after_push_found (x ∷ css) cs c (suc from) l = ap suc (after_push_found css cs c from (le_of_suc-le-suc l))

suc_cond : (b : Bool) (n : ℕ) → suc (cond b n (n + 1)) ≡ cond b (suc n) (suc n + 1)
suc_cond true n = refl
suc_cond false n = omega arith

-- and where none was found, the new one is, if it mentions the cell
pub after_push_none : (css : List (List ℕ)) (cs : List ℕ) (c from : ℕ) → from ≤ length css → length css ≤ after css c from → after (css ++ cs ∷ []) c from ≡ cond (among c cs) (length css) (length css + 1)
after_push_none [] cs c zero h l = refl
after_push_none [] cs c (suc from) h l = absurd (not-suc-le-zero h)
after_push_none (x ∷ css) cs c zero h l =
    cond_both (among c x) 0 (suc (after css c 0)) (λ n. suc (length css) ≤ n → cond (among c x) 0 (suc (after (css ++ cs ∷ []) c 0)) ≡ cond (among c cs) (suc (length css)) (suc (length css) + 1))
    (λ _ k. absurd (not-suc-le-zero k))
    (λ e k. cond-false (among c x) _ _ e ∙ ap suc (after_push_none css cs c 0 (omega arith) (le_of_suc-le-suc k)) ∙ suc_cond (among c cs) (length css))
    l
after_push_none (x ∷ css) cs c (suc from) h l = ap suc (after_push_none css cs c from (le_of_suc-le-suc h) (le_of_suc-le-suc l)) ∙ suc_cond (among c cs) (length css)

pub after_push : (css : List (List ℕ)) (cs : List ℕ) (c from : ℕ) → from ≤ length css → after (css ++ cs ∷ []) c from ≡ cond (nat_lt (after css c from) (length css)) (after css c from) (cond (among c cs) (length css) (length css + 1))
after_push css cs c from h =
    ⊎_elim
    (λ l. after_push_found css cs c from l ∙ sym (cond-true _ _ _ (lt-ltb _ _ l)))
    (λ l. after_push_none css cs c from h l ∙ sym (cond-false _ _ _ (le-ltb _ _ l)))
    (cases_lt (after css c from) (length css))
