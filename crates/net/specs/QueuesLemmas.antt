-- Who joins the queue of a net, and where the positions in it lie. Assumes nothing.
use Rattle.std.specs.Prelude.{◌≡◌, ℕ, zero, suc, ◌+◌, ◌<◌, ◌≤◌, Bool, true, false, not, ◌&&◌, List, [], ◌∷◌, ◌++◌, length, ℤ, refl}
use Rattle.std.proofs.Common.{◌∙◌, arith}
use Rattle.std.proofs.ByRecursion.{All-append}
use Rattle.std.proofs.lemmas.List.{length-map}
use Rattle.std.proofs.lemmas.Int.{ints}
use Rattle.std.proofs.lemmas.Bool.{and_left, cond-false, cond_both}
use Rattle.tube.specs.Tubes.{cell}
use Rattle.tube.specs.declared.row.Row.{Row}
use Rattle.contractor.specs.Repetitions.{equal, same_row}
use Rattle.net.specs.Nets.{Part, mentions, narrower, some_cell, waits, joining, positions}
use Rattle.net.specs.Queues.{Below}

equal_same : (a : ℤ) → equal a a ≡ true
equal_same a = grind (arith, ints)

pub same_row_same : (r : Row) → same_row r r ≡ true
same_row_same r = cc (equal_same r.low, equal_same r.high)

none_narrowed : (cs : List ℕ) (t : List Row) → some_cell (narrower t t) cs ≡ false
none_narrowed [] t = refl
none_narrowed (c ∷ cs) t = cc (same_row_same (cell t c), none_narrowed cs t)

-- where no cell became narrower, none joins
pub none_joining : (css : List (List ℕ)) (i : ℕ) (q : List ℕ) (t : List Row) → joining css i q (narrower t t) ≡ []
none_joining [] i q t = refl
none_joining (cs ∷ css) i q t =
    cond-false (some_cell (narrower t t) cs && not (waits i q)) _ _ (and_left _ _ (none_narrowed cs t)) ∙ none_joining css (i + 1) q t

pub joining_below : (css : List (List ℕ)) (i : ℕ) (q : List ℕ) (test : ℕ → Bool) (n : ℕ) → i + length css ≤ n → Below n (joining css i q test)
joining_below [] i q test n h = tt
joining_below (cs ∷ css) i q test n h =
    let later = joining_below css (i + 1) q test n (omega arith) in
    cond_both (some_cell test cs && not (waits i q)) (i ∷ joining css (i + 1) q test) (joining css (i + 1) q test) (Below n) (λ _. (omega arith, later)) (λ _. later)

pub positions_below : (i m n : ℕ) → i + m ≤ n → Below n (positions i m)
positions_below i zero n h = tt
positions_below i (suc m) n h = (omega arith, positions_below (i + 1) m n (omega arith))

-- the queue after a use has positions of records only
pub queue_below : (ks : List Part) (q : List ℕ) (test : ℕ → Bool) → Below (length ks) q → Below (length ks) (q ++ joining (mentions ks) 0 q test)
queue_below ks q test h =
    let m = length-map ks (λ k. k.cells) in
    All-append (λ i. i < length ks) q _ h (joining_below (mentions ks) 0 q test (length ks) (omega arith))
