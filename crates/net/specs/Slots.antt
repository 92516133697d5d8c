-- The cells that a constraint mentions, in three slots. Assumes nothing.
use Rattle.std.specs.Prelude.{◌≡◌, ℕ, ◌+◌, Bool, true, false, cond, not, ◌&&◌, ◌||◌, ◌≢◌, List, [], ◌∷◌, map, length, get_or, ◌==◌, nat_eq, slice_index_or, refl, ◌<◌, Option}
use Rattle.std.proofs.Common.{sym, ap, ap₂, ◌∙◌, arith, subst}
use Rattle.std.specs.List.{AllByRecursion}
use Rattle.std.proofs.lemmas.Bool.{eqb-true, eqb-false, or_parts}
use Rattle.tube.specs.Tubes.{most_cells, cell, nowhere}
use Rattle.tube.specs.declared.row.Row.{Row}
use Rattle.contractor.specs.Contractors.{Accepted}
use Rattle.contractor.specs.Repetitions.{same_row}
use Rattle.contractor.specs.Accepting.{accepted_facts}
use Rattle.constraint.specs.Kinds.{constraint_value}
use Rattle.constraint.specs.Mentions.{constraint_cells, cell_slots}
use Rattle.constraint.specs.declared.constraint.Constraint.{Constraint}
use Rattle.constraint.specs.declared.constraint.Constraint.TheVariants.{Bound as of_bound, Step as of_step, Range as of_range}
use Rattle.constraint.proofs.Confined.{cells_placed, constraint_confined}
use Rattle.net.specs.Nets.{narrower, some_cell, among, joining, mentions, if_narrower}
use Rattle.net.specs.Chains.{counted}
use Rattle.net.specs.Links.{slots, slot, Three, InTable}
use Rattle.net.specs.Records.{parts}
use Rattle.net.specs.QueuesLemmas.{same_row_same}
use Rattle.std.specs.Bool.{then_some}

-- the slots are cells of every tube that is long enough
pub three_slots : (k : Constraint) → Three most_cells (cell_slots k)
three_slots (of_bound k) = let p = cells_placed (of_bound k) in record { are = refl; first = omega arith; second = omega arith; third = omega arith }
three_slots (of_step k) = let p = cells_placed (of_step k) in record { are = refl; first = omega arith; second = omega arith; third = omega arith }
three_slots (of_range k) = let p = cells_placed (of_range k) in record { are = refl; first = omega arith; second = omega arith; third = omega arith }

pub three_needed : (k : Constraint) → Three (constraint_value k).need (cell_slots k)
three_needed (of_bound k) = record { are = refl; first = omega arith; second = omega arith; third = omega arith }
three_needed (of_step k) = record { are = refl; first = omega arith; second = omega arith; third = omega arith }
three_needed (of_range k) = record { are = refl; first = omega arith; second = omega arith; third = omega arith }

pub three_within : (k : Constraint) (t : List Row) → Accepted (constraint_value k) t → Three (length t) (cell_slots k)
three_within k t a =
    let need = (accepted_facts (constraint_value k) t a).need in
    let three = three_needed k in
    record { are = three.are; first = omega arith; second = omega arith; third = omega arith }

or_again : (x y : Bool) → (x || (x || y)) ≡ (x || y)
or_again true y = refl
or_again false y = refl

-- they mention what the constraint mentions
some_slot : (test : ℕ → Bool) (k : Constraint) → some_cell test (cell_slots k) ≡ some_cell test (constraint_cells k)
some_slot test (of_bound k) = or_again (test k.cell) _ ∙ or_again (test k.cell) false
some_slot test (of_step k) = refl
some_slot test (of_range k) = ap (λ b. test k.x || b) (or_again (test k.y) false)

-- which is to say that the test for one cell is the same
among_some : (c : ℕ) (cs : List ℕ) → among c cs ≡ some_cell (nat_eq c) cs
among_some c [] = refl
among_some c (d ∷ cs) = ap (λ b. (c == d) || b) (among_some c cs)

pub slots_mention : (k : Constraint) (c : ℕ) → among c (cell_slots k) ≡ among c (constraint_cells k)
slots_mention k c = among_some c (cell_slots k) ∙ some_slot (nat_eq c) k ∙ sym (among_some c (constraint_cells k))

-- so that the same records join
pub joining_slots : (ks : List Constraint) (i : ℕ) (q : List ℕ) (test : ℕ → Bool) → joining (slots ks) i q test ≡ joining (mentions (parts ks)) i q test
joining_slots [] i q test = refl
joining_slots (k ∷ ks) i q test = cc (some_slot test k, joining_slots ks (i + 1) q test)

-- a constraint makes no cell narrower but those that it mentions
others : (c : ℕ) (cs : List ℕ) → among c cs ≡ false → AllByRecursion (λ d. c ≢ d) cs
others c [] m = tt
others c (d ∷ cs) m = let parts = or_parts (c == d) (among c cs) m in (eqb-false c d parts.0, others c cs parts.1)

not_narrower : (k : Constraint) (t : List Row) (c : ℕ) → among c (cell_slots k) ≡ false → narrower t ((constraint_value k).narrowed t).tube c ≡ false
not_narrower k t c m =
    ap (λ r. not (same_row (cell t c) r)) (constraint_confined t c k (others c (constraint_cells k) (sym (slots_mention k c) ∙ m))) ∙ ap not (same_row_same (cell t c))

-- a cell counts where it is one of the cells and passes the test
counted_first : (b : Bool) (c d : ℕ) (os : List (Option ℕ)) → among c (counted (then_some b d ∷ os)) ≡ cond b (c == d || among c (counted os)) (among c (counted os))
counted_first true c d os = refl
counted_first false c d os = refl

counted_test : (b e m n : Bool) → (e ≡ true → n ≡ b) → cond b (e || (m && n)) (m && n) ≡ ((e || m) && n)
counted_test true true m n same = sym (same refl)
counted_test true false m n same = refl
counted_test false true true n same = refl
counted_test false true false n same = sym (same refl)
counted_test false false m n same = refl

among_counted : (test : ℕ → Bool) (c : ℕ) (cs : List ℕ) → among c (counted (map (λ d. then_some (test d) d) cs)) ≡ (among c cs && test c)
among_counted test c [] = refl
among_counted test c (d ∷ cs) =
    counted_first (test d) c d (map (λ e. then_some (test e) e) cs)
    ∙ ap (λ m. cond (test d) (c == d || m) m) (among_counted test c cs)
    ∙ counted_test (test d) (c == d) (among c cs) (test c) (λ e. ap test (eqb-true c d e))

and_self : (m n : Bool) → (m ≡ false → n ≡ false) → (m && n) ≡ n
and_self true n h = refl
and_self false n h = sym (h refl)

-- The cells that are found narrower are those that are.
pub narrower_counted : (k : Constraint) (t : List Row) (c : ℕ) → among c (counted (map (if_narrower t ((constraint_value k).narrowed t).tube) (cell_slots k))) ≡ narrower t ((constraint_value k).narrowed t).tube c
narrower_counted k t c =
    among_counted (narrower t ((constraint_value k).narrowed t).tube) c (cell_slots k)
    ∙ and_self (among c (cell_slots k)) (narrower t ((constraint_value k).narrowed t).tube c) (not_narrower k t c)

-- and they are cells of a table
some_in : (b : Bool) (c : ℕ) → c < most_cells → InTable (then_some b c)
some_in true c l = l
some_in false c l = tt

pub narrower_in : (t u : List Row) (cs : List ℕ) → Three most_cells cs → AllByRecursion InTable (map (if_narrower t u) cs)
narrower_in t u cs three =
    subst (λ ds. AllByRecursion InTable (map (if_narrower t u) ds)) (sym three.are)
    (some_in (narrower t u (slot cs 0)) _ three.first, (some_in (narrower t u (slot cs 1)) _ three.second, (some_in (narrower t u (slot cs 2)) _ three.third, tt)))

-- three rows before and after, compared
pub compared : (t u : List Row) (n : ℕ) (cs : List ℕ) (before after : List Row) (a b c : Bool) → Three n cs → before ≡ map (cell t) cs → after ≡ map (cell u) cs → a ≡ same_row (slice_index_or before 0 nowhere) (slice_index_or after 0 nowhere) → b ≡ same_row (slice_index_or before 1 nowhere) (slice_index_or after 1 nowhere) → c ≡ same_row (slice_index_or before 2 nowhere) (slice_index_or after 2 nowhere) → not a ∷ not b ∷ not c ∷ [] ≡ map (narrower t u) cs
compared t u n cs before after a b c three eb ea first second third =
    let row : (s : ℕ) → List Row → List ℕ → Row = λ s w ds. get_or (map (cell w) ds) s nowhere in
    let x : not a ≡ narrower t u (slot cs 0) = ap not (first ∙ ap₂ same_row (ap (λ r. get_or r 0 nowhere) eb ∙ ap (row 0 t) three.are) (ap (λ r. get_or r 0 nowhere) ea ∙ ap (row 0 u) three.are)) in
    let y : not b ≡ narrower t u (slot cs 1) = ap not (second ∙ ap₂ same_row (ap (λ r. get_or r 1 nowhere) eb ∙ ap (row 1 t) three.are) (ap (λ r. get_or r 1 nowhere) ea ∙ ap (row 1 u) three.are)) in
    let z : not c ≡ narrower t u (slot cs 2) = ap not (third ∙ ap₂ same_row (ap (λ r. get_or r 2 nowhere) eb ∙ ap (row 2 t) three.are) (ap (λ r. get_or r 2 nowhere) ea ∙ ap (row 2 u) three.are)) in
    let all : not a ∷ not b ∷ not c ∷ [] ≡ map (narrower t u) (slot cs 0 ∷ slot cs 1 ∷ slot cs 2 ∷ []) = cc in
    all ∙ ap (map (narrower t u)) (sym three.are)
