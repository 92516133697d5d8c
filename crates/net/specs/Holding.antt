-- The records that a net holds. Assumes nothing.
use Rattle.std.specs.Prelude.{◌≡◌, ℕ, ◌+◌, ◌<◌, ◌≤◌, max, List, length, take, drop, Ok, Err, slice_index_or, slice_set}
use Rattle.std.proofs.Common.{sym, ap, ap₂, ◌∙◌, arith}
use Rattle.std.proofs.lemmas.List.{length-map, length-take-le, take_more_set, at_drop_more, at_drop_all}
use Rattle.std.proofs.lemmas.Bool.{cond-true, cond-false, lt-ltb, le-ltb}
use Rattle.std.proofs.lemmas.Bool.Decides.{nat_tests}
use Rattle.tube.specs.declared.row.Row.{Row}
use Rattle.contractor.specs.Contractors.{Keeps}
use Rattle.contractor.specs.declared.build.BuildRefusal.TheVariants.{NetFull}
use Rattle.constraint.specs.declared.constraint.Constraint.{Constraint}
use Rattle.constraint.specs.Kinds.{constraint_value}
use Rattle.net.specs.Nets.{greatest_need, positions, spun, most_records}
use Rattle.net.specs.Records.{part, parts, records, rounds_of, net_value, push_answer, pushed}
use Rattle.net.specs.declared.net.Net.{Net}
use Rattle.net.specs.Keeping.{net_keeps}
use Rattle.net.specs.Running.{all_recorded}

module _ (table : List Constraint) (count : ℕ) (sized : length table ≡ most_records) (held : count ≤ most_records) where
  pub held_count : length (take count table) ≡ count
  held_count = length-take-le count table (omega arith)

  -- a full net takes no record more
  pub full_answer : count ≡ most_records → Err NetFull ≡ push_answer (take count table)
  full_answer e = sym (cond-false _ _ _ (le-ltb (length (take count table)) most_records (omega (arith, held_count))))

  pub full_same : count ≡ most_records → (k : Constraint) → take count table ≡ pushed (take count table) k
  full_same e k = sym (cond-false _ _ _ (le-ltb (length (take count table)) most_records (omega (arith, held_count))))

  -- another does
  pub push_done : count < most_records → Ok tt ≡ push_answer (take count table)
  push_done l = sym (cond-true _ _ _ (lt-ltb (length (take count table)) most_records (omega (arith, held_count))))

  pub push_last : count < most_records → (k : Constraint) → take (count + 1) (slice_set table count k) ≡ pushed (take count table) k
  push_last l k = take_more_set table count k (omega arith) ∙ sym (cond-true _ _ _ (lt-ltb (length (take count table)) most_records (omega (arith, held_count))))

  pub parts_count : length (parts (take count table)) ≡ count
  parts_count = length-map (take count table) part ∙ held_count

-- a net keeps the meaning of a contractor
pub net_value_keeps : (n : Net) → Keeps (net_value n)
net_value_keeps n =
    let counted = n.rounds.counted in
    let held = n.held in
    net_keeps (parts (records n)) (rounds_of n) (all_recorded (records n)) (omega (arith, parts_count n.table n.count n.sized held)) (grind (arith, nat_tests)) (grind (arith, nat_tests))

-- a run of the records that a net holds
pub run_of : (n : Net) (ks : List Constraint) (allowance : ℕ) (t : List Row) → ks ≡ records n → allowance ≡ (net_value n).ceiling → spun (parts ks) allowance (positions 0 (length ks)) t 0 ≡ (net_value n).narrowed t
run_of n ks allowance t e a =
    ap (λ xs. spun (parts xs) allowance (positions 0 (length xs)) t 0) e
    ∙ ap₂ (λ m c. spun (parts (records n)) m (positions 0 c) t 0) a (sym (length-map (records n) part))

-- the greatest need, as far as it is found
abbrev pub Needed : List Constraint → ℕ → ℕ → Type 0
Needed ks i need = max need (greatest_need (parts (drop i ks))) ≡ greatest_need (parts ks)

pub needed_none : (ks : List Constraint) → Needed ks 0 0
needed_none ks = omega arith

pub needed_more : (ks : List Constraint) (i need need' : ℕ) (k : Constraint) → i < length ks → k ≡ slice_index_or ks i k → Needed ks i need → need' ≡ max (constraint_value k).need need → Needed ks (i + 1) need'
needed_more ks i need need' k l e sofar m =
    let rest = greatest_need (parts (drop (i + 1) ks)) in
    let here : greatest_need (parts (drop i ks)) ≡ max (constraint_value k).need rest =
    at_drop_more (λ xs. greatest_need (parts xs)) ks i k l ∙ ap (λ x. max (constraint_value x).need rest) (sym e) in
    omega arith

pub needed_all : (ks : List Constraint) (i need : ℕ) → length ks ≤ i → Needed ks i need → need ≡ greatest_need (parts ks)
needed_all ks i need past sofar =
    let none : greatest_need (parts (drop i ks)) ≡ 0 = at_drop_all (λ xs. greatest_need (parts xs)) ks i past in
    omega arith
