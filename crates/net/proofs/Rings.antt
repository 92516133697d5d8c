-- A queue that stands in a ring: taking the first off, and joining the end. Assumes nothing.
use Rattle.std.proofs.Common.{◌≡◌, ℕ, zero, suc, ◌+◌, ◌-◌, ◌%◌, ◌<◌, ◌≤◌, Bool, true, false, ◌||◌, eqb, ◌≢◌, List, [], ◌∷◌, ◌++◌, length, get_or, set, replicate, sym, refl, ap, ◌∙◌, subst, ap₂, ⊎_elim, arith}
use Rattle.std.proofs.ByRecursion.{All-push}
use Rattle.std.proofs.Common.{below_more, length-append, length-drop, drop, take, length-take-le}
use Rattle.std.proofs.lemmas.List.{get_or_append_left, get_or-append_right, get_or-drop, get_or-replicate, length-replicate, get_or-set_same, get_or-set_other}
use Rattle.std.proofs.lemmas.Bool.{cases_eq, cases_lt, cond-false, eq-eqb, ne_eqb, or_right}
use Rattle.net.specs.Nets.{waits, positions, most_records}
use Rattle.net.specs.Queues.{queue_list, queue_of, Apart, Below, Marked, Queued, joined_by}
use Rattle.net.specs.declared.waiting.Waiting.TheInside.{Inside as Waiting}
use Rattle.net.proofs.Apart.{waits_push, apart_push, room, positions_wait, positions_past, positions_apart}
use Rattle.net.specs.QueuesLemmas.{positions_below}

or_false : (x y : Bool) → y ≡ false → (x || y) ≡ x
or_false true y e = refl
or_false false y e = e

get_or_all_false : (n k : ℕ) → get_or (replicate n false) k false ≡ false
get_or_all_false zero k = refl
get_or_all_false (suc n) zero = refl
get_or_all_false (suc n) (suc k) = get_or_all_false n k

pub queue_length : (ring : List ℕ) (head count : ℕ) → length (queue_list head count ring) ≡ count
queue_length ring head zero = refl
queue_length ring head (suc count) = ap suc (queue_length ring (head + 1) count)

-- the head counts only up to the size of the ring
queue_alike : (ring : List ℕ) (a b count : ℕ) → a % most_records ≡ b % most_records → queue_list a count ring ≡ queue_list b count ring
queue_alike ring a b zero e = refl
queue_alike ring a b (suc count) e = ap₂ ◌∷◌ (ap (λ p. get_or ring p 0) e) (queue_alike ring (a + 1) (b + 1) count (omega arith))

-- a place before the head or past the end does not count
queue_set : (ring : List ℕ) (head count p v : ℕ) → ((k : ℕ) → k < count → (head + k) % most_records ≢ p) → queue_list head count (set ring p v) ≡ queue_list head count ring
queue_set ring head zero p v other = refl
queue_set ring head (suc count) p v other =
    let e : head + 0 ≡ head = omega arith in
    let ne : head % most_records ≢ p = subst (λ h. h % most_records ≢ p) e (other 0 (omega arith)) in
    ap₂ ◌∷◌ (get_or-set_other ring p (head % most_records) v 0 ne)
    (queue_set ring (head + 1) count p v (λ k l. let f : head + (k + 1) ≡ head + 1 + k = omega arith in subst (λ h. h % most_records ≢ p) f (other (k + 1) (omega arith))))

queue_push : (ring : List ℕ) (head count : ℕ) → queue_list head (suc count) ring ≡ queue_list head count ring ++ get_or ring ((head + count) % most_records) 0 ∷ []
queue_push ring head zero = let e : head ≡ head + 0 = omega arith in ap (λ h. get_or ring (h % most_records) 0 ∷ []) e
queue_push ring head (suc count) =
    let e : head + 1 + count ≡ head + suc count = omega arith in
    ap (λ q. get_or ring (head % most_records) 0 ∷ q) (queue_push ring (head + 1) count ∙ ap (λ h. queue_list (head + 1) count ring ++ get_or ring (h % most_records) 0 ∷ []) e)

-- a ring that has its own places
pub queue_start : (ring : List ℕ) (from count : ℕ) → from + count ≤ most_records → ((k : ℕ) → k < from + count → get_or ring k 0 ≡ k) → queue_list from count ring ≡ positions from count
queue_start ring from zero few own = refl
queue_start ring from (suc count) few own =
    let e : from % most_records ≡ from = omega arith in
    ap₂ ◌∷◌ (ap (λ p. get_or ring p 0) e ∙ own from (omega arith)) (queue_start ring (from + 1) count (omega arith) (λ k l. own k (omega arith)))

-- the first is taken off
abbrev pub without_first : Waiting → Waiting
without_first w = record { ring = w.ring; marks = set w.marks (get_or w.ring w.head 0) false; head = (w.head + 1) % most_records; count = w.count - 1 }

module _ (w : Waiting) (known : Queued w) (some : 0 < w.count) where
  pub first_off : queue_of w ≡ get_or w.ring w.head 0 ∷ queue_of (without_first w)
  first_off =
      let in_ring = known.head in
      let more : w.count ≡ suc (w.count - 1) = omega arith in
      let here : w.head % most_records ≡ w.head = omega arith in
      ap (λ n. queue_list w.head n w.ring) more
      ∙ ap₂ ◌∷◌ (ap (λ p. get_or w.ring p 0) here) (queue_alike w.ring (w.head + 1) ((w.head + 1) % most_records) (w.count - 1) (omega arith))

  pub first_below : get_or w.ring w.head 0 < most_records
  first_below = (subst (Below most_records) first_off known.below).0

  pub first_off_queued : length w.marks ≡ most_records → Queued (without_first w)
  first_off_queued sized =
      let i = get_or w.ring w.head 0 in
      let q = queue_of (without_first w) in
      let alone = subst Apart first_off known.apart in
      let low = first_below in
      record {
        head = omega arith;
        marked = λ j l. ⊎_elim
            (λ e. ap (λ k. get_or (set w.marks i false) k false) e ∙ get_or-set_same w.marks i false false (omega arith) ∙ sym (ap (λ k. waits k q) e ∙ alone.0))
            (λ ne. get_or-set_other w.marks i j false false ne ∙ known.marked j l ∙ ap (waits j) first_off ∙ ap (λ b. b || waits j q) (ne_eqb j i ne))
            (cases_eq j i);
        apart = alone.1;
        below = (subst (Below most_records) first_off known.below).1;
      }

-- one joins the end
abbrev pub with_last : Waiting → ℕ → Waiting
with_last w i = record { ring = set w.ring ((w.head + w.count) % most_records) i; marks = set w.marks i true; head = w.head; count = w.count + 1 }

module _ (w : Waiting) (known : Queued w) (i : ℕ) (placed : i < most_records) where
  module _ (m : get_or w.marks i false ≡ false) where
    waits_not : waits i (queue_of w) ≡ false
    waits_not = sym (known.marked i placed) ∙ m

    pub has_room : w.count < most_records
    has_room = omega (arith, queue_length w.ring w.head w.count, room most_records (queue_of w) i known.apart known.below waits_not placed)

    last_on : length w.ring ≡ most_records → queue_of (with_last w i) ≡ queue_of w ++ i ∷ []
    last_on sized =
        let p = (w.head + w.count) % most_records in
        let few = has_room in
        let more : w.count + 1 ≡ suc w.count = omega arith in
        ap (λ n. queue_list w.head n (set w.ring p i)) more
        ∙ queue_push (set w.ring p i) w.head w.count
        ∙ ap₂ (λ q j. q ++ j ∷ []) (queue_set w.ring w.head w.count p i (λ k l e. omega arith)) (get_or-set_same w.ring p i 0 (omega arith))

    pub joins_last : length w.ring ≡ most_records → queue_of (with_last w i) ≡ joined_by i (queue_of w)
    joins_last sized = last_on sized ∙ sym (cond-false (waits i (queue_of w)) _ _ waits_not)

    pub last_on_queued : length w.ring ≡ most_records → length w.marks ≡ most_records → Queued (with_last w i)
    last_on_queued ring_sized sized =
        let q = queue_of w in
        let e = sym (last_on ring_sized) in
        record {
          head = known.head;
          marked = λ j l. subst (λ s. get_or (set w.marks i true) j false ≡ waits j s) e (⊎_elim
              (λ f. ap (λ k. get_or (set w.marks i true) k false) f ∙ get_or-set_same w.marks i true false (omega arith) ∙ sym (waits_push q j i ∙ or_right (waits j q) (eqb j i) (eq-eqb j i f)))
              (λ ne. get_or-set_other w.marks i j true false ne ∙ known.marked j l ∙ sym (waits_push q j i ∙ or_false (waits j q) (eqb j i) (ne_eqb j i ne)))
              (cases_eq j i));
          apart = subst Apart e (apart_push q i known.apart waits_not);
          below = subst (Below most_records) e (All-push (λ k. k < most_records) q i known.below placed);
        }

-- the first so many places have their own numbers
abbrev pub Own : List ℕ → ℕ → Type 0
Own ring n = (k : ℕ) → k < n → get_or ring k 0 ≡ k

pub own_none : (ring : List ℕ) → Own ring 0
own_none ring k l = absurd (omega arith)

pub own_more : (ring : List ℕ) (n : ℕ) → n < length ring → Own ring n → Own (set ring n n) (n + 1)
own_more ring n l own = below_more _ _ (λ k less. get_or-set_other ring n k n 0 (λ e. omega arith) ∙ own k less) (get_or-set_same ring n n 0 l)

-- so many places at the front
pub front : {A : Type 0} (x : A) (n : ℕ) → n ≤ most_records → length (take n (replicate most_records x)) ≡ n
front x n few = length-take-le n (replicate most_records x) (omega (arith, length-replicate most_records x))

-- all wait
pub record Filled (ring : List ℕ) (marks : List Bool) (n : ℕ) : Type 0 where
  pub places : length ring ≡ most_records
  pub sized : length marks ≡ most_records
  pub own : Own ring n
  pub on : (k : ℕ) → k < n → get_or marks k false ≡ true
  pub off : (k : ℕ) → n ≤ k → get_or marks k false ≡ false

module _ (n : ℕ) (few : n ≤ most_records) (xs : List ℕ) (len : length xs ≡ n) (own : Own xs n) (ms : List Bool) (full : ms ≡ replicate n true) where
  marks_len : length ms ≡ n
  marks_len = ap length full ∙ length-replicate n true

  pub filled : Filled (xs ++ drop n (replicate most_records 0)) (ms ++ drop n (replicate most_records false)) n
  filled = record {
    places = length-append xs (drop n (replicate most_records 0)) ∙ omega (arith, length-drop {A = ℕ} n (replicate most_records 0), length-replicate {A = ℕ} most_records 0);
    sized = length-append ms (drop n (replicate most_records false)) ∙ omega (arith, marks_len, length-drop {A = Bool} n (replicate most_records false), length-replicate {A = Bool} most_records false);
    own = λ k l. get_or_append_left xs _ 0 k (omega arith) ∙ own k l;
    on = λ k l. get_or_append_left ms _ false k (omega (arith, marks_len)) ∙ ap (λ x. get_or x k false) full ∙ get_or-replicate n k true false l;
    off = λ k l. get_or-append_right ms _ n k false marks_len l ∙ get_or-drop n (replicate most_records false) (k - n) false ∙ get_or_all_false most_records (n + (k - n));
  }

module _ (ring : List ℕ) (marks : List Bool) (n : ℕ) (few : n ≤ most_records) (filled : Filled ring marks n) where
  pub filled_queue : queue_list 0 n ring ≡ positions 0 n
  filled_queue = queue_start ring 0 n (omega arith) (λ k l. filled.own k (omega arith))

  pub filled_queued : Queued (record { ring = ring; marks = marks; head = 0; count = n })
  filled_queued =
      let e = sym filled_queue in
      record {
        head = omega arith;
        marked = subst (Marked marks) e (λ j l. ⊎_elim
            (λ below. filled.on j below ∙ sym (positions_wait 0 n j (omega arith) (omega arith)))
            (λ past. filled.off j past ∙ sym (positions_past 0 n j (omega arith)))
            (cases_lt j n));
        apart = subst Apart e (positions_apart 0 n);
        below = subst (Below most_records) e (positions_below 0 n most_records (omega arith));
      }
