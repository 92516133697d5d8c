-- The queue of the records that wait, as it stands in a ring. Assumes nothing.
use Rattle.std.specs.Prelude.{◌≡◌, ℕ, zero, suc, ◌+◌, ◌%◌, ◌<◌, Bool, false, cond, List, [], ◌∷◌, ◌++◌, Some, None, Option, slice_index, slice_index_or}
use Rattle.std.specs.List.{AllByRecursion}
use Rattle.net.specs.Nets.{waits, most_records}
use Rattle.net.specs.declared.waiting.Waiting.TheInside.{Inside as Waiting}

-- the numbers of a ring from a place on, so many of them
abbrev pub queue_list : (head count : ℕ) → List ℕ → List ℕ
queue_list head zero ring = []
queue_list head (suc count) ring = slice_index ring (head % most_records) ∷ queue_list (head + 1) count ring

abbrev pub queue_of : Waiting → List ℕ
queue_of w = queue_list w.head w.count w.ring

-- no position waits twice
abbrev pub Apart : List ℕ → Type 0
Apart [] = Unit {0}
Apart (i ∷ q) = (waits i q ≡ false) × Apart q

-- every position lies below n
abbrev pub Below : ℕ → List ℕ → Type 0
Below n = AllByRecursion (λ i. i < n)

-- the marks tell who waits in the queue
abbrev pub Marked : List Bool → List ℕ → Type 0
Marked marks q = (i : ℕ) → i < most_records → slice_index_or marks i false ≡ waits i q

-- what is known of the ring and its marks between two calls
pub record Queued (w : Waiting) : Type 0 where
  pub head : w.head < most_records
  pub marked : Marked w.marks (queue_of w)
  pub apart : Apart (queue_of w)
  pub below : Below most_records (queue_of w)

-- the first is taken off, if any waits
abbrev pub Taken : List ℕ → Option ℕ → List ℕ → Type 0
Taken q None left = (q ≡ []) × (left ≡ [])
Taken q (Some i) left = q ≡ i ∷ left

-- one joins the end, unless it waits already
abbrev pub joined_by : ℕ → List ℕ → List ℕ
joined_by i q = cond (waits i q) q (q ++ i ∷ [])
