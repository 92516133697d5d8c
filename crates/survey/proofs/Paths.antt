-- A swim as a trajectory: all x, then all y, then the x steps, then the y steps. Assumes nothing.
use Rattle.std.proofs.Common.{◌≡◌, ℕ, zero, suc, ◌+◌, ◌-◌, ◌*◌, ◌<◌, ◌≤◌, List, [], ◌∷◌, ◌++◌, length, ℤ, pos, refl, ap, ◌∙◌, arith, below_more}
use Rattle.std.proofs.ByRecursion.{All-append}
use Rattle.std.proofs.lemmas.List.{length-append, length_push, get_or_append_left, get_or-append_right, get_or_push}
use Rattle.std.specs.List.{AllByRecursion}
use Rattle.tube.specs.Tubes.{Trajectory, value_at}
use Rattle.swimlog.specs.Limits.{cells_of}
use Rattle.swimlog.specs.Records.{gate_cell, step_cell}
use Rattle.swimlog.specs.declared.kind.Axis.{Axis}
use Rattle.swimlog.specs.declared.kind.Axis.TheVariants.{X, Y}
use Rattle.survey.specs.Swims.{Swim}

-- the first n numbers of a sequence
abbrev pub listed : (ℕ → ℤ) → ℕ → List ℤ
listed f zero = []
listed f (suc n) = listed f n ++ f n ∷ []

pub listed_length : (f : ℕ → ℤ) (n : ℕ) → length (listed f n) ≡ n
listed_length f zero = refl
listed_length f (suc n) = omega (arith, length_push (listed f n) (f n), listed_length f n)

pub listed_at : (f : ℕ → ℤ) (n i : ℕ) → i < n → value_at (listed f n) i ≡ f i
listed_at f zero i h = absurd (omega arith)
listed_at f (suc n) i h =
    below_more (λ k. value_at (listed f n ++ f n ∷ []) k ≡ f k) n
    (λ k below. get_or_append_left (listed f n) (f n ∷ []) (pos 0) k (omega (arith, listed_length f n)) ∙ listed_at f n k below)
    (get_or_push (listed f n) (f n) (pos 0) n (listed_length f n)) i (omega arith)

pub all_listed : (P : ℤ → Type 0) (f : ℕ → ℤ) (n : ℕ) → ((i : ℕ) → i < n → P (f i)) → AllByRecursion P (listed f n)
all_listed P f zero each = tt
all_listed P f (suc n) each = All-append P (listed f n) (f n ∷ []) (all_listed P f n (λ i h. each i (omega arith))) (each n (omega arith), tt)

module _ (gates : ℕ) (s : Swim) where
  positions : List ℤ
  positions = listed (s.position X) gates ++ listed (s.position Y) gates

  steps : List ℤ
  steps = listed (s.step X) (gates - 1) ++ listed (s.step Y) (gates - 1)

  unfoldable pub path : Trajectory
  unfolding positions steps
  path = positions ++ steps

  positions_length : length positions ≡ 2 * gates
  unfolding positions
  positions_length = omega (arith, length-append (listed (s.position X) gates) (listed (s.position Y) gates), listed_length (s.position X) gates, listed_length (s.position Y) gates)

  steps_length : length steps ≡ 2 * (gates - 1)
  unfolding steps
  steps_length = omega (arith, length-append (listed (s.step X) (gates - 1)) (listed (s.step Y) (gates - 1)), listed_length (s.step X) (gates - 1), listed_length (s.step Y) (gates - 1))

  pub path_length : 1 ≤ gates → length path ≡ cells_of gates
  unfolding path
  path_length some = omega (arith, length-append positions steps, positions_length, steps_length)

  -- a cell among the positions, and one among the steps
  in_positions : (c : ℕ) → c < 2 * gates → value_at path c ≡ value_at positions c
  unfolding path
  in_positions c h = get_or_append_left positions steps (pos 0) c (omega (arith, positions_length))

  in_steps : (k : ℕ) → value_at path (2 * gates + k) ≡ value_at steps k
  unfolding path
  in_steps k = get_or-append_right positions steps (2 * gates) (2 * gates + k) (pos 0) positions_length (omega arith) ∙ ap (value_at steps) (omega arith)

  pub position_at : (axis : Axis) (gate : ℕ) → gate < gates → value_at path (gate_cell gates axis gate) ≡ s.position axis gate
  unfolding positions
  position_at X gate h =
      in_positions gate (omega arith) ∙ get_or_append_left (listed (s.position X) gates) (listed (s.position Y) gates) (pos 0) gate (omega (arith, listed_length (s.position X) gates)) ∙ listed_at (s.position X) gates gate h
  position_at Y gate h =
      in_positions (gates + gate) (omega arith) ∙ get_or-append_right (listed (s.position X) gates) (listed (s.position Y) gates) gates (gates + gate) (pos 0) (listed_length (s.position X) gates) (omega arith)
      ∙ ap (value_at (listed (s.position Y) gates)) (omega arith) ∙ listed_at (s.position Y) gates gate h

  pub step_at : (axis : Axis) (slice : ℕ) → slice + 1 < gates → value_at path (step_cell gates axis slice) ≡ s.step axis slice
  unfolding steps
  step_at X slice h =
      in_steps slice ∙ get_or_append_left (listed (s.step X) (gates - 1)) (listed (s.step Y) (gates - 1)) (pos 0) slice (omega (arith, listed_length (s.step X) (gates - 1))) ∙ listed_at (s.step X) (gates - 1) slice (omega arith)
  step_at Y slice h =
      ap (value_at path) (omega arith) ∙ in_steps (gates - 1 + slice)
      ∙ get_or-append_right (listed (s.step X) (gates - 1)) (listed (s.step Y) (gates - 1)) (gates - 1) (gates - 1 + slice) (pos 0) (listed_length (s.step X) (gates - 1)) (omega arith)
      ∙ ap (value_at (listed (s.step Y) (gates - 1))) (omega arith) ∙ listed_at (s.step Y) (gates - 1) slice (omega arith)

  -- what holds of each position and each step holds of every number of the trajectory
  pub all_path : (P : ℤ → Type 0) → ((axis : Axis) (gate : ℕ) → gate < gates → P (s.position axis gate)) → ((axis : Axis) (slice : ℕ) → slice + 1 < gates → P (s.step axis slice)) → AllByRecursion P path
  unfolding path positions steps
  all_path P at_gates on_slices =
      All-append P positions steps
      (All-append P (listed (s.position X) gates) (listed (s.position Y) gates) (all_listed P (s.position X) gates (at_gates X)) (all_listed P (s.position Y) gates (at_gates Y)))
      (All-append P (listed (s.step X) (gates - 1)) (listed (s.step Y) (gates - 1))
      (all_listed P (s.step X) (gates - 1) (λ k h. on_slices X k (omega arith))) (all_listed P (s.step Y) (gates - 1) (λ k h. on_slices Y k (omega arith))))
