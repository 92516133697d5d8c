-- A track's history, call by call, and what every history keeps. Assumes nothing.
use Rattle.std.specs.Prelude.{◌≡◌, ℕ, ◌+◌, ◌≤◌, true, false, List, [], ◌∷◌, ◌++◌, length}
use Rattle.std.specs.List.{AllByRecursion}
use Rattle.tube.specs.declared.row.Row.{Row}
use Rattle.contractor.specs.declared.answer.Answer.{Answer}
use Rattle.contractor.specs.declared.answer.Fault.{Fault}
use Rattle.contractor.specs.declared.answer.Verdict.{Verdict}
use Rattle.contractor.specs.declared.answer.Verdict.TheVariants.{Kept, Empty}
use Rattle.tube.specs.Tubes.{Trajectory, is_tube, Lies, Inside, single}
use Rattle.contractor.specs.Answers.{IsEmpty}
use Rattle.contractor.specs.Contractors.{Value, Keeps, Accepted}
use Rattle.track.specs.Limits.{most_allowance}

pub data Standing : Type 0 where
  resting : Standing
  proposing : Standing
  emptied : Fault → Standing

-- a track with its two tables
pub record State : Type 0 where
  pub cells : ℕ
  pub allowance : ℕ
  pub charged : ℕ
  pub standing : Standing
  pub committed : List Row
  pub work : List Row

-- one answered use: the contractor as it was then, the work table that it was used on, and what it answered
pub record Use : Type 0 where
  pub contractor : Value
  pub on : List Row
  pub answer : Answer

-- one call on a track that stands
pub data Call : Type 0 where
  refused : Call
  proposed : List Row → Call
  used : Use → Call
  committed : Call
  withdrawn : Call
  closed : Call

abbrev pub standing_after : Verdict → Standing
standing_after (Kept m) = proposing
standing_after (Empty f) = emptied f

abbrev pub stands : State → Standing → State
stands s d = record { cells = s.cells; allowance = s.allowance; charged = s.charged; standing = d; committed = s.committed; work = s.work }

abbrev pub Fits : State → Type 0
Fits s = (length s.committed ≡ s.cells) × (length s.work ≡ s.cells)

pub record Uses (s : State) (u : Use) (t : State) : Type 0 where
  pub keeps : Keeps u.contractor
  pub standing : s.standing ≡ proposing
  pub sized : length s.work ≡ s.cells
  pub on : u.on ≡ s.work
  pub accepted : Accepted u.contractor s.work
  pub afforded : s.charged + u.contractor.ceiling ≤ s.allowance
  pub answered : u.answer ≡ (u.contractor.narrowed s.work).answer
  pub after : t ≡ record { cells = s.cells; allowance = s.allowance; charged = s.charged + u.answer.calls; standing = standing_after u.answer.verdict; committed = s.committed; work = (u.contractor.narrowed s.work).tube }

-- what one call does to a track and its tables
abbrev pub Next : State → Call → State → Type 0
Next s refused t = t ≡ s
Next s (proposed c) t = (s.standing ≡ resting) × Fits s × (c ≡ s.committed) × (t ≡ record { cells = s.cells; allowance = s.allowance; charged = s.charged; standing = proposing; committed = s.committed; work = s.committed })
Next s (used u) t = Uses s u t
Next s committed t = (s.standing ≡ proposing) × Fits s × (t ≡ record { cells = s.cells; allowance = s.allowance; charged = s.charged; standing = resting; committed = s.work; work = s.work })
Next s withdrawn t = (s.standing ≡ proposing) × (t ≡ stands s resting)
Next s closed t = ((f : Fault) × (s.standing ≡ emptied f)) × (t ≡ stands s resting)

-- A history: the calls after the making, the newest first, and the state that they lead to.
-- All of them that were not refused are on the same two tables, which nothing else writes.
abbrev pub History : ℕ → List Row → List Call → State → Type 0
History allowance first [] s =
    (is_tube first ≡ true) × (1 ≤ allowance) × (allowance ≤ most_allowance)
    × ((w : List Row) × (s ≡ record { cells = length first; allowance = allowance; charged = 0; standing = resting; committed = first; work = w }))
History allowance first (c ∷ cs) t = (s : State) × History allowance first cs s × Next s c t

-- the uses on the proposal that is open, or was when it was emptied
abbrev pub open_uses : List Call → List Use
open_uses [] = []
open_uses (refused ∷ cs) = open_uses cs
open_uses (proposed c ∷ cs) = []
open_uses (used u ∷ cs) = u ∷ open_uses cs
open_uses (committed ∷ cs) = []
open_uses (withdrawn ∷ cs) = []
open_uses (closed ∷ cs) = []

-- the uses in proposals that were committed
abbrev pub committed_uses : List Call → List Use
committed_uses [] = []
committed_uses (refused ∷ cs) = committed_uses cs
committed_uses (proposed c ∷ cs) = committed_uses cs
committed_uses (used u ∷ cs) = committed_uses cs
committed_uses (committed ∷ cs) = open_uses cs ++ committed_uses cs
committed_uses (withdrawn ∷ cs) = committed_uses cs
committed_uses (closed ∷ cs) = committed_uses cs

-- every use that was answered, committed or not
abbrev pub all_uses : List Call → List Use
all_uses [] = []
all_uses (refused ∷ cs) = all_uses cs
all_uses (proposed c ∷ cs) = all_uses cs
all_uses (used u ∷ cs) = u ∷ all_uses cs
all_uses (committed ∷ cs) = all_uses cs
all_uses (withdrawn ∷ cs) = all_uses cs
all_uses (closed ∷ cs) = all_uses cs

-- the tube that the last proposal copied
abbrev pub copied : List Call → List Row
copied [] = []
copied (refused ∷ cs) = copied cs
copied (proposed c ∷ cs) = c
copied (used u ∷ cs) = copied cs
copied (committed ∷ cs) = copied cs
copied (withdrawn ∷ cs) = copied cs
copied (closed ∷ cs) = copied cs

abbrev pub Obeys : Trajectory → List Use → Type 0
Obeys p us = AllByRecursion (λ u. u.contractor.relation p ≡ true) us

abbrev pub total_calls : List Use → ℕ
total_calls [] = 0
total_calls (u ∷ us) = u.answer.calls + total_calls us

pub record Exact (u : Use) (p : Trajectory) : Type 0 where
  pub empties : IsEmpty u.answer.verdict → u.contractor.relation p ≡ false
  pub disobeyed : u.contractor.relation p ≡ false → IsEmpty u.answer.verdict

-- what every history keeps, wherever it is halted
pub record KeptPromises (allowance : ℕ) (first : List Row) (cs : List Call) (s : State) : Type 0 where
  pub none_lost : (p : Trajectory) → Lies first p → Obeys p (committed_uses cs) → Lies s.committed p
  pub narrower : Inside s.committed first
  pub truly_empty : (f : Fault) → s.standing ≡ emptied f → (p : Trajectory) → Lies (copied cs) p → Obeys p (open_uses cs) → ⊥
  pub still_committed : (f : Fault) → s.standing ≡ emptied f → s.committed ≡ copied cs
  pub exact_on_one : (p : Trajectory) → AllByRecursion (λ u. u.on ≡ single p → Exact u p) (all_uses cs)
  pub all_charged : s.charged ≡ total_calls (all_uses cs)
  pub under_ceilings : AllByRecursion (λ u. u.answer.calls ≤ u.contractor.ceiling) (all_uses cs)
  pub within_allowance : s.charged ≤ s.allowance

abbrev pub HistoriesKeep : ℕ → List Row → Type 0
HistoriesKeep allowance first = (cs : List Call) (s : State) → History allowance first cs s → KeptPromises allowance first cs s
