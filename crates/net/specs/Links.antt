-- The chains as they are stored: the first record that mentions each cell, and for each record the next ones. Assumes nothing.
use Rattle.std.specs.Prelude.{◌≡◌, ℕ, ◌+◌, ◌<◌, ◌≤◌, cond, List, [], ◌∷◌, map, length, take, Some, None, Option, IfSome, ◌==◌, slice_index, slice_index_or}
use Rattle.tube.specs.Tubes.{most_cells}
use Rattle.constraint.specs.Mentions.{cell_slots}
use Rattle.constraint.specs.declared.constraint.Constraint.{Constraint}
use Rattle.net.specs.Chains.{after, cursor}
use Rattle.net.specs.Nets.{most_records}
use Rattle.net.specs.declared.chains.Link.{Link}
use Rattle.net.specs.declared.chains.Chains.TheInside.{Inside as Chains}
use Rattle.net.specs.declared.chains.Cursor.{Cursor}

-- what each of some constraints mentions, in three slots
abbrev pub slots : List Constraint → List (List ℕ)
slots = map cell_slots

-- a record that mentions no cell, and is never read
abbrev pub no_mention : List Link
no_mention = []

-- what the records mention, as it is stored
abbrev pub slots_of : Chains → List (List ℕ)
slots_of ch = map (map (λ l. l.cell)) (take ch.count ch.mentions)

-- the heads are the first records from position i on that mention each cell
abbrev pub Heads : List (List ℕ) → ℕ → List ℕ → Type 0
Heads css i heads = (c : ℕ) → c < most_cells → slice_index heads c ≡ after css c i

-- what is stored for the record at position i
abbrev pub linked : List (List ℕ) → ℕ → List ℕ → List Link
linked css i = map (λ c. record { cell = c; next = after css c (i + 1) })

-- the records from position i on are linked
abbrev pub Links : List (List ℕ) → ℕ → List (List Link) → Type 0
Links css i mentions = (j : ℕ) → i ≤ j → j < length css → slice_index_or mentions j no_mention ≡ linked css j (slice_index_or css j [])

pub record Chained (css : List (List ℕ)) (ch : Chains) : Type 0 where
  pub count : ch.count ≡ length css
  pub few : length css ≤ most_records
  pub three : (j : ℕ) → j < length css → length (slice_index_or css j []) ≡ 3
  pub heads : Heads css 0 ch.heads
  pub links : Links css 0 ch.mentions

-- three cells below n, one for each slot
abbrev pub slot : List ℕ → ℕ → ℕ
slot cs s = slice_index cs s

pub record Three (n : ℕ) (cs : List ℕ) : Type 0 where
  pub are : cs ≡ slot cs 0 ∷ slot cs 1 ∷ slot cs 2 ∷ []
  pub first : slot cs 0 < n
  pub second : slot cs 1 < n
  pub third : slot cs 2 < n

-- a slot that has a cell has one of a table's
abbrev pub InTable : Option ℕ → Type 0
InTable o = IfSome o (λ c. c < most_cells)

-- the cell of a cursor; none is read at the end
abbrev pub cell_of : Option ℕ → ℕ
cell_of None = 0
cell_of (Some c) = c

-- where the cursor of a cell stands, from a position on
abbrev pub stands : List (List ℕ) → Option ℕ → (from : ℕ) → Cursor
stands css o from = record { cell = cell_of o; at = cursor css o from }

-- the cursor once a position is passed
abbrev pub passed : List (List ℕ) → Cursor → ℕ → Cursor
passed css k i = record { cell = k.cell; at = cond (k.at == i) (after css k.cell (i + 1)) k.at }
