-- The records that mention a cell, one after another in list order. Assumes nothing.
use Rattle.std.specs.Prelude.{ℕ, zero, suc, min, cond, List, [], ◌∷◌, length, Some, None, Option}
use Rattle.net.specs.Nets.{among}

-- The first position, from a given one on, whose record mentions the cell, or the number of records where there is none.
abbrev pub after : List (List ℕ) → (cell from : ℕ) → ℕ
after [] c from = 0
after (cs ∷ css) c zero = cond (among c cs) 0 (suc (after css c 0))
after (cs ∷ css) c (suc from) = suc (after css c from)

-- where the first of the chains of some cells stands
abbrev pub least_after : List (List ℕ) → (cells : List ℕ) (from : ℕ) → ℕ
least_after css [] from = length css
least_after css (c ∷ cs) from = min (after css c from) (least_after css cs from)

-- A cursor goes along the records that mention a cell, and stands at the end where there is no cell.
abbrev pub cursor : List (List ℕ) → Option ℕ → (from : ℕ) → ℕ
cursor css None from = length css
cursor css (Some c) from = after css c from

-- the cells that count, of some slots: a slot is empty where its cell does not
abbrev pub counted : List (Option ℕ) → List ℕ
counted [] = []
counted (None ∷ os) = counted os
counted (Some c ∷ os) = c ∷ counted os
