-- How long the parts of a report can be: all of it fits on a page. Assumes nothing.
use Rattle.std.proofs.Common.{◌≡◌, ℕ, ◌+◌, ◌*◌, ◌^◌, ◌<◌, ◌≤◌, List, [], ◌∷◌, ◌++◌, map, length, ℤ, codes, decimal, arith, w32, SFits, rules}
use Rattle.std.proofs.lemmas.Fmt.{length-decimal-le, length_signed_le}
use Rattle.std.proofs.lemmas.List.{length-append}
use Rattle.std.specs.Fmt.{signed_decimal}
use Rattle.std.specs.List.{AllByRecursion}
use Rattle.tube.specs.declared.row.Row.{Row}
use Rattle.contractor.specs.declared.answer.Mark.{Mark}
use Rattle.contractor.specs.declared.answer.Mark.TheVariants.{Settled, Stopped}
use Rattle.swimlog.specs.Limits.{most_gates}
use Rattle.swimlog.specs.Pages.{Spare, Room}
use Rattle.swimlog.specs.Report.{line_end, spaced, line, mark_word, place_fields}
use Rattle.swimlog.specs.Rooms.{kept_line_length, gate_line_length}
use Rattle.swimlog.specs.declared.page.Page.{Page}

-- ---- numbers

twenty_digits : (n : ℕ) → n < 2 ^ 64 → length (decimal n) ≤ 20
twenty_digits n fits = length-decimal-le 20 n (omega arith) (omega arith) fits

pub three_digits : (gate : ℕ) → gate < most_gates → length (decimal gate) ≤ 3
three_digits gate small = length-decimal-le 3 gate (omega arith) (omega arith) (omega arith)

pub eleven_signs : (z : ℤ) → SFits w32 z → length (signed_decimal z) ≤ 11
eleven_signs z fits = search (rules, length_signed_le 10)

-- ---- fields and lines

pub spaced_length : (first : List ℕ) (fields : List (List ℕ)) → length (spaced (first ∷ fields)) ≡ 1 + length first + length (spaced fields)
spaced_length first fields = omega (arith, length-append first (spaced fields))

line_length : (first : List ℕ) (fields : List (List ℕ)) → length (line first fields) ≡ length first + length (spaced fields) + 1
line_length first fields = omega (arith, length-append first (spaced fields ++ (line_end ∷ [])), length-append (spaced fields) (line_end ∷ []))

-- a row whose ends are numbers of 32 bits
pub record Small (r : Row) : Type 0 where
  pub low : SFits w32 r.low
  pub high : SFits w32 r.high

pub gate_line_short : (gate : ℕ) (x y : Row) → gate < most_gates → Small x → Small y → length (line (decimal gate) (place_fields x y)) ≤ gate_line_length
gate_line_short gate x y small x_small y_small =
    let x_low = signed_decimal x.low in
    let x_high = signed_decimal x.high in
    let y_low = signed_decimal y.low in
    let y_high = signed_decimal y.high in
    omega (
      arith,
      line_length (decimal gate) (place_fields x y),
      spaced_length x_low (x_high ∷ y_low ∷ y_high ∷ []),
      spaced_length x_high (y_low ∷ y_high ∷ []),
      spaced_length y_low (y_high ∷ []),
      spaced_length y_high [],
      three_digits gate small,
      eleven_signs x.low x_small.low,
      eleven_signs x.high x_small.high,
      eleven_signs y.low y_small.low,
      eleven_signs y.high y_small.high,
    )

pub gate_line_room : (p : Page) (gate : ℕ) (x y : Row) → gate < most_gates → Small x → Small y → Spare p gate_line_length → Room p (line (decimal gate) (place_fields x y))
gate_line_room p gate x y small x_small y_small spare = omega (arith, gate_line_short gate x y small x_small y_small)

mark_word_length : (mark : Mark) → length (mark_word mark) ≡ 7
mark_word_length Settled = search rules
mark_word_length Stopped = search rules

pub kept_line_short : (calls : ℕ) (mark : Mark) → calls < 2 ^ 64 → length (line (codes "kept") (decimal calls ∷ mark_word mark ∷ [])) ≤ kept_line_length
kept_line_short calls mark fits =
    omega (
      arith,
      line_length (codes "kept") (decimal calls ∷ mark_word mark ∷ []),
      spaced_length (decimal calls) (mark_word mark ∷ []),
      spaced_length (mark_word mark) [],
      mark_word_length mark,
      twenty_digits calls fits,
    )

fields_short : (fields : List ℕ) → AllByRecursion (λ n. n < 2 ^ 64) fields → length (spaced (map decimal fields)) ≤ 21 * length fields
fields_short [] h = omega arith
fields_short (n ∷ fields) h = omega (arith, spaced_length (decimal n) (map decimal fields), twenty_digits n h.0, fields_short fields h.1)

pub line_short : (word fields : List ℕ) → AllByRecursion (λ n. n < 2 ^ 64) fields → length (line word (map decimal fields)) ≤ length word + 21 * length fields + 1
line_short word fields h = omega (arith, line_length word (map decimal fields), fields_short fields h)
