-- The report that was made, as the bytes that are printed for the log. Assumes nothing.
use Rattle.std.proofs.Common.{◌≡◌, ℕ, zero, suc, ◌<◌, ◌≤◌, List, [], ◌∷◌, ◌++◌, take, None, codes, decimal, Result, sym, refl, ap, ◌∙◌, subst, ap₂, arith}
use Rattle.std.proofs.lemmas.List.{get_or-take}
use Rattle.std.specs.declared.alloc.AllocError.{AllocError}
use Rattle.tube.specs.Tubes.{nowhere, cell}
use Rattle.tube.specs.declared.row.Row.{Row}
use Rattle.swimlog.specs.Format.{gates_of}
use Rattle.swimlog.specs.Limits.{cells_of}
use Rattle.swimlog.specs.Logs.{log_fault}
use Rattle.swimlog.specs.Records.{gate_cell}
use Rattle.swimlog.specs.declared.kind.Axis.{Axis}
use Rattle.swimlog.specs.declared.kind.Axis.TheVariants.{X, Y}
use Rattle.swimlog.specs.Report.{line, mark_word, place_fields, gate_lines, kept_bytes, report_bytes, Written}
use Rattle.survey.specs.Surveys.{surveyed, Surveyed, told, told_unless, printed}
use Rattle.swimlog.specs.declared.report.Report.{Report}
use Rattle.swimlog.specs.declared.report.Report.TheVariants.{Kept, Empty, Refused}
use Rattle.survey.proofs.Worths.{gate_cell_within}

-- a table whose first cells are the tube prints as the tube does
module _ (gates : ℕ) (table tube : List Row) (part : take (cells_of gates) table ≡ tube) where
  same_cell : (axis : Axis) (gate : ℕ) → gate < gates → cell table (gate_cell gates axis gate) ≡ cell tube (gate_cell gates axis gate)
  same_cell axis gate h = sym (get_or-take (cells_of gates) table (gate_cell gates axis gate) nowhere (gate_cell_within gates axis gate h)) ∙ ap (λ t. cell t (gate_cell gates axis gate)) part

  same_lines : (count : ℕ) → count ≤ gates → gate_lines gates table count ≡ gate_lines gates tube count
  same_lines zero h = refl
  same_lines (suc count) h =
      ap₂ ◌++◌ (same_lines count (omega arith))
      (ap₂ (λ x y. line (decimal count) (place_fields x y)) (same_cell X count (omega arith)) (same_cell Y count (omega arith)))

module _ (bytes : List ℕ) where
  not_refused : log_fault bytes ≡ None → printed bytes ≡ told (surveyed bytes).answer.verdict (surveyed bytes).answer.calls (gates_of bytes) (surveyed bytes).tube
  unfolding printed
  not_refused sound = ap (λ o. told_unless o (gates_of bytes) (surveyed bytes)) sound

  pub printed_as : (r : Report) → Surveyed bytes r → report_bytes r ≡ printed bytes
  unfolding printed
  printed_as (Kept calls mark sizes tube) h =
      ap (λ lines. line (codes "kept") (decimal calls ∷ mark_word mark ∷ []) ++ lines) (same_lines sizes.gates tube (surveyed bytes).tube h.3 sizes.gates (omega arith))
      ∙ ap (λ gates. kept_bytes calls mark gates (surveyed bytes).tube) h.1.same_gates
      ∙ ap (λ a. told a.verdict a.calls (gates_of bytes) (surveyed bytes).tube) (sym h.2) ∙ sym (not_refused h.0)
  printed_as (Empty fault calls) h = ap (λ a. told a.verdict a.calls (gates_of bytes) (surveyed bytes).tube) (sym h.1) ∙ sym (not_refused h.0)
  printed_as (Refused e) h = ap (λ o. told_unless o (gates_of bytes) (surveyed bytes)) (sym h)

pub written_as : (bytes before : List ℕ) (report : Report) (r : Result (Unit {0}) AllocError) (after : List ℕ) → Surveyed bytes report → Written before (report_bytes report) r after → Written before (printed bytes) r after
written_as bytes before report r after h = subst (λ more. Written before more r after) (printed_as bytes report h)
