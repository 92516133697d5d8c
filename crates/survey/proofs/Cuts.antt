-- One byte past the longest log is enough: what is printed for a longer input is already told by its first bytes. Assumes nothing.
use Rattle.std.proofs.Common.{◌≡◌, ℕ, ◌+◌, ◌*◌, ◌≤◌, Bool, true, false, ◌&&◌, eqb, leb, List, length, take, Some, sym, refl, ap, ◌∙◌, ap₂, inl, inr, arith}
use Rattle.std.proofs.lemmas.List.{get_or-take, length-take-le, take_all}
use Rattle.std.proofs.lemmas.Bool.{cases_lt}
use Rattle.std.proofs.lemmas.Bool.Decides.{nat_tests}
use Rattle.swimlog.proofs.Checks.{bad_sizes}
use Rattle.swimlog.specs.Format.{sizes_length, gates_of, records_of, log_length}
use Rattle.swimlog.specs.Limits.{most_records, are_sizes}
use Rattle.swimlog.specs.Logs.{has_sizes, log_fault}
use Rattle.swimlog.specs.declared.fault.LogFault.{LogFault}
use Rattle.swimlog.specs.declared.fault.LogFault.TheVariants.{BadLength}
use Rattle.swimlog.specs.Report.{refused_bytes}
use Rattle.survey.specs.Surveys.{surveyed, told_unless, printed}

abbrev pub enough : ℕ
enough = log_length most_records + 1

printed_refused : (bytes : List ℕ) (e : LogFault) → log_fault bytes ≡ Some e → printed bytes ≡ refused_bytes e
unfolding printed
printed_refused bytes e refused = ap (λ o. told_unless o (gates_of bytes) (surveyed bytes)) refused

too_long : (bytes : List ℕ) → has_sizes bytes ≡ true → enough ≤ length bytes → log_fault bytes ≡ Some BadLength
unfolding log_fault
too_long bytes sized long =
    let few : records_of bytes ≤ most_records = grind (arith, nat_tests) in
    let other : eqb (length bytes) (log_length (records_of bytes)) ≡ false = grind (arith, nat_tests) in
    rw (sized, other)

module _ (bytes : List ℕ) (long : enough ≤ length bytes) where
  cut_length : length (take enough bytes) ≡ enough
  cut_length = length-take-le enough bytes long

  cut_gates : gates_of (take enough bytes) ≡ gates_of bytes
  cut_gates = ap₂ (λ a b. a + 256 * b) (get_or-take enough bytes 0 0 (omega arith)) (get_or-take enough bytes 1 0 (omega arith))

  cut_records : records_of (take enough bytes) ≡ records_of bytes
  cut_records = ap₂ (λ a b. a + 256 * b) (get_or-take enough bytes 2 0 (omega arith)) (get_or-take enough bytes 3 0 (omega arith))

  cut_sizes : has_sizes (take enough bytes) ≡ has_sizes bytes
  cut_sizes =
      let some : leb sizes_length (length (take enough bytes)) ≡ leb sizes_length (length bytes) = grind (arith, nat_tests, cut_length) in
      ap₂ ◌&&◌ some (ap₂ are_sizes cut_gates cut_records)

  long_by : (b : Bool) → has_sizes bytes ≡ b → printed (take enough bytes) ≡ printed bytes
  long_by true sized =
      printed_refused (take enough bytes) BadLength (too_long (take enough bytes) (cut_sizes ∙ sized) (omega (arith, cut_length))) ∙ sym (printed_refused bytes BadLength (too_long bytes sized long))
  long_by false sized =
      printed_refused (take enough bytes) _ (bad_sizes (take enough bytes) (cut_sizes ∙ sized)) ∙ sym (printed_refused bytes _ (bad_sizes bytes sized))

pub printed_cut : (bytes : List ℕ) → printed (take enough bytes) ≡ printed bytes
printed_cut bytes =
    elim (cases_lt (length bytes) enough) [
      | inl short ↦ ap printed (take_all enough bytes (omega arith))
      | inr long ↦ long_by bytes long (has_sizes bytes) refl
    ]
