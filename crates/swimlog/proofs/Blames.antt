-- A fault of a log names a record of the log, and holds the refusal of a value if it holds any. Assumes nothing.
use Rattle.std.proofs.Common.{◌≡◌, ℕ, zero, suc, ◌+◌, ◌-◌, ◌*◌, ◌<◌, ◌≤◌, Bool, true, false, cond, not, eqb, List, length, ℤ, Some, None, Ok, Err, Option, Result, sym, refl, ap, subst, arith}
use Rattle.std.proofs.lemmas.Bool.Decides.{nat_tests}
use Rattle.std.specs.Option.{option_or}
use Rattle.tube.specs.Faults.{number_of as making_number}
use Rattle.tube.specs.Spans.{spans}
use Rattle.tube.specs.declared.fault.MakingFault.{MakingFault}
use Rattle.tube.specs.declared.fault.MakingFault.TheVariants.{BadValue as bad_value}
use Rattle.constraint.specs.Makings.{is_cell, are_range_values, bound_fault, range_fault}
use Rattle.swimlog.specs.Format.{gates_of, records_of, log_length, head_of, body_of}
use Rattle.swimlog.specs.Logs.{record_of, record_fault, in_record, earliest_fault, has_sizes, log_fault, Plain, Blames}
use Rattle.swimlog.specs.Records.{Said, said_fault, if_makeable, made, says, kind_of, places, is_placed, record_constraint, if_known}
use Rattle.swimlog.specs.declared.fault.LogFault.{LogFault}
use Rattle.swimlog.specs.declared.fault.LogFault.TheVariants.{BadSizes, BadLength, InRecord}
use Rattle.swimlog.specs.declared.fault.RecordFault.{RecordFault}
use Rattle.swimlog.specs.declared.fault.RecordFault.TheVariants.{UnknownKind, BadPlace, BadValue}
use Rattle.swimlog.specs.declared.field.Head.{Head}
use Rattle.swimlog.specs.declared.field.Body.{Body}
use Rattle.swimlog.specs.declared.kind.Axis.TheVariants.{X, Y}
use Rattle.swimlog.specs.declared.kind.Kind.{Kind}
use Rattle.swimlog.specs.declared.kind.Kind.TheVariants.{Position, Step, Distance}

-- ---- making

of_value : (b : Bool) (e : MakingFault) → cond (not b) (Some bad_value) None ≡ Some e → making_number e ≡ 3
of_value true e f = let z : ◌≡◌ {A = ℕ} 0 1 = cc in absurd (omega arith)
of_value false e f = let same : bad_value ≡ e = cc in ap making_number (sym same)

bound_value : (c : ℕ) (low high : ℤ) (e : MakingFault) → c ≤ 511 → bound_fault c low high ≡ Some e → making_number e ≡ 3
bound_value c low high e small f =
    let t : is_cell c ≡ true = grind (arith, nat_tests) in
    of_value (spans low high) e (rw t at f)

range_value : (x y : ℕ) (bx by r R : ℤ) (e : MakingFault) → x ≤ 511 → y ≤ 511 → x < y → range_fault x y bx by r R ≡ Some e → making_number e ≡ 3
range_value x y bx by r R e small tiny apart f =
    let s : is_cell x ≡ true = grind (arith, nat_tests) in
    let t : is_cell y ≡ true = grind (arith, nat_tests) in
    let u : eqb x y ≡ false = grind (arith, nat_tests) in
    of_value (are_range_values bx by r R) e (rw (s, t, u) at f)

if_makeable_plain : (said : Said) (o : Option MakingFault) (f : RecordFault) → ((e : MakingFault) → o ≡ Some e → making_number e ≡ 3) → if_makeable said o ≡ Err f → Plain f
if_makeable_plain said (Some e) f by_value refused = let same : BadValue e ≡ f = cc in subst Plain same (by_value e refl)
if_makeable_plain said None f by_value refused = let z : ◌≡◌ {A = ℕ} 0 1 = cc in absurd (omega arith)

-- ---- records

module _ (gates number : ℕ) (h : Head) (b : Body) (few : gates ≤ 128) where
  -- the cells of a record that has its place are cells of a tube, and differ
  says_value : (kind : Kind) → h.p < places gates kind → (e : MakingFault) → said_fault (says gates number kind h b) ≡ Some e → making_number e ≡ 3
  says_value (Position X) placed e f = bound_value h.p b.b0 b.b1 e (omega arith) f
  says_value (Position Y) placed e f = bound_value (gates + h.p) b.b0 b.b1 e (omega arith) f
  says_value (Step X) placed e f = bound_value (2 * gates + h.p) b.b0 b.b1 e (omega arith) f
  says_value (Step Y) placed e f = bound_value (3 * gates - 1 + h.p) b.b0 b.b1 e (omega arith) f
  says_value Distance placed e f = range_value h.p (gates + h.p) b.b0 b.b1 b.b2 b.b3 e (omega arith) (omega arith) (omega arith) f

  by_place : (kind : Kind) (placed : Bool) (f : RecordFault) → is_placed gates kind h b ≡ placed → cond placed (made (says gates number kind h b)) (Err BadPlace) ≡ Err f → Plain f
  by_place kind true f placed refused =
      let within : h.p < places gates kind = grind (arith, nat_tests) in
      if_makeable_plain (says gates number kind h b) (said_fault (says gates number kind h b)) f (says_value kind within) refused
  by_place kind false f placed refused = let same : BadPlace ≡ f = cc in subst Plain same tt

  by_kind : (kind : Option Kind) (f : RecordFault) → if_known gates number kind h b ≡ Err f → Plain f
  by_kind (Some kind) f refused = by_place kind (is_placed gates kind h b) f refl refused
  by_kind None f refused = let same : UnknownKind ≡ f = cc in subst Plain same tt

-- ---- logs

some_by : (i : ℕ) (o : Result Said RecordFault) (e : LogFault) → in_record i o ≡ Some e → (f : RecordFault) × (o ≡ Err f) × (e ≡ InRecord (record { index = i; fault = f }))
some_by i (Ok said) e found = let z : ◌≡◌ {A = ℕ} 0 1 = cc in absurd (omega arith)
some_by i (Err f) e found = (f, refl, cc)

module _ (bytes : List ℕ) (gates records : ℕ) where
  Found : (count : ℕ) (e : LogFault) → Type 0
  Found count e = (i : ℕ) × (i < count) × (record_fault bytes gates records i ≡ Some e)

  either_found : (count : ℕ) (e : LogFault) (o : Option LogFault) → (o ≡ Some e → Found count e) → option_or o (record_fault bytes gates records count) ≡ Some e → Found (suc count) e
  unfolding Found
  either_found count e (Some f) before found = let k = before found in (k.0, omega (arith, k.1), k.2)
  either_found count e None before found = (count, omega arith, found)

  -- a fault that was found is that of one of the records
  earliest_some : (count : ℕ) (e : LogFault) → earliest_fault bytes gates records count ≡ Some e → Found count e
  earliest_some zero e found = let z : ◌≡◌ {A = ℕ} 0 1 = cc in absurd (omega arith)
  earliest_some (suc count) e found = either_found count e (earliest_fault bytes gates records count) (earliest_some count e) found

module _ (bytes : List ℕ) (gates records : ℕ) (few : gates ≤ 128) (same : records ≡ records_of bytes) where
  blames_record : (e : LogFault) → earliest_fault bytes gates records records ≡ Some e → Blames bytes e
  unfolding Found
  blames_record e found =
      let k = earliest_some bytes gates records records e found in
      let s = some_by k.0 (record_of bytes gates records k.0) e k.2 in
      subst (Blames bytes) (sym s.2)
      (omega (arith, k.1), by_kind gates (record_constraint gates k.0) (head_of bytes k.0) (body_of bytes records k.0) few (kind_of (head_of bytes k.0).kind (head_of bytes k.0).axis) s.0 s.1)

by_tests : (bytes : List ℕ) (sized long : Bool) (later : Option LogFault) (e : LogFault) → (sized ≡ true → later ≡ Some e → Blames bytes e) → cond (not sized) (Some BadSizes) (cond (not long) (Some BadLength) later) ≡ Some e → Blames bytes e
by_tests bytes true true later e by_record found = by_record refl found
by_tests bytes true false later e by_record found = let same : BadLength ≡ e = cc in subst (Blames bytes) same tt
by_tests bytes false long later e by_record found = let same : BadSizes ≡ e = cc in subst (Blames bytes) same tt

pub blames : (bytes : List ℕ) (e : LogFault) → log_fault bytes ≡ Some e → Blames bytes e
unfolding log_fault
blames bytes e found =
    by_tests bytes (has_sizes bytes) (eqb (length bytes) (log_length (records_of bytes))) (earliest_fault bytes (gates_of bytes) (records_of bytes) (records_of bytes)) e
    (λ sized later. let few : gates_of bytes ≤ 128 = grind (arith, nat_tests) in blames_record bytes (gates_of bytes) (records_of bytes) few refl e later) found
