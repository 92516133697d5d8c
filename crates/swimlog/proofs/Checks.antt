-- From the parts of a check to the fault of the whole log. Assumes nothing.
use Rattle.std.proofs.Common.{◌≡◌, ℕ, ◌+◌, ◌<◌, true, false, eqb, leb, List, length, IfErr, IsOk, MatchResult, Some, None, Ok, Err, Option, Result, sym, refl, ap, ◌∙◌, subst, add-one, arith}
use Rattle.std.proofs.lemmas.Bool.Decides.{nat_tests}
use Rattle.constraint.specs.declared.constraint.Constraint.{Constraint}
use Rattle.swimlog.specs.Format.{sizes_length, gates_of, records_of, log_length}
use Rattle.swimlog.specs.Limits.{are_sizes}
use Rattle.swimlog.specs.Logs.{record_fault, earliest_fault, has_sizes, log_fault, record_of, record_in, in_record, numbered, Sized, Checked, Blames}
use Rattle.swimlog.specs.Records.{Said, Reads}
use Rattle.swimlog.specs.declared.fault.LogFault.{LogFault}
use Rattle.swimlog.specs.declared.fault.LogFault.TheVariants.{BadSizes, BadLength}
use Rattle.swimlog.specs.declared.fault.RecordFault.{RecordFault}
use Rattle.swimlog.specs.declared.log.Log.{Log}
use Rattle.swimlog.specs.declared.sizes.Sizes.{Sizes}
use Rattle.swimlog.proofs.Blames.{blames}
use Rattle.swimlog.proofs.Earliest.{earliest_found, none_earlier}
use Rattle.swimlog.proofs.Readings.{whole_record}

pub bad_sizes : (bytes : List ℕ) → has_sizes bytes ≡ false → log_fault bytes ≡ Some BadSizes
unfolding log_fault
bad_sizes bytes e = rw e

pub bad_length : (bytes : List ℕ) (sizes : Sizes) → has_sizes bytes ≡ true → Sized bytes sizes → (length bytes ≡ log_length sizes.records → ⊥) → log_fault bytes ≡ Some BadLength
unfolding log_fault
bad_length bytes sizes sized same other =
    let same_records = same.same_records in
    let long : eqb (length bytes) (log_length (records_of bytes)) ≡ false = grind (arith, nat_tests) in
    rw (sized, long)

-- ---- a record's fault, by what reading it answered

read_if_good : (i : ℕ) (o : Result Said RecordFault) (r : Result Constraint RecordFault) → in_record i o ≡ None → Reads o r → IsOk r
read_if_good i o (Ok k) none read = refl
read_if_good i (Ok said) (Err e) none read = absurd read
read_if_good i (Err f) (Err e) none read = let z : ◌≡◌ {A = ℕ} 0 1 = cc in absurd (omega arith)

pub good_if_read : (i : ℕ) (o : Result Said RecordFault) (r : Result Constraint RecordFault) (k : Constraint) → Reads o r → numbered i r ≡ Ok k → None ≡ in_record i o
good_if_read i (Ok said) r k read ok = refl
good_if_read i (Err f) (Ok l) k read ok = absurd read
good_if_read i (Err f) (Err e) k read ok = let z : ◌≡◌ {A = ℕ} 0 1 = cc in absurd (omega arith)

-- ---- a log of the length that its sizes ask for

past_length : (bytes : List ℕ) (gates records : ℕ) → are_sizes gates records ≡ true → gates ≡ gates_of bytes → records ≡ records_of bytes → length bytes ≡ log_length records → log_fault bytes ≡ earliest_fault bytes gates records records
unfolding log_fault
past_length bytes gates records limited same_gates same_records whole =
    let within : are_sizes (gates_of bytes) (records_of bytes) ≡ true = rw (← same_gates, ← same_records) limited in
    let told : leb sizes_length (length bytes) ≡ true = grind (arith, nat_tests) in
    let long : eqb (length bytes) (log_length (records_of bytes)) ≡ true = grind (arith, nat_tests) in
    rw (told, within, long, same_gates, same_records)

module _ (log : Log) where
  by_records : log_fault log.bytes.now ≡ earliest_fault log.bytes.now log.sizes.gates log.sizes.records log.sizes.records
  by_records = past_length log.bytes.now log.sizes.gates log.sizes.records log.sizes.limited log.sized.same_gates log.sized.same_records log.whole

  pub all_good : earliest_fault log.bytes.now log.sizes.gates log.sizes.records log.sizes.records ≡ None → log_fault log.bytes.now ≡ None
  all_good none = by_records ∙ none

  module _ (i : ℕ) (below : i < log.sizes.records) where
    stands_whole : record_in log.bytes.now log.sizes.gates log.sizes.records i ≡ record_of log.bytes.now log.sizes.gates log.sizes.records i
    stands_whole = let whole = log.whole in whole_record log.bytes.now log.sizes.gates log.sizes.records i (omega arith)

    as_record_fault : (o : Option LogFault) → o ≡ in_record i (record_in log.bytes.now log.sizes.gates log.sizes.records i) → record_fault log.bytes.now log.sizes.gates log.sizes.records i ≡ o
    as_record_fault o e = sym (e ∙ ap (in_record i) stands_whole)

    pub none_more : earliest_fault log.bytes.now log.sizes.gates log.sizes.records i ≡ None → None ≡ in_record i (record_in log.bytes.now log.sizes.gates log.sizes.records i) → earliest_fault log.bytes.now log.sizes.gates log.sizes.records (i + 1) ≡ None
    none_more none good = let here = as_record_fault None good in rw (add-one, none, here)

    pub bad_record : (e : LogFault) → earliest_fault log.bytes.now log.sizes.gates log.sizes.records i ≡ None → Some e ≡ in_record i (record_in log.bytes.now log.sizes.gates log.sizes.records i) → log_fault log.bytes.now ≡ Some e
    bad_record e none here = by_records ∙ earliest_found log.bytes.now log.sizes.gates log.sizes.records i log.sizes.records e below none (as_record_fault (Some e) here)

    pub reads_whole : (r : Result Constraint RecordFault) → Reads (record_in log.bytes.now log.sizes.gates log.sizes.records i) r → Reads (record_of log.bytes.now log.sizes.gates log.sizes.records i) r
    reads_whole r read = subst (λ said. Reads said r) stands_whole read

    pub always_read : log_fault log.bytes.now ≡ None → (r : Result Constraint RecordFault) → Reads (record_in log.bytes.now log.sizes.gates log.sizes.records i) r → IsOk r
    always_read sound r read =
        read_if_good i (record_of log.bytes.now log.sizes.gates log.sizes.records i) r
        (none_earlier log.bytes.now log.sizes.gates log.sizes.records log.sizes.records i (sym by_records ∙ sound) below) (reads_whole r read)

pub refused_by : {X : Type 0} (P : X → Type 0) (bytes : List ℕ) (r : Result X LogFault) (e f : LogFault) → r ≡ Err f → f ≡ e → log_fault bytes ≡ Some e → MatchResult r P (λ g. log_fault bytes ≡ Some g)
refused_by P bytes r e f refused same fault = subst (λ s. MatchResult s P (λ g. log_fault bytes ≡ Some g)) (sym refused) (fault ∙ ap Some (sym same))

pub checked_refused : (bytes : List ℕ) (r : Result Sizes LogFault) (e f : LogFault) → r ≡ Err f → f ≡ e → log_fault bytes ≡ Some e → Checked bytes r
checked_refused bytes r e f refused same fault = subst (Checked bytes) (sym refused) (fault ∙ ap Some (sym same))

pub checked_blames : (bytes : List ℕ) (r : Result Sizes LogFault) → Checked bytes r → IfErr r (Blames bytes)
checked_blames bytes (Ok sizes) h = tt
checked_blames bytes (Err e) h = blames bytes e h
