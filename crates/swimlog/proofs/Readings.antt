-- What a field that was read tells, and a record that stands in the bytes whole. Assumes nothing.
use Rattle.std.proofs.Common.{◌≡◌, ℕ, ◌+◌, ◌≤◌, Bool, true, false, cond, leb, List, length, Ok, Err, Result, sym, ap, ◌∙◌, subst, arith}
use Rattle.std.proofs.lemmas.Bool.Decides.{nat_tests}
use Rattle.constraint.specs.declared.constraint.Constraint.{Constraint}
use Rattle.swimlog.specs.Format.{body_length, body_start, head_of, body_of, field}
use Rattle.swimlog.specs.Logs.{record_of, record_in}
use Rattle.swimlog.specs.Records.{Reads, record_constraint, record_says}
use Rattle.swimlog.specs.declared.fault.RecordFault.{RecordFault}
use Rattle.swimlog.specs.declared.fault.RecordFault.TheVariants.{CutOff}
use Rattle.swimlog.specs.declared.fault.FieldFault.{FieldFault}
use Rattle.swimlog.specs.declared.fault.FieldFault.TheVariants.{CutOff as cut_off}
use Rattle.swimlog.specs.declared.field.Head.{Head}
use Rattle.swimlog.specs.declared.field.Body.{Body}

ok_by_test : {X : Type 0} (b : Bool) (value v : X) → ◌≡◌ {A = Result X FieldFault} (Ok v) (cond b (Ok value) (Err cut_off)) → (b ≡ true) × (v ≡ value)
ok_by_test true value v e = (grind arith, cc)
ok_by_test false value v e = let z : ◌≡◌ {A = ℕ} 0 1 = cc in absurd (omega arith)

pub field_read : {X : Type 0} (bytes : List ℕ) (end : ℕ) (value v : X) → Ok v ≡ field bytes end value → (end ≤ length bytes) × (v ≡ value)
field_read bytes end value v e = let k = ok_by_test (leb end (length bytes)) value v e in let whole : leb end (length bytes) ≡ true = k.0 in (grind (arith, nat_tests), k.1)

module _ (bytes : List ℕ) (gates records index : ℕ) (whole : body_start records index + body_length ≤ length bytes) where
  pub whole_record : record_in bytes gates records index ≡ record_of bytes gates records index
  whole_record =
      let t : leb (body_start records index + body_length) (length bytes) ≡ true = grind (arith, nat_tests) in
      ap (λ b. cond b (record_of bytes gates records index) (Err CutOff)) t

  pub reads_parts : (r : Result Constraint RecordFault) (number : ℕ) (h : Head) (b : Body) → number ≡ record_constraint gates index → h ≡ head_of bytes index → b ≡ body_of bytes records index → Reads (record_says gates number h b) r → Reads (record_in bytes gates records index) r
  reads_parts r number h b n p q e =
      let by_number : record_says gates number h b ≡ record_says gates (record_constraint gates index) h b = ap (λ x. record_says gates x h b) n in
      let by_head : record_says gates (record_constraint gates index) h b ≡ record_says gates (record_constraint gates index) (head_of bytes index) b = ap (λ x. record_says gates (record_constraint gates index) x b) p in
      let by_body : record_says gates (record_constraint gates index) (head_of bytes index) b ≡ record_of bytes gates records index = ap (λ x. record_says gates (record_constraint gates index) (head_of bytes index) x) q in
      subst (λ said. Reads said r) (by_number ∙ by_head ∙ by_body ∙ sym whole_record) e
