-- One more record in a net, and what the net then says. Assumes nothing.
use Rattle.std.proofs.Common.{◌≡◌, ℕ, zero, suc, ◌+◌, ◌≤◌, List, [], ◌∷◌, ◌++◌, length, Ok, Err, Result, sym, refl, ap, ◌∙◌, subst, append_assoc, add-one, arith}
use Rattle.std.proofs.lemmas.List.{length-map, length-append, length_push}
use Rattle.constraint.specs.declared.constraint.Constraint.{Constraint}
use Rattle.constraint.specs.declared.constraint.Constraint.TheVariants.{Bound as of_bound, Step as of_step, Range as of_range}
use Rattle.net.specs.Records.{records}
use Rattle.net.specs.declared.net.Net.{Net}
use Rattle.swimlog.specs.Fillings.{said_of, sayings, axis_steps, to_first, to_second, added, Grown}
use Rattle.swimlog.specs.Format.{gates_of, records_of}
use Rattle.swimlog.specs.Logs.{record_of}
use Rattle.swimlog.specs.Records.{Said, bounds, steps, ranges, slice_step, Is, Reads}
use Rattle.swimlog.specs.declared.fault.RecordFault.{RecordFault}
use Rattle.swimlog.specs.declared.kind.Axis.{Axis}
use Rattle.swimlog.specs.declared.log.Log.{Log}

-- a constraint that is what was said says it
pub is_said : (s : Said) (k : Constraint) → Is s k → said_of k ≡ s
is_said (bounds number cell low high) (of_bound k) i = cc
is_said (bounds number cell low high) (of_step k) i = absurd i
is_said (bounds number cell low high) (of_range k) i = absurd i
is_said (steps number from by to) (of_bound k) i = absurd i
is_said (steps number from by to) (of_step k) i = cc
is_said (steps number from by to) (of_range k) i = absurd i
is_said (ranges number x y beacon_x beacon_y nearest farthest) (of_bound k) i = absurd i
is_said (ranges number x y beacon_x beacon_y nearest farthest) (of_step k) i = absurd i
is_said (ranges number x y beacon_x beacon_y nearest farthest) (of_range k) i = cc

pub read_says : (o : Result Said RecordFault) (k : Constraint) → Reads o (Ok k) → o ≡ Ok (said_of k)
read_says (Ok s) k i = ap Ok (sym (is_said s k i))
read_says (Err e) k i = absurd i

-- as many records as sayings
pub how_many : (n : Net) → length (records n) ≡ length (sayings n)
how_many n = sym (length-map (records n) said_of)

pub grown_count : (more : List Said) (before after : Net) → Grown more before after → length (records after) ≡ length (records before) + length more
grown_count more before after g = how_many after ∙ ap length g.says ∙ length-append (sayings before) more ∙ ap (λ n. n + length more) (sym (how_many before))

-- one addition after another
pub grown_more : (first second : List Said) (a b c : Net) → Grown first a b → Grown second b c → Grown (first ++ second) a c
grown_more first second a b c g h = record {
  says = h.says ∙ ap (λ l. l ++ second) g.says ∙ append_assoc (sayings a) first second;
  rounds = h.rounds ∙ g.rounds;
}

pub grown_as : (more other : List Said) (a b : Net) → more ≡ other → Grown more a b → Grown other a b
grown_as more other a b same g = subst (λ l. Grown l a b) same g

pub axis_steps_count : (gates : ℕ) (axis : Axis) (count : ℕ) → length (axis_steps gates axis count) ≡ count
axis_steps_count gates axis zero = refl
axis_steps_count gates axis (suc count) = length_push (axis_steps gates axis count) (slice_step gates axis count) ∙ ap (λ n. n + 1) (axis_steps_count gates axis count) ∙ add-one count

pub steps_more : (gates : ℕ) (axis : Axis) (i : ℕ) (k : Constraint) → Is (slice_step gates axis i) k → axis_steps gates axis i ++ said_of k ∷ [] ≡ axis_steps gates axis (i + 1)
steps_more gates axis i k is = rw (add-one, is_said (slice_step gates axis i) k is)

module _ (add : Result Said RecordFault → List Said) (bytes : List ℕ) (gates records : ℕ) where
  pub added_more : (i : ℕ) (k : Constraint) → Reads (record_of bytes gates records i) (Ok k) → added add bytes gates records i ++ add (Ok (said_of k)) ≡ added add bytes gates records (i + 1)
  added_more i k is =
      let same : add (Ok (said_of k)) ≡ add (record_of bytes gates records i) = ap add (sym (read_says (record_of bytes gates records i) k is)) in
      rw (add-one, same)

-- what the records of a log add, by the bytes that it holds
added_as : (add : Result Said RecordFault → List Said) (held bytes : List ℕ) (gates records : ℕ) → held ≡ bytes → gates ≡ gates_of held → records ≡ records_of held → added add held gates records records ≡ added add bytes (gates_of bytes) (records_of bytes) (records_of bytes)
added_as add held bytes gates records same same_gates same_records = rw (same_gates, same_records, same)

pub added_same : (add : Result Said RecordFault → List Said) (log : Log) (bytes : List ℕ) → log.bytes.now ≡ bytes → added add log.bytes.now log.sizes.gates log.sizes.records log.sizes.records ≡ added add bytes (gates_of bytes) (records_of bytes) (records_of bytes)
added_same add log bytes same = added_as add log.bytes.now bytes log.sizes.gates log.sizes.records same log.sized.same_gates log.sized.same_records

-- a record adds at most one to either net
pub to_first_few : (o : Result Said RecordFault) → length (to_first o) ≤ 1
to_first_few (Ok (bounds number cell low high)) = omega arith
to_first_few (Ok (steps number from by to)) = omega arith
to_first_few (Ok (ranges number x y beacon_x beacon_y nearest farthest)) = omega arith
to_first_few (Err e) = omega arith

pub to_second_few : (o : Result Said RecordFault) → length (to_second o) ≤ 1
to_second_few (Ok (bounds number cell low high)) = omega arith
to_second_few (Ok (steps number from by to)) = omega arith
to_second_few (Ok (ranges number x y beacon_x beacon_y nearest farthest)) = omega arith
to_second_few (Err e) = omega arith
