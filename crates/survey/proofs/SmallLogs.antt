-- A swim that obeys the first of the small logs. Assumes nothing.
use Rattle.std.proofs.Common.{◌≡◌, ℕ, zero, suc, ◌+◌, ◌<◌, ◌+ℤ◌, Some, Option, refl, subst, arith}
use Rattle.std.proofs.lemmas.Int.{ints}
use Rattle.tube.specs.Tubes.{In}
use Rattle.swimlog.specs.Format.{head_of, body_of}
use Rattle.swimlog.specs.Records.{kind_of}
use Rattle.swimlog.specs.declared.field.Head.{Head}
use Rattle.swimlog.specs.declared.field.Body.{Body}
use Rattle.swimlog.specs.declared.kind.Axis.{Axis}
use Rattle.swimlog.specs.declared.kind.Axis.TheVariants.{X, Y}
use Rattle.swimlog.specs.declared.kind.Kind.{Kind}
use Rattle.swimlog.specs.declared.kind.Kind.TheVariants.{Position, Step, Distance}
use Rattle.survey.specs.Examples.{small_log, small_position, small_step, small_swim}
use Rattle.survey.specs.Surveys.{widest}
use Rattle.survey.specs.Swims.{Agrees, Obeys}

-- a swim agrees with a record whose kind is known
known : (h : Head) (b : Body) (kind other : Kind) → ◌≡◌ {A = Option Kind} (Some kind) (Some other) → Agrees small_swim kind h b → Agrees small_swim other h b
known h b kind other same agrees = let e : kind ≡ other = cc in subst (λ k. Agrees small_swim k h b) e agrees

recorded : (j : ℕ) → j < 5 → (kind : Kind) → kind_of (head_of (small_log 6) j).kind (head_of (small_log 6) j).axis ≡ Some kind → Agrees small_swim kind (head_of (small_log 6) j) (body_of (small_log 6) 5 j)
recorded zero below kind k = known (head_of (small_log 6) 0) (body_of (small_log 6) 5 0) (Position X) kind k (record { above = omega (arith, ints); below = omega (arith, ints) })
recorded (suc zero) below kind k = known (head_of (small_log 6) 1) (body_of (small_log 6) 5 1) (Position Y) kind k (record { above = omega (arith, ints); below = omega (arith, ints) })
recorded (suc (suc zero)) below kind k = known (head_of (small_log 6) 2) (body_of (small_log 6) 5 2) (Step X) kind k (record { above = omega (arith, ints); below = omega (arith, ints) })
recorded (suc (suc (suc zero))) below kind k = known (head_of (small_log 6) 3) (body_of (small_log 6) 5 3) (Step Y) kind k (record { above = omega (arith, ints); below = omega (arith, ints) })
recorded (suc (suc (suc (suc zero)))) below kind k = known (head_of (small_log 6) 4) (body_of (small_log 6) 5 4) Distance kind k (record { above = omega (arith, ints); below = omega (arith, ints) })
recorded (suc (suc (suc (suc (suc j))))) below kind k = absurd (omega arith)

joined : (axis : Axis) (slice : ℕ) → slice + 1 < 2 → small_position axis (slice + 1) ≡ small_position axis slice +ℤ small_step axis slice
joined X zero h = refl
joined X (suc slice) h = absurd (omega arith)
joined Y slice h = refl

near : (axis : Axis) (gate : ℕ) → In widest (small_position axis gate)
near X zero = record { above = omega (arith, ints); below = omega (arith, ints) }
near X (suc gate) = record { above = omega (arith, ints); below = omega (arith, ints) }
near Y gate = record { above = omega (arith, ints); below = omega (arith, ints) }

near_steps : (axis : Axis) (slice : ℕ) → In widest (small_step axis slice)
near_steps X slice = record { above = omega (arith, ints); below = omega (arith, ints) }
near_steps Y slice = record { above = omega (arith, ints); below = omega (arith, ints) }

pub small_swim_obeys : Obeys (small_log 6) small_swim
small_swim_obeys = record { joined = joined; recorded = recorded; near = λ axis gate h. near axis gate; near_steps = λ axis slice h. near_steps axis slice }
