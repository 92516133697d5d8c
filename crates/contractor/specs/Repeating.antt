-- A repetition keeps the meaning where its part does. Assumes nothing.
use Rattle.std.specs.Prelude.{◌≡◌, ℕ, zero, suc, ◌+◌, ◌-◌, ◌*◌, ◌<◌, ◌≤◌, Bool, true, false, List, length, Some, None, Option, refl}
use Rattle.std.proofs.Common.{sym, ap, subst, suc-mul, not-suc-le-zero, arith}
use Rattle.std.proofs.lemmas.Bool.Decides.{nat_tests}
use Rattle.tube.specs.declared.row.Row.{Row}
use Rattle.tube.proofs.Insides.{inside_same}
use Rattle.contractor.specs.Answers.{IsEmpty}
use Rattle.contractor.specs.Contractors.{Value, Narrowed, Accepted, Fair, Keeps}
use Rattle.contractor.specs.Counts.{is_count}
use Rattle.contractor.specs.Layers.{leaving}
use Rattle.contractor.specs.Refusals.{most_calls}
use Rattle.contractor.specs.Repetitions.{repeat_digit, same_rows, round_end, Round, ended_or, rounds, repeat}
use Rattle.contractor.specs.declared.answer.Answer.{Answer}
use Rattle.contractor.specs.declared.answer.Verdict.{Verdict}
use Rattle.contractor.specs.declared.answer.Verdict.TheVariants.{Kept, Empty}
use Rattle.contractor.specs.Accepting.{accepted_facts, accepted_from, accepted_inside}
use Rattle.contractor.specs.Layering.{passed_placed}
use Rattle.contractor.specs.Sequences.{Sound, sound_after, fair_from}

-- Rounds, however many are left, are sound. That they decide on a tube of one trajectory is the first round's doing.
module _ (v : Value) (height ceiling : ℕ) (lower : v.height < height) where
  round_sound : (x : Verdict) (same : Bool) (calls spent : ℕ) (t u : List Row) (rest : Narrowed) → spent ≤ ceiling → Fair v t (leaving (record { verdict = x; calls = calls }) u) → Sound v.relation height ceiling u rest → Sound v.relation height ceiling t (ended_or (round_end x spent same) u rest)
  round_sound (Kept mark) true calls spent t u rest few f s = record { tube = f.tube; inside = f.inside; loses_none = f.loses_none; calls = few; placed = tt }
  round_sound (Kept mark) false calls spent t u rest few f s = sound_after v.relation height ceiling t u rest f.inside (λ p l r. (f.loses_none p l r).0) s
  round_sound (Empty fault) same calls spent t u rest few f s = record {
    tube = f.tube;
    inside = f.inside;
    loses_none = f.loses_none;
    calls = few;
    placed = passed_placed repeat_digit _ _ (length t) fault (omega arith) lower f.placed;
  }

  rounds_sound : Keeps v → (left calls : ℕ) (t : List Row) → Accepted v t → calls + left * v.ceiling ≤ ceiling → Sound v.relation height ceiling t (rounds v left calls t)
  rounds_sound k zero calls t a few = record {
    tube = (accepted_facts v t a).tube;
    inside = inside_same t;
    loses_none = λ p l r. (l, tt);
    calls = omega arith;
    placed = tt;
  }
  rounds_sound k (suc left) calls t a few =
      let u : Narrowed = v.narrowed t in
      let f = k.fair t a in
      let product = suc-mul left v.ceiling in
      round_sound u.answer.verdict (same_rows t u.tube) u.answer.calls _ t u.tube _ (omega (arith, f.calls)) f
      (rounds_sound k left (calls + u.answer.calls) u.tube (accepted_inside v t u.tube a f.tube f.inside) (omega (arith, f.calls)))

round_empty : (x : Verdict) (same : Bool) (spent : ℕ) (u : List Row) (rest : Narrowed) → IsEmpty x → IsEmpty (ended_or (round_end x spent same) u rest).answer.verdict
round_empty (Kept mark) same spent u rest h = absurd h
round_empty (Empty fault) same spent u rest h = tt

-- the part of a repetition that is not refused: it is not refused either, and nothing was capped
pub record Part (r : ℕ) (v : Value) (t : List Row) : Type 0 where
  pub accepted : Accepted v t
  pub lower : v.height < (repeat r v).height
  pub calls : r * v.ceiling ≤ (repeat r v).ceiling

pub part : (r : ℕ) (v : Value) (t : List Row) → 1 ≤ r → Accepted (repeat r v) t → Part r v t
part zero v t some a = absurd (not-suc-le-zero some)
part (suc r) v t some a =
    let f = accepted_facts (repeat (suc r) v) t a in
    let product = suc-mul r v.ceiling in
    record {
      accepted = accepted_from v t (record { tube = f.tube; need = f.need; height = omega arith; ceiling = omega arith });
      lower = omega arith;
      calls = omega arith;
    }

repeat_fair : (r : ℕ) (v : Value) (t : List Row) → 1 ≤ r → Keeps v → Part r v t → Fair (repeat r v) t (rounds v r 0 t)
repeat_fair zero v t some k p = absurd (not-suc-le-zero some)
repeat_fair (suc r) v t some k p =
    let s = rounds_sound v (repeat (suc r) v).height (repeat (suc r) v).ceiling p.lower k (suc r) 0 t p.accepted (omega (arith, p.calls)) in
    fair_from (repeat (suc r) v) t (rounds v (suc r) 0 t) s
    (λ q one e. round_empty (v.narrowed t).answer.verdict (same_rows t (v.narrowed t).tube) _ _ _ ((k.fair t p.accepted).decides q one e))

pub repeat_keeps : (r : ℕ) (v : Value) → 1 ≤ r → Keeps v → Keeps (repeat r v)
repeat_keeps r v some k = record {
  fair = λ t a. repeat_fair r v t some k (part r v t some a);
  need = k.need;
  height = omega arith;
  ceiling = omega arith;
}

-- the same from the test of a count of rounds
pub counted_keeps : (r : ℕ) (v : Value) → is_count r ≡ true → Keeps v → Keeps (repeat r v)
counted_keeps r v counted k = repeat_keeps r v (grind (arith, nat_tests)) k

-- How far a repetition has come, which is the loop's invariant: the rounds left over make of the tube what all rounds make of the tube as it came in.
-- The part is the same value throughout, v as the use begins and current now.
pub record Going (r : ℕ) (v current : Value) (t u : List Row) (done calls : ℕ) : Type 0 where
  pub same : current ≡ v
  pub answer : rounds current (r - done) calls u ≡ rounds v r 0 t
  pub accepted : Accepted current u
  pub few : calls ≤ done * most_calls

pub going_none : (r : ℕ) (v : Value) (t : List Row) → 1 ≤ r → Accepted (repeat r v) t → Going r v v t t 0 0
going_none r v t some a =
    let all : r - 0 ≡ r = omega arith in
    record { same = refl; answer = ap (λ n. rounds v n 0 t) all; accepted = (part r v t some a).accepted; few = omega arith }

-- one more round, by the tube that it left, the calls so far, and its end or that it has none
module _ (r : ℕ) (v current : Value) (t u : List Row) (done calls : ℕ) (going : Going r v current t u done calls) (more : done < r) (left : List Row) (spent : ℕ) (end : Option Answer) (round : Round current u calls left spent end) where
  one_round : ended_or end left (rounds current (r - (done + 1)) spent left) ≡ rounds v r 0 t
  one_round =
      let fewer : r - done ≡ suc (r - (done + 1)) = omega arith in
      let answer = going.answer in
      let narrowed = round.narrowed in
      let counted = round.counted in
      let ended = round.ended in
      cc

  pub going_ended : (answer : Answer) → end ≡ Some answer → leaving answer left ≡ rounds v r 0 t
  going_ended answer is = let all = one_round in cc

  pub going_more : Keeps current → end ≡ None → (next : Value) → next ≡ current → Going r v next t left (done + 1) spent
  going_more k is next unchanged =
      let all = one_round in
      let f = k.fair u going.accepted in
      subst (λ w. Going r v w t left (done + 1) spent) (sym unchanged) (record {
        same = going.same;
        answer = cc;
        accepted = subst (Accepted current) (sym round.narrowed) (accepted_inside current u (current.narrowed u).tube going.accepted f.tube f.inside);
        few = omega (arith, going.few, round.counted, f.calls, (accepted_facts current u going.accepted).ceiling);
      })
