-- The run of a net: what it keeps, and what it does on a tube of one trajectory. Assumes nothing.
use Rattle.std.specs.Prelude.{◌≡◌, ℕ, zero, suc, ◌+◌, ◌≤◌, true, false, ◌&&◌, List, [], ◌∷◌, ◌++◌, length, refl}
use Rattle.std.proofs.Common.{sym, ap, subst, ◌∙◌, ⊎_elim, append-nil, not-suc-le-zero, le_of_suc-le-suc, add-zero, arith}
use Rattle.std.specs.List.{AllByRecursion}
use Rattle.std.proofs.lemmas.Bool.{true≢false, cases_Bool}
use Rattle.tube.specs.Tubes.{Trajectory, is_tube, Lies, Inside, single}
use Rattle.tube.specs.declared.row.Row.{Row}
use Rattle.tube.proofs.Insides.{inside_same, inside_trans, inside_length}
use Rattle.tube.proofs.Tables.{tube}
use Rattle.contractor.specs.Answers.{IsKept, IsEmpty, Placed}
use Rattle.contractor.specs.Contractors.{Narrowed, Fair}
use Rattle.contractor.specs.declared.answer.Fault.{Fault}
use Rattle.contractor.specs.declared.answer.Mark.{Mark}
use Rattle.contractor.specs.declared.answer.Mark.TheVariants.{Settled}
use Rattle.contractor.specs.declared.answer.Verdict.{Verdict}
use Rattle.contractor.specs.declared.answer.Verdict.TheVariants.{Kept, Empty}
use Rattle.net.specs.Nets.{Part, mentions, all_obeyed, narrower, greatest_need, joining, positions, at_position, kept_as, net_digit, empty_at, spun, Recorded}
use Rattle.net.specs.QueuesLemmas.{none_joining}
use Rattle.net.specs.Singles.{inside_single}
use Rattle.net.specs.UsesLemmas.{record_fair, Used, used}

-- one step of the run, where the record keeps the tube and where it empties
module _ (ks : List Part) (left i : ℕ) (q : List ℕ) (t : List Row) (calls : ℕ) where
  pub spun_kept : (m : Mark) → (at_position ks i t).answer.verdict ≡ Kept m → spun ks (suc left) (i ∷ q) t calls ≡ spun ks left (q ++ joining (mentions ks) 0 q (narrower t (at_position ks i t).tube)) (at_position ks i t).tube (calls + 1)
  spun_kept m e = cc

  pub spun_empty : (f : Fault) → (at_position ks i t).answer.verdict ≡ Empty f → spun ks (suc left) (i ∷ q) t calls ≡ empty_at net_digit f (calls + 1) (at_position ks i t).tube
  spun_empty f e = cc

-- where none waits the run is over, whatever is left of the allowance
pub spun_settled : (ks : List Part) (left : ℕ) (t : List Row) (calls : ℕ) → spun ks left [] t calls ≡ kept_as Settled calls t
spun_settled ks zero t calls = refl
spun_settled ks (suc left) t calls = refl

-- what a run from the tube t keeps, with `most` calls at most
pub record Ran (ks : List Part) (t : List Row) (most : ℕ) (u : Narrowed) : Type 0 where
  pub tube : is_tube u.tube ≡ true
  pub inside : Inside u.tube t
  pub loses_none : (p : Trajectory) → Lies t p → all_obeyed ks p ≡ true → Lies u.tube p × IsKept u.answer.verdict
  pub calls : u.answer.calls ≤ most
  pub placed : Placed 1 (length t) u.answer.verdict

after_use : (ks : List Part) (left i : ℕ) (q : List ℕ) (t : List Row) (calls : ℕ) (v : Verdict) → (at_position ks i t).answer.verdict ≡ v → Used ks t (at_position ks i t) → Ran ks (at_position ks i t).tube (calls + 1 + left) (spun ks left (q ++ joining (mentions ks) 0 q (narrower t (at_position ks i t).tube)) (at_position ks i t).tube (calls + 1)) → Ran ks t (calls + suc left) (spun ks (suc left) (i ∷ q) t calls)
after_use ks left i q t calls (Kept m) e this later =
    let u = at_position ks i t in
    let w = spun ks left (q ++ joining (mentions ks) 0 q (narrower t u.tube)) u.tube (calls + 1) in
    subst (Ran ks t (calls + suc left)) (sym (spun_kept ks left i q t calls m e)) (record {
      tube = later.tube;
      inside = inside_trans w.tube u.tube t later.inside this.inside;
      loses_none = λ p l o. later.loses_none p (this.loses_none p l o).0 o;
      calls = omega (arith, later.calls);
      placed = subst (λ n. Placed 1 n w.answer.verdict) (inside_length u.tube t this.inside) later.placed;
    })
after_use ks left i q t calls (Empty f) e this later =
    let u = at_position ks i t in
    let placed : Placed 0 (length t) (Empty f) = subst (Placed 0 (length t)) e this.placed in
    subst (Ran ks t (calls + suc left)) (sym (spun_empty ks left i q t calls f e)) (record {
      tube = this.tube;
      inside = this.inside;
      loses_none = λ p l o. absurd (subst IsKept e (this.loses_none p l o).1);
      calls = omega arith;
      placed = (omega (arith, placed.0), placed.1);
    })

pub ran : (ks : List Part) (left : ℕ) (q : List ℕ) (t : List Row) (calls : ℕ) → AllByRecursion Recorded ks → is_tube t ≡ true → greatest_need ks ≤ length t → Ran ks t (calls + left) (spun ks left q t calls)
ran ks zero q t calls r tube enough = record { tube = tube; inside = inside_same t; loses_none = λ p l o. (l, tt); calls = omega arith; placed = tt }
ran ks (suc left) [] t calls r tube enough = record { tube = tube; inside = inside_same t; loses_none = λ p l o. (l, tt); calls = omega arith; placed = tt }
ran ks (suc left) (i ∷ q) t calls r tube enough =
    let u = at_position ks i t in
    let this = used ks i t r tube enough in
    let enough_still : greatest_need ks ≤ length u.tube = omega (arith, inside_length u.tube t this.inside) in
    after_use ks left i q t calls u.answer.verdict refl this (ran ks left (q ++ joining (mentions ks) 0 q (narrower t u.tube)) u.tube (calls + 1) r this.tube enough_still)

-- `rest` is what the net has from position i on
abbrev pub From : List Part → ℕ → List Part → Type 0
From ks i rest = (j : ℕ) (t : List Row) → at_position ks (i + j) t ≡ at_position rest j t

pub from_next : (ks : List Part) (i : ℕ) (k : Part) (rest : List Part) → From ks i (k ∷ rest) → From ks (i + 1) rest
from_next ks i k rest h j t =
    let e : i + 1 + j ≡ i + suc j = omega arith in
    ap (λ n. at_position ks n t) e ∙ h (suc j) t

pub from_here : (ks : List Part) (i : ℕ) (k : Part) (rest : List Part) (t : List Row) → From ks i (k ∷ rest) → at_position ks i t ≡ k.value.narrowed t
from_here ks i k rest t h = ap (λ n. at_position ks n t) (sym (add-zero i)) ∙ h 0 t

pub from_start : (ks : List Part) → From ks 0 ks
from_start ks j t = let e : 0 + j ≡ j = omega arith in ap (λ n. at_position ks n t) e

-- a use that left the tube as it was makes none join
quiet : (ks : List Part) (left : ℕ) (q : List ℕ) (t u : List Row) (calls : ℕ) → u ≡ t → spun ks left (q ++ joining (mentions ks) 0 q (narrower t u)) u calls ≡ spun ks left q t calls
quiet ks left q t u calls e =
    let none = none_joining (mentions ks) 0 q t in
    let joined : q ++ joining (mentions ks) 0 q (narrower t t) ≡ q = ap (λ s. q ++ s) none ∙ append-nil q in
    ap (λ w. spun ks left (q ++ joining (mentions ks) 0 q (narrower t w)) w calls) e ∙ ap (λ s. spun ks left s t calls) joined

-- On a tube of one trajectory the records are used in order until one that the trajectory disobeys.
by_verdict : (ks : List Part) (k : Part) (rest : List Part) (i left calls : ℕ) (p : Trajectory) (v : Verdict) → at_position ks i (single p) ≡ k.value.narrowed (single p) → (k.value.narrowed (single p)).answer.verdict ≡ v → Fair k.value (single p) (k.value.narrowed (single p)) → all_obeyed (k ∷ rest) p ≡ false → (all_obeyed rest p ≡ false → IsEmpty (spun ks left (positions (i + 1) (length rest)) (single p) (calls + 1)).answer.verdict) → IsEmpty (spun ks (suc left) (i ∷ positions (i + 1) (length rest)) (single p) calls).answer.verdict
by_verdict ks k rest i left calls p (Kept m) here e fair o later =
    let t = single p in
    let q = positions (i + 1) (length rest) in
    let same : (at_position ks i t).tube ≡ t = ap (λ u. u.tube) here ∙ inside_single (k.value.narrowed t).tube p (tube (k.value.narrowed t).tube fair.tube).each fair.inside in
    let run = spun_kept ks left i q t calls m (ap (λ u. u.answer.verdict) here ∙ e) ∙ quiet ks left q t (at_position ks i t).tube (calls + 1) same in
    ⊎_elim
    (λ obeyed. subst (λ u. IsEmpty u.answer.verdict) (sym run) (later (sym (ap (λ b. b && all_obeyed rest p) obeyed) ∙ o)))
    (λ disobeyed. absurd (subst IsEmpty e (fair.decides p refl disobeyed)))
    (cases_Bool (k.value.relation p))
by_verdict ks k rest i left calls p (Empty f) here e fair o later =
    subst (λ u. IsEmpty u.answer.verdict) (sym (spun_empty ks left i (positions (i + 1) (length rest)) (single p) calls f (ap (λ u. u.answer.verdict) here ∙ e))) tt

pub first_pass : (ks rest : List Part) (i left calls : ℕ) (p : Trajectory) → From ks i rest → AllByRecursion Recorded rest → is_tube (single p) ≡ true → greatest_need rest ≤ length (single p) → length rest ≤ left → all_obeyed rest p ≡ false → IsEmpty (spun ks left (positions i (length rest)) (single p) calls).answer.verdict
first_pass ks [] i left calls p from r tube enough fuel o = absurd (true≢false o)
first_pass ks (k ∷ rest) i zero calls p from r tube enough fuel o = absurd (not-suc-le-zero fuel)
first_pass ks (k ∷ rest) i (suc left) calls p from r tube enough fuel o =
    let t = single p in
    let fair = record_fair k t r.0 tube (omega arith) in
    by_verdict ks k rest i left calls p (k.value.narrowed t).answer.verdict (from_here ks i k rest t from) refl fair o
    (λ more. first_pass ks rest (i + 1) left (calls + 1) p (from_next ks i k rest from) r.1 tube (omega arith) (le_of_suc-le-suc fuel) more)
