-- A use that is not refused is one step of a history. Assumes nothing.
use Rattle.std.proofs.Common.{◌≡◌, ℕ, ◌+◌, ◌≤◌, List, length, Some, None, Option, sym, refl, ap, subst, arith}
use Rattle.std.proofs.lemmas.Bool.Decides.{nat_tests}
use Rattle.tube.specs.declared.row.Row.{Row}
use Rattle.contractor.specs.Contractors.{Value, Narrowed, Keeps, Accepted, refusal}
use Rattle.contractor.specs.declared.answer.Answer.{Answer}
use Rattle.contractor.specs.declared.answer.Verdict.{Verdict}
use Rattle.contractor.specs.declared.refusal.UseRefusal.{UseRefusal}
use Rattle.track.specs.Histories.{proposing, standing_after, Uses}
use Rattle.track.specs.Refusals.{afford_refusal, first_of, use_refusal}
use Rattle.track.specs.Standings.{stands_at, refusal_with, one_use}
use Rattle.track.specs.declared.account.Account.{Account}
use Rattle.track.specs.declared.refusal.TrackRefusal.{TrackRefusal}

-- what a use that is not refused has
pub record Affordable (cells allowance charged : ℕ) (v : Value) (w : List Row) : Type 0 where
  pub accepted : Accepted v w
  pub sized : length w ≡ cells
  pub afforded : charged + v.ceiling ≤ allowance

first_none : (o : Option UseRefusal) (later : Option TrackRefusal) → first_of o later ≡ None → (o ≡ None) × (later ≡ None)
first_none (Some e) later h = cc
first_none None later h = (refl, h)

pub affordable : (cells allowance charged : ℕ) (v : Value) (w : List Row) → use_refusal cells allowance charged v w ≡ None → Affordable cells allowance charged v w
affordable cells allowance charged v w h =
    let k = first_none (refusal v w) (afford_refusal cells allowance charged v.ceiling w) h in
    let later = k.1 in
    record { accepted = record { free = k.0 }; sized = grind (arith, nat_tests, later); afforded = grind (arith, nat_tests, later) }

module _ (a : Account) {v : Value} {w w' : List Row} {r : Answer} (keeps : Keeps v) (free : None ≡ refusal_with a v w) (answered : ◌≡◌ {A = Narrowed} (record { answer = r; tube = w' }) (v.narrowed w)) where
  granted : Affordable a.cells a.allowance a.charged v w
  granted = affordable a.cells a.allowance a.charged v w (sym free)

  -- the ceiling is left of the allowance, and no more than it is charged
  pub afforded : (a.charged + v.ceiling ≤ a.allowance) × (r.calls ≤ v.ceiling)
  afforded = (granted.afforded, subst (λ u. u.answer.calls ≤ v.ceiling) (sym answered) (keeps.fair w granted.accepted).calls)

  -- by the verdict d, with the calls charged
  pub used_from : (b : Account) → b.cells ≡ a.cells → b.allowance ≡ a.allowance → b.charged ≡ a.charged + r.calls → (d : Verdict) → r.verdict ≡ d → (refusal_with a v w ≡ None) × ((v.narrowed w).answer.verdict ≡ d) × ((c : List Row) → Uses (stands_at a proposing c w) (one_use v w) (stands_at b (standing_after d) c w'))
  used_from b cells allowance charged d verdict =
      let calls = ap (λ u. u.answer.calls) answered in
      let told = ap (λ u. u.answer.verdict) answered in
      let tube = ap (λ u. u.tube) answered in (
        sym free,
        cc,
        λ c. record {
          keeps = keeps;
          standing = refl;
          sized = granted.sized;
          on = refl;
          accepted = granted.accepted;
          afforded = granted.afforded;
          answered = refl;
          after = cc;
        },
      )
