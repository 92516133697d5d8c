-- One proposal on a new track: what each of its calls leaves. Assumes nothing.
use Rattle.std.proofs.Common.{◌≡◌, ℕ, ◌+◌, List, true, length, None, Ok, Err, Result, sym, refl, ap, ◌∙◌, ap₂, arith}
use Rattle.std.proofs.lemmas.Bool.Decides.{nat_tests}
use Rattle.std.specs.Result.{IsOk}
use Rattle.tube.specs.Tubes.{is_tube}
use Rattle.tube.specs.declared.row.Row.{Row}
use Rattle.contractor.specs.Answers.{kept, emptied}
use Rattle.contractor.specs.Contractors.{Value, Keeps, Accepted, Fair}
use Rattle.contractor.specs.declared.answer.Answer.{Answer}
use Rattle.contractor.specs.declared.answer.Mark.{Mark}
use Rattle.contractor.specs.declared.answer.Verdict.{Verdict}
use Rattle.track.specs.Refusals.{make_refusal, copy_refusal}
use Rattle.track.specs.Standings.{Made, Proposing, Using}
use Rattle.track.specs.declared.answer.Refused.{Refused}
use Rattle.track.specs.declared.answer.Used.TheVariants.{Kept as used_kept, Emptied as used_emptied}
use Rattle.track.specs.declared.refusal.TrackRefusal.{TrackRefusal}
use Rattle.track.specs.declared.standing.Emptied.{Emptied}
use Rattle.track.specs.declared.standing.Proposal.{Proposal}
use Rattle.track.specs.declared.standing.Rest.{Rest}
use Rattle.track.proofs.Applying.{affordable}
use Rattle.survey.specs.Tracks.{survey_allowance, Fresh, first_refusal}

-- ---- making and proposing

pub makes : (first : List Row) (result : Result Rest TrackRefusal) → is_tube first ≡ true → Made first survey_allowance result → IsOk result
makes first (Ok r) tube made = refl
makes first (Err e) tube made =
    let none : make_refusal first survey_allowance ≡ None = cc in
    cc

module _ (first : List Row) (r : Rest) (made : Made first survey_allowance (Ok r)) where
  pub as_long : r.account.cells ≡ length first
  as_long = ap (λ s. s.cells) (made.1 first).3.1

  pub proposes : (w w' : List Row) (result : Result Proposal (Refused Rest)) → length w ≡ length first → Proposing r first w w' result → IsOk result
  proposes w w' (Ok p) same opened = refl
  proposes w w' (Err e) same refused =
      let sized = as_long in
      let none : copy_refusal r.account.cells first w ≡ None = grind (arith, nat_tests) in
      cc

  pub fresh : (w w' : List Row) (p : Proposal) → Proposing r first w w' (Ok p) → Fresh (length first) p
  fresh w w' p opened = record {
    sized = ap (λ s. s.cells) opened.1.3 ∙ as_long;
    allowed = ap (λ s. s.allowance) opened.1.3 ∙ ap (λ s. s.allowance) (made.1 first).3.1;
    uncharged = ap (λ s. s.charged) opened.1.3 ∙ ap (λ s. s.charged) (made.1 first).3.1;
  }

  pub copied : (w w' : List Row) (p : Proposal) → Proposing r first w w' (Ok p) → w' ≡ first
  copied w w' p opened = ap (λ s. s.work) opened.1.3

-- ---- using

module _ (v : Value) (t : List Row) (free : first_refusal v t ≡ None) where
  accepted : Accepted v t
  accepted = (affordable (length t) survey_allowance 0 v t free).accepted

  pub fair : Keeps v → Fair v t (v.narrowed t)
  fair keeps = keeps.fair t accepted

told : (a : Answer) (v : Verdict) (calls : ℕ) → a.verdict ≡ v → a.calls ≡ calls → a ≡ record { verdict = v; calls = calls }
told a v calls p q = let tell : Verdict → ℕ → Answer = λ x n. record { verdict = x; calls = n } in ap₂ tell p q

-- what is known before the use: nothing is charged, and the work table is the committed one
module _ (v : Value) {t w : List Row} {p : Proposal} (fresh : Fresh (length t) p) (copied : w ≡ t) (w' : List Row) where
  charge : (n : ℕ) → n ≡ p.account.charged + (v.narrowed w).answer.calls → (v.narrowed t).answer.calls ≡ n
  charge n e = omega (arith, ap (λ x. (v.narrowed x).answer.calls) copied, fresh.uncharged)

  module _ (q : Proposal) (m : Mark) (used : Using p v w w' (Ok (used_kept q m))) where
    pub kept_cells : q.account.cells ≡ length t
    kept_cells = ap (λ s. s.cells) (used.2 t).after ∙ fresh.sized

    pub kept_work : w' ≡ (v.narrowed t).tube
    kept_work = ap (λ s. s.work) (used.2 t).after ∙ ap (λ x. (v.narrowed x).tube) copied

    pub kept_answer : (v.narrowed t).answer ≡ kept m q.account.charged
    kept_answer = told _ _ _ (ap (λ x. (v.narrowed x).answer.verdict) (sym copied) ∙ used.1) (charge q.account.charged (ap (λ s. s.charged) (used.2 t).after))

  module _ (e : Emptied) (used : Using p v w w' (Ok (used_emptied e))) where
    pub emptied_answer : (v.narrowed t).answer ≡ emptied e.fault e.account.charged
    emptied_answer = told _ _ _ (ap (λ x. (v.narrowed x).answer.verdict) (sym copied) ∙ used.1) (charge e.account.charged (ap (λ s. s.charged) (used.2 t).after))
