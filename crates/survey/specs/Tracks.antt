-- One contractor used once on a track, and what it leaves. Assumes nothing.
use Rattle.std.specs.Prelude.{◌≡◌, ℕ, List, length, Option}
use Rattle.tube.specs.declared.row.Row.{Row}
use Rattle.contractor.specs.Contractors.{Value}
use Rattle.contractor.specs.declared.answer.Answer.{Answer}
use Rattle.contractor.specs.declared.answer.Verdict.{Verdict}
use Rattle.contractor.specs.declared.answer.Verdict.TheVariants.{Kept, Empty}
use Rattle.track.specs.Refusals.{use_refusal}
use Rattle.track.specs.declared.refusal.TrackRefusal.{TrackRefusal}
use Rattle.track.specs.declared.standing.Proposal.{Proposal}

-- the calls that a survey may charge
abbrev pub survey_allowance : ℕ
survey_allowance = 1000000

-- a proposal on a new track: nothing is charged yet
pub record Fresh (cells : ℕ) (p : Proposal) : Type 0 where
  pub sized : p.account.cells ≡ cells
  pub allowed : p.account.allowance ≡ survey_allowance
  pub uncharged : p.account.charged ≡ 0

-- why the use would be refused on a new track over the table
abbrev pub first_refusal : Value → List Row → Option TrackRefusal
first_refusal v t = use_refusal (length t) survey_allowance 0 v t

-- the table that is left: the narrowed one, where it was kept, and else the one before
abbrev pub left_by : Verdict → (before narrowed : List Row) → List Row
left_by (Kept mark) before narrowed = narrowed
left_by (Empty fault) before narrowed = before

-- committed, where it was kept; closed, with the table as it was, where it was emptied
abbrev pub Ended : Value → (t t' : List Row) → Answer → Type 0
Ended v t t' a = ((v.narrowed t).answer ≡ a) × (t' ≡ left_by a.verdict t (v.narrowed t).tube)
