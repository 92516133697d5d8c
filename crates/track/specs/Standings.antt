-- The standings of a track as states of its history, and what each call answers. Assumes nothing.
use Rattle.std.specs.Prelude.{◌≡◌, ℕ, List, [], Some, None, Option, Ok, Err, Result}
use Rattle.tube.specs.declared.row.Row.{Row}
use Rattle.contractor.specs.Contractors.{Value}
use Rattle.contractor.specs.declared.answer.Fault.{Fault}
use Rattle.contractor.specs.declared.answer.Verdict.TheVariants.{Kept as kept, Empty as empty}
use Rattle.net.specs.Piles.{PilesKeep}
use Rattle.track.specs.Histories.{Standing, State, resting, proposing, emptied, Use, refused, proposed, used, committed, withdrawn, closed, Next, History, HistoriesKeep}
use Rattle.track.specs.Refusals.{make_refusal, copy_refusal, use_refusal}
use Rattle.track.specs.declared.account.Account.{Account}
use Rattle.track.specs.declared.refusal.TrackRefusal.{TrackRefusal}
use Rattle.track.specs.declared.standing.Rest.{Rest}
use Rattle.track.specs.declared.standing.Proposal.{Proposal}
use Rattle.track.specs.declared.standing.Emptied.{Emptied}
use Rattle.track.specs.declared.answer.Refused.{Refused}
use Rattle.track.specs.declared.answer.Used.{Used}
use Rattle.track.specs.declared.answer.Used.TheVariants.{Kept, Emptied as emptied_by}

-- a track with its two tables
abbrev pub stands_at : Account → Standing → (c w : List Row) → State
stands_at a d c w = record { cells = a.cells; allowance = a.allowance; charged = a.charged; standing = d; committed = c; work = w }

abbrev pub at_rest : Rest → List Row → List Row → State
at_rest r c w = stands_at r.account resting c w

abbrev pub at_proposal : Proposal → List Row → List Row → State
at_proposal p c w = stands_at p.account proposing c w

abbrev pub at_emptied : Emptied → List Row → List Row → State
at_emptied e c w = stands_at e.account (emptied e.fault) c w

-- A making: from it on, whatever follows, every history keeps its promises, with whatever contractors that keep the meaning, and every pile of those keeps it.
abbrev pub Made : (first : List Row) (allowance : ℕ) → Result Rest TrackRefusal → Type 0
Made first allowance (Ok r) =
    (make_refusal first allowance ≡ None)
    × ((work : List Row) → History allowance first [] (at_rest r first work))
    × HistoriesKeep allowance first
    × PilesKeep
Made first allowance (Err e) = make_refusal first allowance ≡ Some e

-- a proposing, with the committed table and the work table before and after
abbrev pub Proposing : Rest → (c w w' : List Row) → Result Proposal (Refused Rest) → Type 0
Proposing r c w w' (Ok p) = (copy_refusal r.account.cells c w ≡ None) × Next (at_rest r c w) (proposed c) (at_proposal p c w')
Proposing r c w w' (Err e) = (copy_refusal r.account.cells c w ≡ Some e.refusal) × Next (at_rest r c w) refused (at_rest e.standing c w')

-- why a use would be refused, with the calls charged so far
abbrev pub refusal_with : Account → Value → List Row → Option TrackRefusal
refusal_with a v w = use_refusal a.cells a.allowance a.charged v w

-- a use of a contractor, whatever the committed table then holds
abbrev pub one_use : Value → List Row → Use
one_use v w = record { contractor = v; on = w; answer = (v.narrowed w).answer }

abbrev pub Using : Proposal → Value → (w w' : List Row) → Result Used (Refused Proposal) → Type 0
Using p v w w' (Ok (Kept q m)) =
    (refusal_with p.account v w ≡ None) × ((v.narrowed w).answer.verdict ≡ kept m) × ((c : List Row) → Next (at_proposal p c w) (used (one_use v w)) (at_proposal q c w'))
Using p v w w' (Ok (emptied_by e)) =
    (refusal_with p.account v w ≡ None) × ((v.narrowed w).answer.verdict ≡ empty e.fault) × ((c : List Row) → Next (at_proposal p c w) (used (one_use v w)) (at_emptied e c w'))
Using p v w w' (Err e) =
    (refusal_with p.account v w ≡ Some e.refusal) × ((c : List Row) → Next (at_proposal p c w) refused (at_proposal e.standing c w'))

-- a commit, with the committed table before and after and the work table
abbrev pub Committing : Proposal → (c c' w : List Row) → Result Rest (Refused Proposal) → Type 0
Committing p c c' w (Ok r) = (copy_refusal p.account.cells c w ≡ None) × Next (at_proposal p c w) committed (at_rest r c' w)
Committing p c c' w (Err e) = (copy_refusal p.account.cells c w ≡ Some e.refusal) × Next (at_proposal p c w) refused (at_proposal e.standing c' w)

-- withdraw and close write no table, whatever the tables hold
abbrev pub Withdrawing : Proposal → Rest → Type 0
Withdrawing p r = (c w : List Row) → Next (at_proposal p c w) withdrawn (at_rest r c w)

abbrev pub Closing : Emptied → Fault → Rest → Type 0
Closing e f r = (f ≡ e.fault) × ((c w : List Row) → Next (at_emptied e c w) closed (at_rest r c w))
