-- The composition of two contractors: the first is used, then the second on what the first left. Assumes nothing.
use Rattle.std.specs.Prelude.{ℕ, ◌+◌, ◌&&◌, List}
use Rattle.tube.specs.declared.row.Row.{Row}
use Rattle.contractor.specs.Answers.{kept, emptied}
use Rattle.contractor.specs.Contractors.{Value, Narrowed}
use Rattle.contractor.specs.Layers.{passed_up, either_stopped, leaving, over_two}
use Rattle.contractor.specs.declared.answer.Answer.{Answer}
use Rattle.contractor.specs.declared.answer.Mark.{Mark}
use Rattle.contractor.specs.declared.answer.Verdict.{Verdict}
use Rattle.contractor.specs.declared.answer.Verdict.TheVariants.{Kept, Empty}

abbrev pub first_digit : ℕ
first_digit = 1

abbrev pub second_digit : ℕ
second_digit = 2

-- the answer where the first part was kept with a mark: by the second part's verdict, after the calls of both
abbrev pub second_answer : Mark → Verdict → ℕ → Answer
second_answer mark (Kept other) calls = kept (either_stopped mark other) calls
second_answer mark (Empty fault) calls = emptied (passed_up second_digit fault) calls

-- what comes of a first part's verdict, its calls and the tube that it left: the second part is not used after an empty one
abbrev pub after_first : Value → Verdict → ℕ → List Row → Narrowed
after_first w (Kept mark) calls t =
    let u : Narrowed = w.narrowed t in
    leaving (second_answer mark u.answer.verdict (calls + u.answer.calls)) u.tube
after_first w (Empty fault) calls t = leaving (emptied (passed_up first_digit fault) calls) t

abbrev pub composed : Value → Narrowed → Narrowed
composed w u = after_first w u.answer.verdict u.answer.calls u.tube

abbrev pub both : Value → Value → Value
both v w = over_two v w (λ p. v.relation p && w.relation p) (λ t. composed w (v.narrowed t))
