use Rattle.std.proofs.Common.{◌≡◌, ◌++◌, length, decimal, ap, ◌∙◌, arith, w32, SFits, rules}
use Rattle.std.proofs.lemmas.Int.{to_z-of_z}
use Rattle.std.proofs.lemmas.List.{length-append}
use Rattle.swimlog.specs.Pages.{page_bytes}
use Rattle.swimlog.specs.Report.{line, place_fields}
use Rattle.swimlog.proofs.Lengths.{Small, gate_line_short, gate_line_room}
use Rattle.swimlog.proofs.report.writing.put_place_line.Goals as goal
use Rattle.swimlog.proofs.report.writing.put_place_line.Goals.{Start}

-- the ends of a row are numbers of 32 bits
x_small : (c : Start) → Small c.args.x
x_small c = record { low = search rules; high = search rules }

y_small : (c : Start) → Small c.args.y
y_small c = record { low = search rules; high = search rules }

pub put_line-requires : goal.put_line-requires
put_line-requires c =
    let x = x_small (goal.at.put_line-requires c).Start in
    let y = y_small (goal.at.put_line-requires c).Start in
    let x_low : SFits w32 c.args.x.low = x.low in
    let x_high : SFits w32 c.args.x.high = x.high in
    let y_low : SFits w32 c.args.y.low = y.low in
    let y_high : SFits w32 c.args.y.high = y.high in
    let gate : c.as_bytes.result.now ≡ decimal c.args.gate = c.as_bytes.ensures.value ∙ c.format.ensures.text in
    simp to_z-of_z (rw gate (gate_line_room c.args.page.now c.args.gate c.args.x c.args.y c.requires.gate x y c.requires.room))

pub returns-clause-short : goal.returns-clause-short
returns-clause-short c =
    let x = x_small (goal.at.returns-clause-short c).Start in
    let y = y_small (goal.at.returns-clause-short c).Start in
    let x_low : SFits w32 c.args.x.low = x.low in
    let x_high : SFits w32 c.args.x.high = x.high in
    let y_low : SFits w32 c.args.y.low = y.low in
    let y_high : SFits w32 c.args.y.high = y.high in
    let before = page_bytes c.args.page.now in
    let gate_line = line (decimal c.args.gate) (place_fields c.args.x c.args.y) in
    let gate : c.as_bytes.result.now ≡ decimal c.args.gate = c.as_bytes.ensures.value ∙ c.format.ensures.text in
    let put : page_bytes c.put_line.new.page ≡ before ++ gate_line = (simp to_z-of_z at c.put_line.ensures) ∙ rw gate in
    omega (arith, ap length put, length-append before gate_line, gate_line_short c.args.gate c.args.x c.args.y c.requires.gate x y)
