use Rattle.std.proofs.Common.{refl, ap, ap₂, ◌∙◌, subst, set, Some, None, w32, SFits, rules}
use Rattle.std.proofs.lemmas.Int.{to_z-of_z}
use Rattle.tube.specs.Intervals.{row_of}
use Rattle.tube.specs.Tubes.{cell}
use Rattle.tube.proofs.Ends.{spanned}
use Rattle.contractor.specs.Layers.{leaving}
use Rattle.constraint.specs.Constraints.{axis_row}
use Rattle.constraint.specs.SumsLemmas.{Ordered}
use Rattle.constraint.proofs.Axes.{axis_left, axis_kept, ranged_by, ranged_whole}
use Rattle.constraint.proofs.range.contracting.RangeContractor.narrow.Goals as goal

pub returns-then-is_whole-2 : goal.returns-then-is_whole-2
returns-then-is_whole-2 c =
    let k = c.args.self.now in
    let beacon_x : SFits w32 k.beacon.x = search rules in
    let beacon_y : SFits w32 k.beacon.y = search rules in
    let t = c.args.tube.now in
    let x = c.interval_at.result in
    let y = c.interval_at-2.result in
    record {
      same = refl;
      answer =
          ap (λ a. leaving a t) c.settled.ensures
          ∙ ranged_whole k.number k.x k.y k.beacon.x k.beacon.y k.distances.nearest k.distances.farthest t
          (subst Ordered c.interval_at.ensures (spanned x.low x.high x.spanned).ordered)
          (subst Ordered c.interval_at-2.ensures (spanned y.low y.high y.spanned).ordered)
          (axis_kept k.distances.nearest k.distances.farthest (row_of x) (row_of y) (cell t k.x) (cell t k.y) k.beacon.x k.beacon.y _ _ c.interval_at.ensures c.interval_at-2.ensures (search rules) (search rules) _ (simp to_z-of_z at c.if-is_whole.ensures))
          (axis_kept k.distances.nearest k.distances.farthest (row_of y) (row_of x) (cell t k.y) (cell t k.x) k.beacon.y k.beacon.x _ _ c.interval_at-2.ensures c.interval_at.ensures (search rules) (search rules) _ (simp to_z-of_z at c.if-is_whole-2.ensures));
    }

pub returns-in_default-clause-answer : goal.returns-in_default-clause-answer
returns-in_default-clause-answer c =
    let k = c.args.self.now in
    let beacon_x : SFits w32 k.beacon.x = search rules in
    let beacon_y : SFits w32 k.beacon.y = search rules in
    let t = c.args.tube.now in
    let x = row_of c.interval_at.result in
    let y = row_of c.interval_at-2.result in
    ap (λ a. leaving a t) c.empty_at.ensures
    ∙ ranged_by k.number k.x k.y k.beacon.x k.beacon.y k.distances.nearest k.distances.farthest t None (axis_row k.distances.nearest k.distances.farthest (cell t k.y) (cell t k.x) k.beacon.y k.beacon.x)
    (axis_left k.distances.nearest k.distances.farthest x y (cell t k.x) (cell t k.y) k.beacon.x k.beacon.y _ _ c.interval_at.ensures c.interval_at-2.ensures (search rules) (search rules) _ (simp to_z-of_z at c.in_default.ensures))
    refl

pub returns-in_default-within-clause-answer : goal.returns-in_default-within-clause-answer
returns-in_default-within-clause-answer c =
    let k = c.args.self.now in
    let beacon_x : SFits w32 k.beacon.x = search rules in
    let beacon_y : SFits w32 k.beacon.y = search rules in
    let t = c.args.tube.now in
    let x = row_of c.interval_at.result in
    let y = row_of c.interval_at-2.result in
    ap (λ a. leaving a t) c.empty_at-in_default-within.ensures
    ∙ ranged_by k.number k.x k.y k.beacon.x k.beacon.y k.distances.nearest k.distances.farthest t (Some (row_of c.in-Some.new_x)) None
    (axis_left k.distances.nearest k.distances.farthest x y (cell t k.x) (cell t k.y) k.beacon.x k.beacon.y _ _ c.interval_at.ensures c.interval_at-2.ensures (search rules) (search rules) _ (simp to_z-of_z at c.in-Some.ensures))
    (axis_left k.distances.nearest k.distances.farthest y x (cell t k.y) (cell t k.x) k.beacon.y k.beacon.x _ _ c.interval_at-2.ensures c.interval_at.ensures (search rules) (search rules) _ (simp to_z-of_z at c.in_default-within.ensures))

pub returns-clause-answer : goal.returns-clause-answer
returns-clause-answer c =
    let k = c.args.self.now in
    let beacon_x : SFits w32 k.beacon.x = search rules in
    let beacon_y : SFits w32 k.beacon.y = search rules in
    let t = c.args.tube.now in
    let x = row_of c.interval_at.result in
    let y = row_of c.interval_at-2.result in
    ap₂ leaving c.settled-2.ensures (ap₂ (λ v w. set (set t k.x v) k.y w) c.from.ensures c.from-2.ensures)
    ∙ ranged_by k.number k.x k.y k.beacon.x k.beacon.y k.distances.nearest k.distances.farthest t (Some (row_of c.in-Some.new_x)) (Some (row_of c.in-Some-within.new_y))
    (axis_left k.distances.nearest k.distances.farthest x y (cell t k.x) (cell t k.y) k.beacon.x k.beacon.y _ _ c.interval_at.ensures c.interval_at-2.ensures (search rules) (search rules) _ (simp to_z-of_z at c.in-Some.ensures))
    (axis_left k.distances.nearest k.distances.farthest y x (cell t k.y) (cell t k.x) k.beacon.y k.beacon.x _ _ c.interval_at-2.ensures c.interval_at.ensures (search rules) (search rules) _ (simp to_z-of_z at c.in-Some-within.ensures))
