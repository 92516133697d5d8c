use Rattle.std.proofs.Common.{arith}
use Rattle.contractor.specs.declared.answer.Verdict.TheVariants.{Kept, Empty}
use Rattle.track.proofs.Applying.{afforded, used_from}
use Rattle.track.proofs.standing.Proposal.apply.Goals as goal

pub charge-requires : goal.charge-requires
charge-requires g c =
    let enough = afforded c.args.self.account (g.met.C.Contractor.keeps c.args.contractor.now) c.in_default.ensures c.narrow-answer.ensures.answer in
    omega (arith, enough.0, enough.1)

pub returns-in-Kept-clause-result : goal.returns-in-Kept-clause-result
returns-in-Kept-clause-result g c =
    let charged = c.charge.ensures in
    used_from c.args.self.account (g.met.C.Contractor.keeps c.args.contractor.now) c.in_default.ensures c.narrow-answer.ensures.answer c.charge.new.self charged.cells charged.allowance charged.charged (Kept c.in-Kept.mark) c.in-Kept.is

pub returns-in-Empty-clause-result : goal.returns-in-Empty-clause-result
returns-in-Empty-clause-result g c =
    let charged = c.charge.ensures in
    used_from c.args.self.account (g.met.C.Contractor.keeps c.args.contractor.now) c.in_default.ensures c.narrow-answer.ensures.answer c.charge.new.self charged.cells charged.allowance charged.charged (Empty c.in-Empty.fault) c.in-Empty.is
