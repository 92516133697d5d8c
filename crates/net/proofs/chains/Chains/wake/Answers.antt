use Rattle.std.proofs.Common.{◌<◌, length, arith}
use Rattle.net.proofs.Waking.{mentioned, waking_start, waking_more, waking_on, end_is}
use Rattle.net.proofs.chains.Chains.wake.Goals as goal

pub loop-next-init : goal.loop-next-init
loop-next-init c = waking_start c.args.self.now _ _ _ _ _ _ _ _ c.start-first.ensures c.start-second.ensures c.start-third.ensures (omega arith)

pub pass-first-requires-clause-mentioned : goal.pass-first-requires-clause-mentioned
pass-first-requires-clause-mentioned c = mentioned c.args.self.now _ _ _ c.loop-next.invariant.at_first (omega (arith, end_is _ _ c.self.view_is c.self.invariant))

pub pass-second-requires-clause-mentioned : goal.pass-second-requires-clause-mentioned
pass-second-requires-clause-mentioned c = mentioned c.args.self.now _ _ _ c.loop-next.invariant.at_second (omega (arith, end_is _ _ c.self.view_is c.self.invariant))

pub pass-third-requires-clause-mentioned : goal.pass-third-requires-clause-mentioned
pass-third-requires-clause-mentioned c = mentioned c.args.self.now _ _ _ c.loop-next.invariant.at_third (omega (arith, end_is _ _ c.self.view_is c.self.invariant))

pub loop-next-smaller : goal.loop-next-smaller
loop-next-smaller c =
    let within : c.loop-next.next < length c.args.self.now = omega (arith, end_is _ _ c.self.view_is c.self.invariant) in
    let on : c.loop-next.next < c.min-next-in-loop-next.result = waking_on c.args.self.now _ _ _ _ _ _ _ _ _ c.loop-next.invariant _ _ _ _ _ within c.join.ensures c.pass-first.ensures c.pass-second.ensures c.pass-third.ensures (omega arith) in
    omega arith

pub loop-next-preserved : goal.loop-next-preserved
loop-next-preserved c =
    let within : c.loop-next.next < length c.args.self.now = omega (arith, end_is _ _ c.self.view_is c.self.invariant) in
    waking_more c.args.self.now _ _ _ _ _ _ _ _ _ c.loop-next.invariant _ _ _ _ _ within c.join.ensures c.pass-first.ensures c.pass-second.ensures c.pass-third.ensures (omega arith)
