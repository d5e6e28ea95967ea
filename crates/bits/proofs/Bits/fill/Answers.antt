use Rattle.std.proofs.Common.{arith, sym}
use Rattle.bits.specs.Run.{state, run_bytes}
use Rattle.bits.specs.Window.{bytes_none, bytes_more, bytes-all, part-lt}
use Rattle.bits.proofs.Bits.fill.Goals as goal

pub loop-i-init : goal.loop-i-init
loop-i-init c = sym (bytes_none _ _)

pub overflow_cast-b : goal.overflow_cast-b
overflow_cast-b c = record { fits = rw c.field.ensures (part-lt _ _ 8) }

pub loop-i-preserved : goal.loop-i-preserved
loop-i-preserved c =
    bytes_more _ _ _ c.loop-i.i c.loop-i.out c.field.result (omega arith) c.loop-i.invariant (omega arith) c.field.ensures

pub returns-then-not-here : goal.returns-then-not-here
returns-then-not-here c = run_bytes _ _ c.ahead-here.ensures.ahead (rw c.if-not-here.true c.requires.zeros)

pub returns : goal.returns
unfolding state
returns c =
    run_bytes _ _ c.ahead-here.ensures.ahead
    (rw c.if-not-here.false (bytes-all _ _ c.loop-i.i _ c.loop-i.out (omega arith) (omega arith) c.loop-i.invariant))
