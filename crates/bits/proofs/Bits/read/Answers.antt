use Rattle.bits.specs.Run.{state, run_here, run_none}
use Rattle.bits.specs.Window.{part-lt}
use Rattle.bits.proofs.Bits.read.Goals as goal

pub returns-then-here-clause-run : goal.returns-then-here-clause-run
unfolding state
returns-then-here-clause-run c = run_here _ c.ahead-here.ensures.ahead c.if-here.true c.field.ensures

pub returns-then-here-clause-value_bound : goal.returns-then-here-clause-value_bound
returns-then-here-clause-value_bound c = rw c.field.ensures (part-lt _ _ _)

pub returns-else-here-clause-run : goal.returns-else-here-clause-run
returns-else-here-clause-run c = run_none _ c.ahead-here.ensures.ahead c.if-here.false
