use Rattle.std.proofs.Common.{refl}
use Rattle.bits.specs.Run.{state, run_here, run_none, run_flag}
use Rattle.bits.proofs.Bits.flag.Goals as goal

pub returns-then-here : goal.returns-then-here
unfolding state
returns-then-here c = rw c.bit_at.ensures (run_flag (run_here 1 c.ahead-here.ensures.ahead c.if-here.true refl))

pub returns-else-here : goal.returns-else-here
unfolding state
returns-else-here c = run_flag (run_none 1 c.ahead-here.ensures.ahead c.if-here.false)
