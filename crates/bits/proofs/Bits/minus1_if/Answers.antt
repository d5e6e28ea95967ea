use Rattle.bits.specs.Run.{run_minus1, run_on}
use Rattle.bits.proofs.Bits.minus1_if.Goals as goal

pub returns-then-on-clause-run : goal.returns-then-on-clause-run
returns-then-on-clause-run c =
    rw (← c.of.ensures.0) (run_on _ _ _ c.if-on.true (run_minus1 _ c.read-value.ensures.run))
