use Rattle.std.proofs.lemmas.List.{length-replicate}
use Rattle.bits.specs.Run.{run_on}
use Rattle.bits.proofs.Bits.body_if.Goals as goal

pub returns-then-on : goal.returns-then-on
returns-then-on g c = run_on _ _ _ c.if-on.true (rw length-replicate at c.fill-next.ensures)
