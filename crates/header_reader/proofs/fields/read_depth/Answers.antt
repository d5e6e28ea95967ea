use Rattle.bits.specs.Run.{run_on, run_offset}
use Rattle.header_reader.proofs.fields.read_depth.Goals as goal

pub returns-then-high : goal.returns-then-high
returns-then-high c = run_on _ _ _ c.if-high.true (run_offset 9 3 c.byte-bits_minus9.ensures.run)
