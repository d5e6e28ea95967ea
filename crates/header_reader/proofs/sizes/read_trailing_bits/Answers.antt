use Rattle.std.proofs.Common.{arith}
use Rattle.bits.specs.Run.{state}
use Rattle.mini.specs.Read.{bits_to_boundary}
use Rattle.header_reader.specs.Rules.{run_trailing}
use Rattle.header_reader.proofs.sizes.read_trailing_bits.Goals as goal

pub returns : goal.returns
unfolding state bits_to_boundary
returns c = run_trailing c.to_boundary.result (omega arith) c.read-padding.ensures.run c.test.ensures
