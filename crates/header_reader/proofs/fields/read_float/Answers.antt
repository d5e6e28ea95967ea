use Rattle.std.proofs.Common.{ltb}
use Rattle.bits.specs.Format.{field}
use Rattle.bits.specs.Run.{state, run_view, run_ensure}
use Rattle.mini.specs.Syntax.{float_format}
use Rattle.header_reader.proofs.fields.read_float.Goals as goal

pub returns : goal.returns
unfolding float_format state
returns c =
    rw c.float_bits-bits.ensures (run_view _ _ _ _ _ _ (run_ensure (field 2) (λ v. ltb v 3) 7 tt c.byte-code.ensures.run c.test.ensures))
