use Rattle.bits.specs.Run.{run_view, run_seq}
use Rattle.mini.specs.Syntax.{integer_format}
use Rattle.header_reader.proofs.fields.read_integer.Goals as goal

pub returns : goal.returns
unfolding integer_format
returns c = run_view _ _ _ _ _ _ (run_seq _ _ c.flag-high.ensures c.read_depth-bits.ensures)
