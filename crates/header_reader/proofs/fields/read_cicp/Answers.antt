use Rattle.bits.specs.Run.{run_on, run_view}
use Rattle.mini.specs.Syntax.{explicit_cicp}
use Rattle.header_reader.proofs.fields.read_cicp.Goals as goal

pub returns-then-on : goal.returns-then-on
unfolding explicit_cicp
returns-then-on c = run_on _ _ _ c.if-on.true (run_view _ _ _ _ _ _ c.read_colour.ensures)
