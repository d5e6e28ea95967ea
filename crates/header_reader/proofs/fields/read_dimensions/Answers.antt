use Rattle.bits.specs.Run.{run_view, run_seq}
use Rattle.mini.specs.Syntax.{dimensions}
use Rattle.header_reader.proofs.fields.read_dimensions.Goals as goal

pub returns : goal.returns
unfolding dimensions
returns c =
    run_view _ _ _ _ _ _
    (run_seq _ _ c.flag-large.ensures
    (run_seq _ _ c.minus1_if-width.ensures.run
    c.minus1_if-height.ensures.run))
