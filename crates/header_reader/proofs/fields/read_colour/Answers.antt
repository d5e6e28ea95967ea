use Rattle.bits.specs.Run.{run_seq}
use Rattle.header_reader.proofs.fields.read_colour.Goals as goal

pub returns : goal.returns
returns c = run_seq _ _ c.byte-primaries.ensures.run (run_seq _ _ c.byte-transfer.ensures.run c.byte-matrix.ensures.run)
