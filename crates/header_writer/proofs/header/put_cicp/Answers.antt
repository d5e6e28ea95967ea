use Rattle.bit_writer.specs.WriterLaws.{puts_seq}
use Rattle.header_writer.proofs.header.put_cicp.Goals as goal

pub returns : goal.returns
returns c = puts_seq _ _ c.put.ensures (puts_seq _ _ c.put-2.ensures c.put-3.ensures)
