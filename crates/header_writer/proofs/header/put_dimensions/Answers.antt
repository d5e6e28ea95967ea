use Rattle.bit_writer.specs.WriterLaws.{puts_renamed, puts_seq}
use Rattle.mini.specs.Syntax.{dimensions}
use Rattle.header_writer.proofs.header.put_dimensions.Goals as goal

pub returns : goal.returns
unfolding dimensions
returns c = puts_renamed _ _ _ _ _ (puts_seq _ _ c.flag.ensures (puts_seq _ _ c.minus1_if.ensures c.minus1_if-2.ensures))
