use Rattle.bit_writer.specs.WriterLaws.{puts_view, puts_seq}
use Rattle.mini.specs.Syntax.{chroma}
use Rattle.header_writer.proofs.header.put_chroma.Goals as goal

pub returns : goal.returns
unfolding chroma
returns c = puts_view _ _ _ _ _ _ (puts_seq _ _ c.flag_if.ensures c.flag_if-2.ensures) c.test.ensures
