use Rattle.bit_writer.specs.WriterLaws.{puts_view, puts_as}
use Rattle.bit_writer.proofs.BitWriter.put_offset.Goals as goal

pub returns : goal.returns
returns c = puts_view _ _ _ _ _ _ (puts_as _ c.saturating_sub.ensures c.put-w.ensures) c.test.ensures
