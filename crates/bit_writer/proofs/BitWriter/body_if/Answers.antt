use Rattle.std.proofs.Common.{sym}
use Rattle.bit_writer.specs.WriterLaws.{puts_on, puts_off, puts_no_bytes}
use Rattle.bit_writer.proofs.BitWriter.body_if.Goals as goal

pub returns-then-on : goal.returns-then-on
returns-then-on g c = puts_on _ _ _ c.if-on.true (rw c.told-body at c.bytes.ensures.format)

pub returns-else-on : goal.returns-else-on
returns-else-on g c = puts_off _ _ _ c.if-on.false (puts_no_bytes _ _ c.args.body.now (sym c.told-body) c.test.ensures c.all_zero.ensures)
