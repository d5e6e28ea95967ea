use Rattle.std.proofs.Common.{sym, ap, arith, drop, take_all, length-drop, ℕ, ◌+◌, ◌∙◌}
use Rattle.bit_writer.specs.Writer.{all_zero}
use Rattle.bit_writer.specs.WriterLaws.{puts_on, puts_off, puts_no_bytes, tested_as}
use Rattle.mini.specs.Syntax.{cclv_for}
use Rattle.header_writer.specs.Rules.{puts_cclv}
use Rattle.header_writer.proofs.header.put_cclv.Goals as goal

pub returns-then-on : goal.returns-then-on
unfolding cclv_for
returns-then-on c =
    puts_on _ _ _ c.if-on.true
    (puts_cclv c.args.body.now c.cclv_more-n.ensures.value c.cclv_more-n.ensures.upper_bound c.told-body c.fits-body c.bytes.ensures.fed c.bytes.ensures.fits_as_before (tested_as (c.all_zero.ensures ∙ ap all_zero (take_all _ (drop (c.cclv_more-n.result + 1) c.args.body.now) (omega (arith, length-drop {A = ℕ})))) c.test.ensures))

pub returns-else-on : goal.returns-else-on
unfolding cclv_for
returns-else-on c =
    puts_off _ _ _ c.if-on.false (puts_no_bytes _ 37 c.args.body.now (sym c.told-body) c.test-else-on.ensures c.all_zero-else-on.ensures)
