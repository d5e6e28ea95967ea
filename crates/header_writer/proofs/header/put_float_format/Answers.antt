use Rattle.std.proofs.Common.{ap, ltb, ℕ, ◌∙◌}
use Rattle.bits.specs.Format.{view}
use Rattle.bit_writer.specs.WriterLaws.{puts_as, tested_as, put_of, puts_of, tested}
use Rattle.mini.specs.Syntax.{float_format}
use Rattle.mini.specs.Views.{float_code}
use Rattle.header_writer.proofs.header.put_float_format.Goals as goal

pub returns : goal.returns
unfolding float_format view
returns c =
    let e = c.float_code-code.ensures ∙ ap float_code c.bits.ensures in
    puts_of _ _
    (tested (tested (put_of (puts_as _ e c.put.ensures)) (tested_as (ap (λ (k : ℕ). ltb k 3) e) c.test.ensures))
    (tested_as c.has_float_code.ensures c.test-2.ensures))
