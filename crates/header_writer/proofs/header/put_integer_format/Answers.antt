use Rattle.std.proofs.Common.{ap, eqb, not, ℕ, ◌∙◌}
use Rattle.bit_writer.specs.WriterLaws.{puts_view, puts_as, puts_seq, tested_as}
use Rattle.mini.specs.Syntax.{integer_format}
use Rattle.header_writer.specs.Rules.{is_integer}
use Rattle.header_writer.proofs.header.put_integer_format.Goals as goal

pub returns : goal.returns
unfolding integer_format
returns c =
    puts_view _ _ _ _ _ _
    (puts_as _ (ap (λ (n : ℕ). (not (eqb n 8), n)) c.bits-bits.ensures) (puts_seq _ _ c.flag-w.ensures c.put_depth.ensures))
    (tested_as (ap not c.is_float.ensures ∙ is_integer c.args.f) c.test.ensures)
