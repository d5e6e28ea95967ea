use Rattle.bit_writer.specs.WriterLaws.{puts_on, puts_view, puts_as, tested_as}
use Rattle.mini.specs.Syntax.{explicit_cicp}
use Rattle.mini.specs.Views.{cicp_from}
use Rattle.header_writer.proofs.Optional.{or_blank}
use Rattle.header_writer.proofs.header.put_explicit_cicp.Goals as goal

pub returns-then-on : goal.returns-then-on
unfolding explicit_cicp
returns-then-on c =
    puts_on _ _ _ c.if-on.true
    (puts_view _ _ _ _ _ _ (puts_as _ (or_blank cicp_from (λ x e. rw (e.0, e.1.0, e.1.1)) c.args.c c.unwrap_or_default.ensures) c.put_cicp.ensures) (tested_as c.is_some.ensures c.test.ensures))
