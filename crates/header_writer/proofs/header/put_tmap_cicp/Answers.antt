use Rattle.bit_writer.specs.WriterLaws.{puts_on, puts_view, puts_as, tested_as}
use Rattle.mini.specs.Syntax.{tmap_cicp}
use Rattle.header_writer.specs.Rules.{puts_cicp_then}
use Rattle.mini.specs.Views.{tmap_cicp_from}
use Rattle.header_writer.proofs.Optional.{or_blank}
use Rattle.header_writer.proofs.header.put_tmap_cicp.Goals as goal

pub returns-then-on : goal.returns-then-on
unfolding tmap_cicp
returns-then-on c =
    puts_on _ _ _ c.if-on.true
    (puts_view _ _ _ _ _ _ (puts_as _ (or_blank tmap_cicp_from (λ x e. rw (e.0.0, e.0.1.0, e.0.1.1, e.1)) c.args.c c.unwrap_or_default-f.ensures) (puts_cicp_then c.put_cicp.ensures c.flag.ensures)) (tested_as c.is_some.ensures c.test.ensures))
