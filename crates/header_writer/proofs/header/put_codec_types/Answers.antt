use Rattle.bit_writer.specs.WriterLaws.{puts_on, puts_view, puts_as, puts_seq, tested_as}
use Rattle.mini.specs.Syntax.{explicit_codec_types}
use Rattle.mini.specs.Views.{codec_types_from}
use Rattle.header_writer.proofs.Optional.{or_blank}
use Rattle.header_writer.proofs.header.put_codec_types.Goals as goal

pub returns-then-on : goal.returns-then-on
unfolding explicit_codec_types
returns-then-on c =
    puts_on _ _ _ c.if-on.true
    (puts_view _ _ _ _ _ _ (puts_as _ (or_blank codec_types_from (λ x e. rw (e.0, e.1)) c.args.c c.unwrap_or_default-f.ensures) (puts_seq _ _ c.put.ensures c.put-then-on.ensures)) (tested_as c.is_some.ensures c.test.ensures))
