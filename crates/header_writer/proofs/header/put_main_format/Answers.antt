use Rattle.bit_writer.specs.WriterLaws.{puts_renamed, puts_seq}
use Rattle.mini.specs.Syntax.{main_format}
use Rattle.header_writer.proofs.header.put_main_format.Goals as goal

pub returns : goal.returns
unfolding main_format
returns c =
    puts_renamed _ _ _ _ _
    (puts_seq _ _ c.put_chroma-w.ensures
    (puts_seq _ _ c.put_sample_format-w.ensures
    (puts_seq _ _ c.flag_if-w.ensures
    (puts_seq _ _ c.put_explicit_cicp-w.ensures
    c.put_codec_types.ensures))))
