use Rattle.bits.specs.Run.{run_view, run_seq}
use Rattle.mini.specs.Syntax.{main_format}
use Rattle.header_reader.proofs.fields.read_main_format.Goals as goal

pub returns : goal.returns
unfolding main_format
returns c =
    run_view _ _ _ _ _ _
    (run_seq _ _ c.read_chroma.ensures
    (run_seq _ _ c.read_format-format.ensures
    (run_seq _ _ c.flag_if-alpha_premultiplied.ensures
    (run_seq _ _ c.read_cicp-explicit_cicp.ensures
    c.read_types-explicit_codec_types.ensures))))
