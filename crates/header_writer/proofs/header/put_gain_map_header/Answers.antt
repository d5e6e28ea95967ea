use Rattle.bit_writer.specs.WriterLaws.{puts_renamed, puts_seq}
use Rattle.mini.specs.Syntax.{gain_map_header}
use Rattle.header_writer.proofs.header.put_gain_map_header.Goals as goal

pub returns : goal.returns
unfolding gain_map_header
returns c =
    puts_renamed _ _ _ _ _
    (puts_seq _ _ c.flag_if.ensures
    (puts_seq _ _ c.flag_if-w.ensures
    (puts_seq _ _ c.put_gain_map_dimension-w.ensures
    (puts_seq _ _ c.put_gain_map_dimension-w-2.ensures
    (puts_seq _ _ c.put_if.ensures
    (puts_seq _ _ c.flag_if-2.ensures
    (puts_seq _ _ c.put_if-w.ensures
    (puts_seq _ _ c.put_chroma.ensures
    (puts_seq _ _ c.flag_if-w-2.ensures
    (puts_seq _ _ c.put_gain_map_format.ensures
    (puts_seq _ _ c.flag_if-3.ensures
    (puts_seq _ _ c.flag_if-w-3.ensures
    c.put_tmap_cicp.ensures))))))))))))
