use Rattle.bit_writer.specs.WriterLaws.{puts_renamed, puts_seq}
use Rattle.mini.specs.Syntax.{header}
use Rattle.header_writer.proofs.header.put_header.Goals as goal

pub returns : goal.returns
unfolding header
returns c =
    puts_renamed _ _ _ _ _
    (puts_seq _ _ c.put_flags-w.ensures
    (puts_seq _ _ c.put_dimensions-w.ensures
    (puts_seq _ _ c.put_main_format-w.ensures
    (puts_seq _ _ c.put_gain_map_header-w.ensures
    (puts_seq _ _ c.put_hdr_boxes-w.ensures
    (puts_seq _ _ c.put_hdr_boxes-w-2.ensures
    c.put_sizes.ensures))))))
