use Rattle.bit_writer.specs.WriterLaws.{puts_renamed, puts_seq}
use Rattle.mini.specs.Syntax.{hdr_boxes}
use Rattle.header_writer.proofs.header.put_hdr_boxes.Goals as goal

pub returns : goal.returns
unfolding hdr_boxes
returns c =
    puts_renamed _ _ _ _ _
    (puts_seq _ _ c.flag_if.ensures
    (puts_seq _ _ c.flag_if-2.ensures
    (puts_seq _ _ c.flag_if-3.ensures
    (puts_seq _ _ c.flag_if-4.ensures
    (puts_seq _ _ c.flag_if-5.ensures
    (puts_seq _ _ c.flag_if-6.ensures
    (puts_seq _ _ c.body_if.ensures
    (puts_seq _ _ c.body_if-w.ensures
    (puts_seq _ _ c.put_cclv.ensures
    (puts_seq _ _ c.body_if-2.ensures
    (puts_seq _ _ c.body_if-3.ensures
    c.body_if-4.ensures)))))))))))
