use Rattle.bit_writer.specs.WriterLaws.{puts_renamed, puts_seq}
use Rattle.mini.specs.Syntax.{chunk_sizes}
use Rattle.header_writer.proofs.header.put_sizes.Goals as goal

pub returns : goal.returns
unfolding chunk_sizes
returns c =
    puts_renamed _ _ _ _ _
    (puts_seq _ _ c.flag_if.ensures
    (puts_seq _ _ c.flag.ensures
    (puts_seq _ _ c.flag-2.ensures
    (puts_seq _ _ c.minus1_if.ensures
    (puts_seq _ _ c.minus1_if-2.ensures
    (puts_seq _ _ c.size_if.ensures
    (puts_seq _ _ c.size_if-2.ensures
    (puts_seq _ _ c.size_if-3.ensures
    (puts_seq _ _ c.size_if-4.ensures
    (puts_seq _ _ c.minus1_if-3.ensures
    (puts_seq _ _ c.size_if-5.ensures
    (puts_seq _ _ c.size_if-6.ensures
    (puts_seq _ _ c.flag_if-2.ensures
    (puts_seq _ _ c.minus1_if-4.ensures
    c.minus1_if-5.ensures))))))))))))))
