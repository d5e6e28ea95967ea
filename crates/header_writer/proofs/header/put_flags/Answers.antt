use Rattle.bit_writer.specs.WriterLaws.{puts_renamed, puts_next, puts_exactly, puts_seq}
use Rattle.mini.specs.Syntax.{flags}
use Rattle.header_writer.proofs.header.put_flags.Goals as goal

pub returns : goal.returns
unfolding flags
returns c =
    puts_renamed _ _ _ _ _
    (puts_next _ _ (puts_exactly 2 0 6 tt c.put.ensures)
    (puts_seq _ _ c.flag.ensures
    (puts_seq _ _ c.flag-2.ensures
    (puts_seq _ _ c.flag-3.ensures
    (puts_seq _ _ c.flag-4.ensures
    (puts_seq _ _ c.flag-5.ensures
    (puts_seq _ _ c.flag-6.ensures
    (puts_seq _ _ c.flag-7.ensures
    (puts_seq _ _ c.flag-8.ensures
    (puts_seq _ _ c.flag-9.ensures
    (puts_seq _ _ c.put-2.ensures
    c.put_offset.ensures)))))))))))
