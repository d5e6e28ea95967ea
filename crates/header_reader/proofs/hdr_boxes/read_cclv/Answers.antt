use Rattle.header_reader.specs.Rules.{run_cclv}
use Rattle.header_reader.proofs.hdr_boxes.read_cclv.Goals as goal

pub returns : goal.returns
returns c =
    run_cclv c.byte-first.ensures.run c.cclv_more.ensures.value c.body37_after.ensures.value c.body37_after.ensures.next
