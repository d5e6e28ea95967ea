use Rattle.bits.specs.Run.{run_seq}
use Rattle.header_reader.proofs.read_hdr_part.Goals as goal

pub returns : goal.returns
returns c =
    rw c.if-not-hdr.false
    (run_seq _ _ c.read_gain_map_header.ensures (run_seq _ _ c.read_hdr_boxes.ensures c.read_hdr_boxes_if.ensures))
