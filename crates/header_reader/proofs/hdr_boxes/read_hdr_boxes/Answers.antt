use Rattle.bits.specs.Run.{run_view, run_seq}
use Rattle.mini.specs.Syntax.{hdr_boxes}
use Rattle.header_reader.proofs.hdr_boxes.read_hdr_boxes.Goals as goal

pub returns : goal.returns
unfolding hdr_boxes
returns c =
    run_view _ _ _ _ _ _
    (run_seq _ _ c.flag-has_clli.ensures
    (run_seq _ _ c.flag-has_mdcv.ensures
    (run_seq _ _ c.flag-has_cclv.ensures
    (run_seq _ _ c.flag-has_amve.ensures
    (run_seq _ _ c.flag-has_reve.ensures
    (run_seq _ _ c.flag-has_ndwt.ensures
    (run_seq _ _ c.body_if.ensures
    (run_seq _ _ c.body_if-2.ensures
    (run_seq _ _ c.read_cclv_if.ensures
    (run_seq _ _ c.body_if-3.ensures
    (run_seq _ _ c.body_if-4.ensures
    c.body_if-5.ensures)))))))))))
