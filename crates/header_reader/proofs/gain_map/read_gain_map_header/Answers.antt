use Rattle.bits.specs.Run.{run_view, run_seq}
use Rattle.mini.specs.Syntax.{gain_map_header}
use Rattle.header_reader.proofs.gain_map.read_gain_map_header.Goals as goal

pub returns : goal.returns
unfolding gain_map_header
returns c =
    run_view _ _ _ _ _ _
    (run_seq _ _ c.flag-present.ensures
    (run_seq _ _ c.flag_if-same_dimensions.ensures
    (run_seq _ _ c.read_dimension-width.ensures
    (run_seq _ _ c.read_dimension-height.ensures
    (run_seq _ _ c.byte_if-matrix_coefficients.ensures.run
    (run_seq _ _ c.flag_if-full_range.ensures
    (run_seq _ _ c.byte_if-subsampling.ensures.run
    (run_seq _ _ c.read_chroma.ensures
    (run_seq _ _ c.flag_if-float.ensures
    (run_seq _ _ c.read_format_if-format.ensures
    (run_seq _ _ c.flag_if-tmap_icc.ensures
    (run_seq _ _ c.flag_if-tmap_explicit_cicp.ensures
    c.read_tmap_cicp-tmap_cicp.ensures))))))))))))
