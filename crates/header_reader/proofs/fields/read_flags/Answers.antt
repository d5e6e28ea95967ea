use Rattle.bits.specs.Run.{state, run_view, run_then, run_exactly, run_seq, run_minus1}
use Rattle.mini.specs.Syntax.{flags}
use Rattle.header_reader.proofs.fields.read_flags.Goals as goal

pub returns : goal.returns
unfolding flags state
returns c =
    run_view _ _ _ _ _ _
    (run_then _ _ (run_exactly 2 0 6 tt c.read-version.ensures.run c.test-b.ensures)
    (run_seq _ _ c.flag-explicit_codec_types.ensures
    (run_seq _ _ c.flag-float.ensures
    (run_seq _ _ c.flag-full_range.ensures
    (run_seq _ _ c.flag-alpha.ensures
    (run_seq _ _ c.flag-explicit_cicp.ensures
    (run_seq _ _ c.flag-hdr.ensures
    (run_seq _ _ c.flag-icc.ensures
    (run_seq _ _ c.flag-exif.ensures
    (run_seq _ _ c.flag-xmp.ensures
    (run_seq _ _ c.byte-subsampling.ensures.run
    (run_minus1 3 c.byte-orientation_minus1.ensures.run))))))))))))
