use Rattle.bits.specs.Run.{run_view, run_seq, run_first, run_second}
use Rattle.mini.specs.Syntax.{header}
use Rattle.header_reader.proofs.read_header.Goals as goal

pub returns-clause-run : goal.returns-clause-run
unfolding header
returns-clause-run c =
    let e = c.read_hdr_part.ensures in
    run_view _ _ _ _ _ _
    (run_seq _ _ c.read_flags.ensures
    (run_seq _ _ c.read_dimensions.ensures
    (run_seq _ _ c.read_main_format.ensures
    (run_seq _ _ (run_first _ _ e)
    (run_seq _ _ (run_first _ _ (run_second _ _ e))
    (run_seq _ _ (run_second _ _ (run_second _ _ e))
    c.read_sizes.ensures.run))))))
