use Rattle.bits.specs.Run.{run_on, run_view, run_seq, run_first, run_second}
use Rattle.mini.specs.Syntax.{tmap_cicp}
use Rattle.header_reader.proofs.gain_map.read_tmap_cicp.Goals as goal

pub returns-then-on : goal.returns-then-on
unfolding tmap_cicp
returns-then-on c =
    let e = c.read_colour.ensures in
    run_on _ _ _ c.if-on.true
    (run_view _ _ _ _ _ _
    (run_seq _ _ (run_first _ _ e)
    (run_seq _ _ (run_first _ _ (run_second _ _ e))
    (run_seq _ _ (run_second _ _ (run_second _ _ e)) c.flag-full_range.ensures))))
