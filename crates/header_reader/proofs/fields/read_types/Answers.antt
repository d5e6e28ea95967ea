use Rattle.bits.specs.Run.{run_on, run_view, run_seq}
use Rattle.mini.specs.Syntax.{explicit_codec_types}
use Rattle.header_reader.proofs.fields.read_types.Goals as goal

pub returns-then-on : goal.returns-then-on
unfolding explicit_codec_types
returns-then-on c =
    run_on _ _ _ c.if-on.true
    (run_view _ _ _ _ _ _
    (run_seq _ _ c.read-infe_type.ensures.run
    c.read-codec_config_type.ensures.run))
