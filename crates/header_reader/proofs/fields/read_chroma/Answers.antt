use Rattle.bits.specs.Run.{run_view, run_seq}
use Rattle.mini.specs.Syntax.{chroma}
use Rattle.header_reader.proofs.fields.read_chroma.Goals as goal

pub returns : goal.returns
unfolding chroma
returns c =
    run_view _ _ _ _ _ _
    (run_seq _ _ c.flag_if-horizontally_centered.ensures
    c.flag_if-vertically_centered.ensures)
