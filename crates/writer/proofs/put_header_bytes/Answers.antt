-- `writer::put_header_bytes` meets its contract. Assumes nothing.
use Rattle.std.proofs.Common.{refl, rules}
use Rattle.writer.specs.ToBox.{header_in, header_of_lem, header_told}
use Rattle.writer.proofs.put_header_bytes.Goals as goal

pub returns : goal.returns
returns c =
    header_told _ _
    (header_of_lem _
    (header_in _ _ c.header_of.ensures (search rules) c.new.ensures c.put_header.ensures c.align-w.ensures)
    c.not_empty.ensures c.not_empty-2.ensures refl refl) c.then_some.ensures
