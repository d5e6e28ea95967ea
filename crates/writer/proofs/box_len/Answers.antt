-- `writer::box_len` meets its contract. Assumes nothing.
use Rattle.writer.specs.Needed.{needed}
use Rattle.writer.proofs.box_len.Goals as goal

pub returns : goal.returns
returns c = needed _ c.args.source.now _ c.requires.writable c.requires.held c.put_chunks.ensures
