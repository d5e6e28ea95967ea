-- `writer::chunks::put_chunks` meets its contract. Assumes nothing.
use Rattle.mini.specs.Same.{chunks_of}
use Rattle.writer.specs.Laid.{then, ended}
use Rattle.writer.proofs.chunks.put_chunks.Goals as goal

pub returns : goal.returns
unfolding chunks_of
returns c =
    then c.put_span-at.ensures
    (then c.put_chunk-at.ensures
    (then c.put_chunk-at-2.ensures
    (then c.put_chunk-at-3.ensures
    (then c.put_chunk-at-4.ensures
    (then c.put_span-at-2.ensures
    (then c.put_span-at-3.ensures
    (then c.put_span-at-4.ensures
    (then c.put_span-at-5.ensures
    (then c.put_chunk-at-5.ensures
    (ended c.put_chunk.ensures))))))))))
