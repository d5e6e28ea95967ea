use Rattle.std.proofs.Common.{arith}
use Rattle.octets.specs.OverwriteLaws.{nothing}
use Rattle.outline.specs.Chunks.{chunk_of}
use Rattle.outline.specs.OutlineBytes.{entry, entries}
use Rattle.outline.proofs.Rows.{row-more, rows-all}
use Rattle.outline.proofs.chunks.put_entries.Goals as goal

pub loop-number-init : goal.loop-number-init
loop-number-init c = nothing _ _

pub put_entry-at-requires : goal.put_entry-at-requires
put_entry-at-requires c = omega (arith, c.loop-number.invariant.next)

pub loop-number-preserved : goal.loop-number-preserved
unfolding chunk_of
loop-number-preserved c =
    row-more (λ n. entry n (chunk_of c.args.i n)) c.args.order.now 0 (omega arith) c.loop-number.invariant
    (rw (c.given_chunks-chunks.ensures, c.from.ensures) at c.put_entry-at.ensures)

pub returns : goal.returns
unfolding entries
returns c = rows-all 18 _ (λ n. entry n (chunk_of c.args.i n)) c.args.order.now (omega arith) (omega arith) c.loop-number.invariant
