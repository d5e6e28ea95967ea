use Rattle.std.proofs.Common.{ap, arith, le-leb, length, ◌+◌, ◌/◌, ◌∙◌}
use borrow.Author.Tests.{lt-leb}
use Rattle.bits.specs.Run.{state}
use Rattle.mini.specs.Chunks.{stored_sizes}
use Rattle.mini.specs.Cut.{sum}
use Rattle.mini.specs.declared.MinimizedImage.{MinimizedImage}
use Rattle.reader.specs.ReadingParts.{without_bit}
use Rattle.reader.specs.Rules.{chunks_stuck, chunks_there, chunks_short}
use Rattle.reader.proofs.image.read_chunks_after.Goals as goal
use Rattle.reader.proofs.image.read_chunks_after.Goals.{then-payload-bytes-via-then-payload-bytes, then-payload-bytes-via-else-payload-bytes+then-payload-bytes-2}

pub returns-then-b-ne0-clause-reading : goal.returns-then-b-ne0-clause-reading
unfolding state
returns-then-b-ne0-clause-reading c = ap without_bit (chunks_stuck c.args.payload.now c.args.h (state c.args.b) (λ e. omega (arith, c.if-b-ne0.true, e)))

pub returns-then-payload-bytes-clause-reading : goal.returns-then-payload-bytes-clause-reading
unfolding state
returns-then-payload-bytes-clause-reading c =
    let a = c.args in
    let at = a.b.at.0 + a.b.at.1 / 8 in
    ap without_bit
    (chunks_short a.payload.now a.h (state a.b) at (omega (arith, c.if-b-ne0.false)) (omega arith)
    (lt-leb (at + sum (stored_sizes a.h.sizes)) (length a.payload.now)
    (elim c.then-payload-bytes.branch [
      | then-payload-bytes-via-then-payload-bytes w ↦ omega (arith, w.if-payload-bytes.true)
      | then-payload-bytes-via-else-payload-bytes+then-payload-bytes-2 w ↦ omega (arith, w.chunks_len.ensures, w.if-payload-bytes.false, w.if-payload-bytes-2.true)
    ])))

pub returns-clause-reading : goal.returns-clause-reading
unfolding state
returns-clause-reading c =
    let a = c.args in
    let at = a.b.at.0 + a.b.at.1 / 8 in
    ap (λ (i : MinimizedImage). (0, i)) c.image_of.ensures
    ∙ ap without_bit
    (chunks_there a.payload.now a.h (state a.b) at (omega (arith, c.if-b-ne0.false)) (omega arith)
    (le-leb (at + sum (stored_sizes a.h.sizes)) (length a.payload.now) (omega (arith, c.chunks_len.ensures, c.if-payload-bytes.false, c.if-payload-bytes-2.false))))
