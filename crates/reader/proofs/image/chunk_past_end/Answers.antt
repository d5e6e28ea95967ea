use Rattle.std.proofs.Common.{ap, arith, le-leb, refl, length, ℕ, ◌*◌, ◌+◌, ◌∙◌}
use borrow.Author.Tests.{lt-leb}
use Rattle.bits.specs.State.{clean}
use Rattle.mini.specs.Chunks.{stored_sizes}
use Rattle.mini.specs.Cut.{sum, first_past-sum}
use Rattle.mini.specs.Image.{image_of}
use Rattle.reader.specs.Rules.{chunks_there, chunks_short}
use Rattle.reader.proofs.image.chunk_past_end.Goals as goal

pub overflow_mul-result : goal.overflow_mul-result
overflow_mul-result c =
    let a = c.args in
    record {
      fits =
          rw (c.first_past-past.ensures, c.stored_sizes.ensures)
          (omega (arith, first_past-sum (stored_sizes a.h.sizes) (length a.payload.now) c.byte-start.result));
    }

pub returns-then-payload-start : goal.returns-then-payload-start
returns-then-payload-start c =
    let a = c.args in
    let at = c.byte-start.result in
    rw (c.first_past-past.ensures, c.stored_sizes.ensures)
    (chunks_short a.payload.now a.h (clean (a.at.0 * 8 + a.at.1)) at refl (omega arith)
    (lt-leb (at + sum (stored_sizes a.h.sizes)) (length a.payload.now) (omega (arith, c.chunks_len.ensures))))

pub returns : goal.returns
returns c =
    let a = c.args in
    let at = c.byte-start.result in
    ap (λ (k : ℕ). record { refusal = 0; bit = 0; image = image_of a.h k }) (omega arith)
    ∙ chunks_there a.payload.now a.h (clean (a.at.0 * 8 + a.at.1)) at refl (omega arith)
    (le-leb (at + sum (stored_sizes a.h.sizes)) (length a.payload.now) (omega (arith, c.chunks_len.ensures)))
