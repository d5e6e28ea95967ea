use Rattle.std.proofs.Common.{arith, length, refl, sym, ◌∙◌, ◌≡◌}
use Rattle.bit_writer.specs.WriterLaws.{fed_none, fed_then, fed_as, bits_one_more, puts_bytes}
use Rattle.bit_writer.proofs.BitWriter.bytes.Goals as goal

pub loop-x-init : goal.loop-x-init
loop-x-init c = (fed_none _ _, refl)

pub loop-x-preserved : goal.loop-x-preserved
loop-x-preserved c = (
  fed_as (sym (bits_one_more c.loop-x.x-index c.args.s.now c.loop-x-test.true))
      (fed_then c.loop-x.invariant.0 (rw c.from.ensures at c.feed-w.ensures.fed)),
  c.feed-w.ensures.fits_as_before ∙ c.loop-x.invariant.1,
)

pub returns-clause-format : goal.returns-clause-format
returns-clause-format c =
    let e : c.loop-x.x-index ≡ length c.args.s.now = omega arith in
    puts_bytes _ c.args.s.now refl (λ k. (c.type_inv.s k).fits) (rw e at c.loop-x.invariant.0) c.loop-x.invariant.1
