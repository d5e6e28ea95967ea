use Rattle.std.proofs.Common.{arith, ap, ◌∙◌}
use Rattle.bits.specs.Run.{state}
use Rattle.reader.specs.ReadingParts.{without_record}
use Rattle.reader.specs.Rules.{stuck_there, clean_there, before_told, before_near}
use Rattle.reader.proofs.Whole.{whole, number_and_bit_with}
use Rattle.reader.proofs.refusal.Goals as goal

pub place-requires : goal.place-requires
unfolding state
place-requires c =
    let r = rw c.new.ensures at c.read_header.ensures.run in
    record {
      refusal = before_told _ r c.read_trailing_bits.ensures;
      bit = omega (arith, before_near _ r c.read_trailing_bits.ensures);
    }

pub chunk_past_end-requires : goal.chunk_past_end-requires
unfolding state
chunk_past_end-requires c =
    let d = c.in-Ok.ensures in
    record {
      sizes_bound = c.read_header.ensures.sizes_bound;
      at_bound = rw d.1 (before_near _ (rw c.new.ensures at c.read_header.ensures.run) c.read_trailing_bits.ensures);
    }

pub returns-in-Ok : goal.returns-in-Ok
unfolding state
returns-in-Ok c =
    let d = c.in-Ok.ensures in
    number_and_bit_with c.chunk_past_end.result _
    ∙ ap without_record
    (whole _ (rw c.new.ensures at c.read_header.ensures.run) c.read_trailing_bits.ensures
    (clean_there c.args.payload.now c.read_header.result.0 (state c.read_trailing_bits.result) d.0 (rw d.1) c.chunk_past_end.ensures))

pub returns-in-Err : goal.returns-in-Err
unfolding state
returns-in-Err c =
    ap without_record
    (whole _ (rw c.new.ensures at c.read_header.ensures.run) c.read_trailing_bits.ensures
    (stuck_there c.args.payload.now c.read_header.result.0 (state c.read_trailing_bits.result) c.in-Err.error c.in-Err.ensures.0 c.in-Err.ensures.1))
