use Rattle.std.proofs.Common.{arith, rules}
use Rattle.bits.specs.Run.{state}
use Rattle.reader.specs.Rules.{stuck_there, clean_there, before_told, before_near}
use Rattle.reader.proofs.Whole.{whole}
use Rattle.reader.proofs.parse.Goals as goal

pub place-requires : goal.place-requires
unfolding state
place-requires c =
    let r = rw c.new.ensures at c.read_header.ensures.run in
    record {
      refusal = before_told _ r c.read_trailing_bits.ensures;
      bit = omega (arith, before_near _ r c.read_trailing_bits.ensures);
    }

pub read_chunks-requires : goal.read_chunks-requires
unfolding state
read_chunks-requires c =
    let d = c.in_ok-place.ensures in
    record {
      sizes_bound = c.read_header.ensures.sizes_bound;
      at_bound = rw d.1 (before_near _ (rw c.new.ensures at c.read_header.ensures.run) c.read_trailing_bits.ensures);
    }

pub returns-in_err-place : goal.returns-in_err-place
unfolding state
returns-in_err-place c =
    let h = c.read_header.result.0 in
    let r = stuck_there c.args.payload.now h (state c.read_trailing_bits.result) c.in_err-place.field-0.0 c.in_err-place.ensures.0 c.in_err-place.ensures.1 in
    let w = whole _ (rw c.new.ensures at c.read_header.ensures.run) c.read_trailing_bits.ensures r in
    search (rules, w)

pub returns : goal.returns
unfolding state
returns c =
    let d = c.in_ok-place.ensures in
    whole _ (rw c.new.ensures at c.read_header.ensures.run) c.read_trailing_bits.ensures
    (clean_there c.args.payload.now c.read_header.result.0 (state c.read_trailing_bits.result) d.0 (rw d.1) c.read_chunks.ensures)
