use Rattle.std.proofs.Common.{Bool, List, ap, arith, ◌+◌, ◌++◌, ◌%◌, ◌^◌, length, mod-eq_of_lt, refl, rules, sym, ℕ, ◌-◌, ◌<◌, ◌∙◌}
use Rattle.bits.specs.Bit.{bits_n, length-bits_n}
use Rattle.bit_writer.specs.Writer.{feed, waiting}
use Rattle.bit_writer.specs.WriterLaws.{feed_octet, feed_few}
use Rattle.bit_writer.proofs.BitWriter.feed.Goals as goal

pub loop-m-init : goal.loop-m-init
loop-m-init c = (omega arith, refl, refl)

pub loop-m-preserved : goal.loop-m-preserved
loop-m-preserved c =
    let all = c.join-all.result in
    let t = c.loop-m-test.true in (
      omega arith,
      search rules,
      ap (λ (o : List ℕ). feed o ((c.loop-m.k + 1) % 2 ^ 64) (bits_n (c.loop-m.m - 8) all)) c.store.ensures
          ∙ sym (feed_octet c.loop-m.out c.loop-m.k c.loop-m.m (c.loop-m.m - 8) all (omega arith))
          ∙ c.loop-m.invariant.2,
    )

pub returns : goal.returns
unfolding waiting
returns c =
    let a = c.args in
    let all = c.join-all.result in
    let few : c.loop-m.m < 8 = omega arith in
    let short : length (bits_n c.loop-m.m all) < 8 = omega (arith, length-bits_n c.loop-m.m all) in record {
      fed = record {
        eq =
            ap (λ (x : List Bool). feed a.out.now a.self.at.0 x)
            (ap (λ (j : ℕ). bits_n j a.self.bits ++ bits_n a.n a.v) (sym c.bit-j.ensures) ∙ sym c.join-all.ensures)
            ∙ sym c.loop-m.invariant.2
            ∙ feed_few (bits_n c.loop-m.m all) c.loop-m.out c.loop-m.k short
            ∙ ap (λ (j : ℕ). (c.loop-m.out, (c.loop-m.k, bits_n j all))) (sym (mod-eq_of_lt few));
      };
      fits_as_before = refl;
    }
