use Rattle.std.proofs.Common.{arith, pow_mono}
use Rattle.std.proofs.lemmas.Nat.{pow-add}
use Rattle.header_reader.proofs.fields.float_bits.Goals as goal

pub returns : goal.returns
returns c = omega (arith, pow-add 2 c.args.code 4, pow_mono {i = c.args.code} {j = 3} (omega arith))
