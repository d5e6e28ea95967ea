use Rattle.std.proofs.Common.{Bool, true, false, refl, ◌≡◌, ◌∙◌}
use Rattle.bits.specs.Bit.{to_n}
use Rattle.bit_writer.specs.WriterLaws.{puts_flag, puts_as}
use Rattle.bit_writer.proofs.BitWriter.flag.Goals as goal

as_bit : (b : Bool) → mir.Val.bool_byte b ≡ to_n b
as_bit true = refl
as_bit false = refl

pub returns : goal.returns
returns c = puts_flag c.args.b (puts_as _ (c.from.ensures ∙ as_bit c.args.b) c.put.ensures)
