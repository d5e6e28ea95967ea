use Rattle.std.proofs.Common.{take, ◌≡◌}
use Rattle.bits.specs.Bit.{bits_of}
use Rattle.bit_writer.specs.Writer.{fits, Fed}
use Rattle.bit_writer.proofs.BitWriter.bytes.Given as goal

abbrev pub invariant-loop-x : goal.invariant-loop-x
invariant-loop-x l = Fed l.initial.out l.initial.w (bits_of (take l.x-index l.s)) l.out l.w × (fits l.w ≡ fits l.initial.w)
