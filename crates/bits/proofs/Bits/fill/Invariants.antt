use Rattle.std.proofs.Common.{take, ◌≡◌}
use Rattle.bits.specs.Run.{bit_index}
use Rattle.bits.specs.State.{bytes_at}
use Rattle.bits.proofs.Bits.fill.Given as goal

abbrev pub invariant-loop-i : goal.invariant-loop-i
invariant-loop-i l = take l.i l.out ≡ bytes_at l.data (bit_index l.fn.self.at) l.i
