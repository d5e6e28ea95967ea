use Rattle.std.proofs.Common.{length, ◌+◌, ◌≡◌, ◌≤◌}
use Rattle.bits.specs.Bit.{bits_n}
use Rattle.bit_writer.specs.Writer.{feed}
use Rattle.bit_writer.proofs.BitWriter.feed.Given as goal

-- what is still to be fed leads to the same end
abbrev pub invariant-loop-m : goal.invariant-loop-m
invariant-loop-m l = (l.m ≤ 39) × (length l.out ≡ length l.initial.out) × (feed l.out l.k (bits_n l.m l.all) ≡ feed l.initial.out l.self.at.0 (bits_n (l.j + l.n) l.all))

abbrev pub decreases-loop-m : goal.decreases-loop-m
decreases-loop-m l = l.m
