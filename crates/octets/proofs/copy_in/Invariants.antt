use Rattle.std.proofs.Common.{length, take, ◌≡◌}
use Rattle.octets.specs.Overwrite.{overwrite}
use Rattle.octets.proofs.copy_in.Given as goal

abbrev pub invariant-loop-j : goal.invariant-loop-j
invariant-loop-j l = (length l.out ≡ length l.initial.out) × (l.out ≡ overwrite l.initial.out l.at (take l.j l.src))
