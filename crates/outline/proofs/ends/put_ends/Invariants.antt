use Rattle.std.proofs.Common.{map, take, ◌*◌}
use Rattle.mini.specs.Cut.{joined}
use Rattle.octets.specs.BigEndian.{be}
use Rattle.octets.specs.Overwrite.{Wrote}
use Rattle.bits.specs.Run.{state}
use Rattle.outline.specs.Ends.{place}
use Rattle.outline.proofs.ends.put_ends.Given as goal

abbrev pub invariant-loop-b : goal.invariant-loop-b
invariant-loop-b l = Wrote l.initial.out l.initial.at (8 * l.b-index) (joined (map (λ b. be 8 (place (state b))) (take l.b-index l.ends))) l.out l.at
