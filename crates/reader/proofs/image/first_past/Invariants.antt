use Rattle.std.proofs.Common.{drop, ◌+◌, ◌≡◌}
use Rattle.mini.specs.Chunks.{first_past}
use Rattle.mini.specs.Cut.{sum}
use Rattle.reader.proofs.image.first_past.Given as goal

-- the parts that are left, from `at` on, give the same place, and end where all do
abbrev pub invariant-loop-size : goal.invariant-loop-size
invariant-loop-size l =
    (first_past l.n l.at (drop l.size-index l.sizes) ≡ first_past l.n l.initial.at l.sizes)
    × (l.at + sum (drop l.size-index l.sizes) ≡ l.initial.at + sum l.sizes)
