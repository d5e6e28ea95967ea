use Rattle.std.proofs.Common.{map, take, ◌*◌}
use Rattle.mini.specs.Cut.{joined}
use Rattle.octets.specs.Overwrite.{Wrote}
use Rattle.outline.specs.Chunks.{chunk_of}
use Rattle.outline.specs.OutlineBytes.{entry}
use Rattle.outline.proofs.chunks.put_entries.Given as goal

abbrev pub invariant-loop-number : goal.invariant-loop-number
invariant-loop-number l =
    Wrote l.initial.out l.initial.at (18 * l.number-index) (joined (map (λ n. entry n (chunk_of l.fn.i n)) (take l.number-index l.order))) l.out l.at
