use Rattle.std.proofs.Common.{length, take, ◌+◌, ◌*◌, ◌++◌}
use Rattle.octets.specs.BigEndian.{be}
use Rattle.octets.specs.Overwrite.{Wrote}
use Rattle.items.specs.ItemReferences.{item_ids, numbers}
use Rattle.items.proofs.references.put_ids.Given as goal

-- as far as the loop has come
abbrev pub invariant-loop-id : goal.invariant-loop-id
invariant-loop-id l =
    Wrote l.fn.out 0 (4 + 2 * l.id-index) (be 2 l.fn.from.0 ++ be 2 (length l.to) ++ item_ids (numbers (take l.id-index l.to))) l.out l.next
