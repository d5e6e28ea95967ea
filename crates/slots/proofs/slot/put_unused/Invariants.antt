use Rattle.std.proofs.Common.{replicate, ◌*◌}
use Rattle.octets.specs.Overwrite.{Wrote}
use Rattle.slots.specs.Slots.{none, slots_bytes}
use Rattle.slots.proofs.slot.put_unused.Given as goal

-- as far as the loop has come
abbrev pub invariant-loop : goal.invariant-loop
invariant-loop l = Wrote l.fn.out l.at (8 * l.counter) (slots_bytes (replicate l.counter none)) l.out l.next
