use Rattle.std.proofs.Common.{map, take}
use Rattle.std.specs.List.{sum_by}
use Rattle.octets.specs.Overwrite.{Wrote}
use Rattle.slots.specs.Lengths.{hdr_slot_len}
use Rattle.slots.specs.Slots.{hdr_slot, slots_bytes}
use Rattle.slots.proofs.groups.put_hdr_boxes.Given as goal

-- as far as the loop has come
abbrev pub invariant-loop-held : goal.invariant-loop-held
invariant-loop-held l =
    Wrote l.fn.out l.at (sum_by hdr_slot_len (take l.held-index l.boxes)) (slots_bytes (map hdr_slot (take l.held-index l.boxes))) l.out l.next
