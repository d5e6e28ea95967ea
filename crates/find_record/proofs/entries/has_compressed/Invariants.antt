use Rattle.std.proofs.Common.{length, ◌-◌, ◌≡◌, map}
use Rattle.std.specs.List.{list_any}
use Rattle.boxes.specs.BoxesIn.{boxes_in}
use Rattle.carried.specs.ReadItems.{entry_of, compressed}
use Rattle.find_record.proofs.entries.has_compressed.Given as goal

-- the entries that are left decide
abbrev pub invariant-loop-header : goal.invariant-loop-header
invariant-loop-header l = list_any compressed (map entry_of (boxes_in l.iinf l.at)) ≡ list_any compressed (map entry_of (boxes_in l.iinf 6))

abbrev pub decreases-loop-header : goal.decreases-loop-header
decreases-loop-header l = length l.iinf - l.at
