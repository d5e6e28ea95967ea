use Rattle.std.proofs.Common.{length, ◌-◌, ◌≡◌}
use Rattle.boxes.specs.Find.{find_from}
use Rattle.boxes.proofs.find.find_box.Given as goal

-- the boxes from `at` on give the same answer as all of them
abbrev pub invariant-loop-header : goal.invariant-loop-header
invariant-loop-header l = find_from l.box_type l.buf l.at ≡ find_from l.box_type l.buf 0

abbrev pub decreases-loop-header : goal.decreases-loop-header
decreases-loop-header l = length l.buf - l.at
