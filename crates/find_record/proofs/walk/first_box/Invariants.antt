use Rattle.std.proofs.Common.{length, ◌-◌, ◌≡◌}
use Rattle.boxes.specs.Walk.{find, walk}
use Rattle.find_record.proofs.walk.first_box.Given as goal

-- the boxes from `at` on give the same answer as those from the start on
abbrev pub invariant-loop-header : goal.invariant-loop-header
invariant-loop-header l = find l.box_type (walk l.s l.at) ≡ find l.box_type (walk l.s l.initial.at)

abbrev pub decreases-loop-header : goal.decreases-loop-header
decreases-loop-header l = length l.s - l.at
