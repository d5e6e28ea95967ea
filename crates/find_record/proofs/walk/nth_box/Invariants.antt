use Rattle.std.proofs.Common.{length, ◌-◌, ◌≡◌, get_or}
use Rattle.boxes.specs.Header.{blank}
use Rattle.boxes.specs.Walk.{walk}
use Rattle.find_record.proofs.walk.nth_box.Given as goal

-- the boxes from `at` on give the same answer as those from the start on
abbrev pub invariant-loop-header : goal.invariant-loop-header
invariant-loop-header l = get_or (walk l.s l.at) l.left blank ≡ get_or (walk l.s l.initial.at) l.n blank

abbrev pub decreases-loop-header : goal.decreases-loop-header
decreases-loop-header l = length l.s - l.at
