use Rattle.std.proofs.Common.{◌≡◌, ◌≤◌, length, drop, Some}
use Rattle.matching.specs.Matched.{matched}
use Rattle.slots.specs.Slots.{slots_bytes}
use Rattle.file_match.specs.SlotOf.{slots_of}
use Rattle.file_match.proofs.slot_table.match_slots.Given as goal

-- the slots that are left, from the place reached, lead to where all of them lead
abbrev pub invariant-loop-held : goal.invariant-loop-held
invariant-loop-held l =
    (matched l.file (Some l.next) (slots_bytes (slots_of l.file (drop l.held-index l.slots))) ≡ matched l.file (Some l.at) (slots_bytes (slots_of l.file l.slots)))
    × (l.next ≤ length l.file)
