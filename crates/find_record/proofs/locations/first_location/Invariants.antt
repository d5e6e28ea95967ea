use Rattle.std.proofs.Common.{◌≡◌, ◌+◌, ◌-◌, ◌*◌, drop}
use Rattle.octets.specs.BigEndian.{num}
use Rattle.items.specs.OneLocation.{locations_of}
use Rattle.items.specs.ReadLocations.{read_entries}
use Rattle.carried.specs.ReadFile.{first_span}
use Rattle.find_record.proofs.locations.first_location.Given as goal

-- the entries that are left decide
abbrev pub invariant-loop-i : goal.invariant-loop-i
invariant-loop-i l =
    first_span (locations_of l.id.0 (read_entries (l.i-end - l.i) (drop (8 + 16 * l.i) l.iloc)))
    ≡ first_span (locations_of l.id.0 (read_entries (num 2 l.iloc 6) (drop 8 l.iloc)))
