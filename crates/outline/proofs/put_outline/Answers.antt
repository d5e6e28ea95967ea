use Rattle.std.proofs.Common.{List, ap}
use Rattle.bits.specs.State.{State}
use Rattle.octets.specs.BigEndian.{be}
use Rattle.octets.specs.OverwriteLaws.{then, recast}
use Rattle.outline.specs.Chunks.{given_order, stored_order, ignored}
use Rattle.outline.specs.Ends.{places, part_ends}
use Rattle.outline.specs.OutlineBytes.{place_bytes, outline_of}
use Rattle.outline.proofs.put_outline.Goals as goal

pub returns : goal.returns
unfolding outline_of part_ends given_order stored_order ignored
returns c =
    then (then (then (recast c.put_ends-at.ensures (ap (λ (l : List State). place_bytes (places l)) c.read_ends.ensures)) c.put_entries-at.ensures) c.put_entries-at-2.ensures) (recast c.put.ensures (ap (be 8) c.ignored.ensures))
