use Rattle.std.proofs.Common.{length, take}
use Rattle.octets.specs.Overwrite.{Wrote}
use Rattle.slots.specs.Associations.{kept}
use Rattle.slots.proofs.associations.put_kept.Given as goal

-- as far as the loop has come
abbrev pub invariant-loop-association : goal.invariant-loop-association
invariant-loop-association l =
    Wrote l.fn.out l.at (length (kept l.used.0 (take l.association-index l.associations))) (kept l.used.0 (take l.association-index l.associations)) l.out l.next
