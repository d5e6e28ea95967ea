use Rattle.std.proofs.Common.{◌≡◌, drop}
use Rattle.outline.specs.Chunks.{stored_order}
use Rattle.outline.specs.Diagnosis.{first_chunk_past}
use Rattle.outline.proofs.diagnosis.first_chunk_past.Given as goal

abbrev pub invariant-loop-number : goal.invariant-loop-number
invariant-loop-number l =
    first_chunk_past l.fn.z l.fn.room stored_order ≡ first_chunk_past l.fn.z l.room (drop l.number-index stored_order)
