use Rattle.std.proofs.Common.{List, [], ap, length, ℕ, ◌∙◌, ◌∷◌}
use Rattle.bits.specs.State.{State}
use Rattle.octets.specs.BigEndian.{be}
use Rattle.octets.specs.OverwriteLaws.{then, recast}
use Rattle.outline.specs.Diagnosis.{part_number, is_refused, refused_part, past_chunk, past_chunk_of, past_chunk_bytes, chunk_entries_of, chunk_entries, diagnosis_bytes}
use Rattle.std.specs.List.{position}
use Rattle.outline.specs.Ends.{places, part_ends}
use Rattle.outline.specs.OutlineBytes.{place_bytes}
use Rattle.outline.proofs.diagnosis.put_diagnosis.Goals as goal

pub returns : goal.returns
unfolding refused_part part_ends past_chunk chunk_entries diagnosis_bytes
returns c =
    let one : ℕ → List ℕ = λ n. n ∷ [] in
    then
    (then
    (then
    (then
    (then (recast c.put_u8-at.ensures (ap one c.refusal_of-refusal.ensures.refusal)) (recast c.put-at.ensures (ap (be 8) c.refusal_of-refusal.ensures.bit)))
    (recast c.put_u8-at-2.ensures (ap one (c.refused_part.ensures ∙ ap (λ (l : List State). part_number (position is_refused l)) c.read_ends-ends.ensures))))
    (recast c.put_ends-at.ensures (ap (λ (l : List State). place_bytes (places l)) c.read_ends-ends.ensures)))
    (recast c.put_past_chunk-at.ensures (ap past_chunk_bytes (c.past_chunk.ensures ∙ ap (past_chunk_of (length c.args.payload.now)) c.accepted_header-header.ensures.header))))
    (recast c.put_chunk_entries.ensures (ap chunk_entries_of c.accepted_header-header.ensures.header))
