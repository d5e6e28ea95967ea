-- Where reading a payload broke off, for people who look for the cause (docs/ABI.md, `bustardcase_diagnose`; document 02, point 5): the part of the
-- header in which it was refused, or the chunk that ends past the payload and how many of its bytes are missing; and the chunks as the header gives
-- them. As 321 bytes, numbers big-endian.
use Rattle.std.specs.Prelude.{Bool, cond, List, [], ◌∷◌, ◌++◌, Option, Some, None, ℕ, ◌+◌, ◌-◌, ◌/◌, ◌==◌, nat_lt, nat_le, length, replicate}
use Rattle.std.specs.List.{position}
use Rattle.octets.specs.BigEndian.{be}
use Rattle.bits.specs.State.{State}
use Rattle.mini.specs.Image.{image_of}
use Rattle.mini.specs.Payload.{found}
use Rattle.mini.specs.Read.{read_mini}
use Rattle.mini.specs.RefusedBit.{at_chunks}
use Rattle.mini.specs.declared.ChunkSizes.{ChunkSizes}
use Rattle.mini.specs.declared.Header.{Header}
use Rattle.outline.specs.Chunks.{stored_order, size_of}
use Rattle.outline.specs.Ends.{part_states, part_ends}
use Rattle.outline.specs.OutlineBytes.{place_bytes, entries}
use Rattle.outline.specs.declared.diagnosis.PastChunk.{PastChunk}

-- ---- the part of the header
abbrev pub is_refused : State → Bool
is_refused b = nat_lt 0 b.refusal

-- the number of a part by its place among them; 0 for none
abbrev pub part_number : Option ℕ → ℕ
part_number None = 0
part_number (Some k) = k + 1

-- the part in which reading was refused, 1 to 12: the first after which there is a refusal
unfoldable pub refused_part : List ℕ → ℕ
refused_part s = part_number (position is_refused (part_states s))

-- ---- the chunk
-- of the chunks with these numbers, laid one after another into so many bytes, the first that passes their end
unfoldable pub first_chunk_past : ChunkSizes → ℕ → List ℕ → Option PastChunk
first_chunk_past z room [] = None
first_chunk_past z room (k ∷ l) =
    let len = size_of z k in
    cond (nat_le len room) (first_chunk_past z (room - len) l) (Some (record { number = k; len = len; missing = len - room }))

-- the header and the byte at which its chunks begin, where it is accepted
unfoldable pub accepted_header : List ℕ → Option (Header × ℕ)
accepted_header s =
    let b = at_chunks s in
    cond (b.refusal == 0) (Some (found s, b.at / 8)) None

-- of a payload of n bytes, behind such a header
abbrev pub past_chunk_of : ℕ → Option (Header × ℕ) → Option PastChunk
past_chunk_of n None = None
past_chunk_of n (Some h) = first_chunk_past h.0.sizes (n - h.1) stored_order

unfoldable pub past_chunk : List ℕ → Option PastChunk
past_chunk s = past_chunk_of (length s) (accepted_header s)

-- ---- as bytes
abbrev pub past_chunk_bytes : Option PastChunk → List ℕ
past_chunk_bytes None = replicate 17 0
past_chunk_bytes (Some c) = (c.number ∷ []) ++ be 8 c.len ++ be 8 c.missing

-- the chunks as such a header gives them, whether or not the payload has their bytes: as in an outline
abbrev pub chunk_entries_of : Option (Header × ℕ) → List ℕ
chunk_entries_of None = replicate 198 0
chunk_entries_of (Some h) = entries (image_of h.0 h.1) stored_order

unfoldable pub chunk_entries : List ℕ → List ℕ
chunk_entries s = chunk_entries_of (accepted_header s)

-- the refusal's number and its bit, the part, where the parts end, the chunk, and all the chunks
unfoldable pub diagnosis_bytes : List ℕ → List ℕ
diagnosis_bytes s =
    ((read_mini s).refusal ∷ [])
    ++ be 8 (read_mini s).bit
    ++ (refused_part s ∷ [])
    ++ place_bytes (part_ends s)
    ++ past_chunk_bytes (past_chunk s)
    ++ chunk_entries s
