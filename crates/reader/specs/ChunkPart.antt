-- A chunk handed out as a part of the payload lent (document 01, 'What changes shape').
use Rattle.std.specs.Prelude.{◌≡◌, true, List, ℕ, length, Option, Some, None}
use Rattle.std.proofs.Common.{◌∙◌, arith, le-leb}
use Rattle.std.specs.Borrow.{Bor}
use Rattle.octets.specs.Part.{Part, part_of}
use Rattle.mini.specs.Same.{chunk_bytes, chunk_in}
use Rattle.octets.specs.declared.Span.{Span}

-- an absent chunk is the empty part at the payload's start
abbrev pub ChunkPart : Bor (List ℕ) → Option Span → Bor (List ℕ) → Type 0
ChunkPart payload None part = Part payload 0 0 part
ChunkPart payload (Some x) part = Part payload x.at x.len part

-- a well-placed chunk is handed out with its own bytes
pub own-bytes : (payload part : Bor (List ℕ)) (c : Option Span) → ChunkPart payload c part → chunk_in c (length payload.now) ≡ true
    → part.now ≡ chunk_bytes c payload.now
unfolding part_of
own-bytes payload part None p h = p.bytes ∙ simp (le-leb 0 (length payload.now) (omega arith))
own-bytes payload part (Some x) p h = p.bytes ∙ simp h
