-- A payload is accepted exactly where its bits are a header's, zero bits up to the byte boundary, then eleven chunks of the header's sizes in
-- stored order, then any bytes; and what it then reads to is that header's record, whose chunks are those. Document 01, refusals 5 to 9
-- and 'The record and its order of bits'.
-- That this is so, in both directions, is proved in proofs/AcceptedBits.antt.
use Rattle.std.specs.Prelude.{◌≡◌, false, List, ◌++◌, map, ℕ, length, replicate}
use Rattle.bits.specs.Bit.{bits_of}
use Rattle.mini.specs.Chunks.{stored_sizes}
use Rattle.mini.specs.Cut.{joined}
use Rattle.mini.specs.Image.{image_of}
use Rattle.mini.specs.Payload.{chunks_start}
use Rattle.mini.specs.Read.{bits_to_boundary}
use Rattle.mini.specs.Same.{chunks_of}
use Rattle.mini.specs.Syntax.{header}
use Rattle.mini.specs.declared.Header.{Header}
use Rattle.mini.specs.declared.MinimizedImage.{MinimizedImage}

-- the payload s is made so, and reads to i
pub record Accepted (s : List ℕ) (i : MinimizedImage) : Type 0 where
  pub head : Header
  -- in stored order
  pub chunks : List (List ℕ)
  pub rest : List ℕ
  -- every value fits its field, and what no field stores is blank
  pub good : header.Good head
  pub sizes : map length chunks ≡ stored_sizes head.sizes
  pub bits : bits_of s ≡ header.print head ++ (replicate (bits_to_boundary (length (header.print head))) false ++ bits_of (joined chunks ++ rest))
  pub image : i ≡ image_of head (chunks_start head)
  -- the chunks that the record's positions and lengths cut out of the payload
  pub held : chunks_of i s ≡ chunks
