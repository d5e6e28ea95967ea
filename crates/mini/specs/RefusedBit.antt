-- What stands at the bit that comes with a refusal of reading, under each number (document 02, point 5). It is so for every payload:
-- `refused_because` (mini/proofs/RefusedBit.antt).
use Rattle.std.specs.Prelude.{◌≡◌, List, ◌∷◌, ◌++◌, ◌⊎◌, ℕ, ◌+◌, ◌*◌, ◌<◌, T, length}
use Rattle.bits.specs.State.{State, clean, part}
use Rattle.bits.specs.Format.{At}
use Rattle.mini.specs.Chunks.{stored_sizes, end_within, first_past}
use Rattle.mini.specs.Cut.{sum}
use Rattle.mini.specs.Payload.{header_bits, chunks_start, found}
use Rattle.mini.specs.Read.{bits_to_boundary, past_trailing_bits}
use Rattle.mini.specs.Syntax.{header}

-- the state before the chunks, and the sizes of the header found
abbrev pub at_chunks : List ℕ → State
at_chunks s = past_trailing_bits s (header.parse s (clean 0)).1

abbrev pub found_sizes : List ℕ → List ℕ
found_sizes s = stored_sizes (found s).sizes

-- how many bits the field of the header has in which reading stops: the trailing bits always fit, since a payload is whole bytes
unfoldable pub refused_width : List ℕ → ℕ
refused_width s = header.width s (clean 0)

-- the payload begins with a header, and this bit comes next
pub record HeaderBefore (s : List ℕ) (bit : ℕ) : Type 0 where
  pub good : header.Good (found s)
  pub same : At s 0 (header.print (found s))
  pub end : bit ≡ length (header.print (found s))

-- of chunks laid one after another from a place on, the first that ends past n bytes: those before it do not
pub record Past (n at : ℕ) (zs : List ℕ) : Type 0 where
  pub before : List ℕ
  pub size : ℕ
  pub after : List ℕ
  pub split : zs ≡ before ++ (size ∷ after)
  pub fit : T (end_within n at before)
  pub over : n < at + sum before + size
  pub place : first_past n at zs ≡ at + sum before

-- the payload begins with a header and its trailing bits, and this is the first bit of the first chunk that ends past it
pub record ChunkPast (s : List ℕ) (bit : ℕ) : Type 0 where
  pub good : header.Good (found s)
  pub same : At s 0 (header_bits (found s))
  pub past : Past (length s) (chunks_start (found s)) (found_sizes s)
  pub begins : bit ≡ 8 * (chunks_start (found s) + sum past.before)

-- 5: the field that begins at the bit does not fit; 6: the version, which begins the payload, is not 0; 7: the two bits there write 3; 8: a header
-- comes before, and the bits up to the byte boundary are not all zero; 9: the chunk that begins there ends past the payload
abbrev pub Because : List ℕ → (refusal bit : ℕ) → Type 0
Because s refusal bit =
    (refusal ≡ 0)
    ⊎ (((refusal ≡ 5) × (8 * length s < bit + refused_width s))
    ⊎ (((refusal ≡ 6) × (bit ≡ 0) × (part s bit 2 ≡ 0 → ⊥))
    ⊎ (((refusal ≡ 7) × (part s bit 2 ≡ 3))
    ⊎ (((refusal ≡ 8) × HeaderBefore s bit × (part s bit (bits_to_boundary bit) ≡ 0 → ⊥)) ⊎ ((refusal ≡ 9) × ChunkPast s bit)))))
