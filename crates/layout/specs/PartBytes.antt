-- What several layouts of docs/ABI.md have; numbers big-endian. OPTION: a byte that is 1 if something is present, else 0, and zeros in its place.
use Rattle.std.specs.Prelude.{◌≡◌, refl, Bool, true, false, List, [], ◌∷◌, ◌++◌, ℕ, length, replicate, Option, Some, None}
use Rattle.std.proofs.Common.{length-append}
use Rattle.octets.specs.BigEndian.{be}
use Rattle.octets.specs.BigEndianLaws.{length-be}
use Rattle.octets.specs.declared.Span.{Span}

abbrev pub flag_bytes : Bool → List ℕ
flag_bytes true = 1 ∷ []
flag_bytes false = 0 ∷ []

-- SPAN: position and length in the bytes lent
unfoldable pub span_bytes : Span → List ℕ
span_bytes s = be 8 s.at ++ be 8 s.len

-- CHUNK: the same of what may be absent
abbrev pub chunk_bytes : Option Span → List ℕ
chunk_bytes None = replicate 17 0
chunk_bytes (Some s) = (1 ∷ []) ++ span_bytes s

-- ---- lengths
pub length-flag : (on : Bool) → length (flag_bytes on) ≡ 1
length-flag true = refl
length-flag false = refl

pub length_span : (s : Span) → length (span_bytes s) ≡ 16
unfolding span_bytes
length_span s = simp (length-append, length-be)

pub length_chunk : (c : Option Span) → length (chunk_bytes c) ≡ 17
length_chunk None = refl
length_chunk (Some s) = simp length_span
