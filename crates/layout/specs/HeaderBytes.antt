-- A box header as 45 bytes (docs/ABI.md): type, whether there is an extended type and its sixteen bytes (zeros if not), start,
-- payload start, payload length; numbers big-endian.
use Rattle.std.specs.Prelude.{◌≡◌, List, [], ◌∷◌, ◌++◌, ℕ, length, replicate, refl, Option, Some, None}
use Rattle.std.proofs.Common.{length-append}
use Rattle.octets.specs.BigEndian.{be}
use Rattle.octets.specs.BigEndianLaws.{length-be}
use Rattle.boxes.specs.declared.BoxHeader.{BoxHeader}
use Rattle.boxes.specs.declared.UserType.{UserType}

abbrev pub user_type_bytes : Option UserType → List ℕ
user_type_bytes None = replicate 17 0
user_type_bytes (Some t) = (1 ∷ []) ++ be 8 t.high ++ be 8 t.low

unfoldable pub header_bytes : BoxHeader → List ℕ
header_bytes h = be 4 h.box_type ++ user_type_bytes h.user_type ++ be 8 h.start ++ be 8 h.payload_start ++ be 8 h.payload_len

-- ---- its length
length-user_type_bytes : (u : Option UserType) → length (user_type_bytes u) ≡ 17
length-user_type_bytes None = refl
length-user_type_bytes (Some t) = simp (length-append, length-be)

pub length-header_bytes : (h : BoxHeader) → length (header_bytes h) ≡ 45
unfolding header_bytes
length-header_bytes h = simp (length-append, length-be, length-user_type_bytes)
