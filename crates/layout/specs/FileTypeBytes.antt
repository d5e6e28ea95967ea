-- The file type of an 'ftyp' body as 24 bytes (docs/ABI.md): major brand, minor version, and where in the body the compatible brands lie;
-- numbers big-endian.
use Rattle.std.specs.Prelude.{◌≡◌, List, ◌++◌, ℕ, length}
use Rattle.std.proofs.Common.{length-append}
use Rattle.octets.specs.BigEndian.{be}
use Rattle.octets.specs.BigEndianLaws.{length-be}
use Rattle.ftyp.specs.declared.FileType.{FileType}
use Rattle.octets.specs.declared.Span.{Span}
use Rattle.layout.specs.PartBytes.{span_bytes, length_span}

unfoldable pub file_type_bytes : FileType Span → List ℕ
file_type_bytes t = be 4 t.major_brand ++ be 4 t.minor_version ++ span_bytes t.compatible_brands

-- ---- its length
pub length-file_type_bytes : (t : FileType Span) → length (file_type_bytes t) ≡ 24
unfolding file_type_bytes
length-file_type_bytes t = simp (length-append, length-be, length_span)
