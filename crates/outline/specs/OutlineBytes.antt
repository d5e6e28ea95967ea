-- The outline of a payload as 500 bytes (docs/ABI.md, `bustardcase_outline`): the ends of the parts of the header, the chunks in both orders, and how
-- many bytes after them are ignored; numbers big-endian.
use Rattle.std.specs.Prelude.{◌≡◌, ℕ, List, [], ◌∷◌, ◌++◌, map, length, Option}
use Rattle.std.proofs.Common.{sym, ap, ◌∙◌, length-append}
use Rattle.std.proofs.lemmas.List.{map-append}
use Rattle.octets.specs.BigEndian.{be}
use Rattle.octets.specs.BigEndianLaws.{length-be}
use Rattle.layout.specs.PartBytes.{chunk_bytes, length_chunk}
use Rattle.mini.specs.Cut.{joined, joined-append}
use Rattle.mini.specs.Read.{read_mini}
use Rattle.mini.specs.declared.MinimizedImage.{MinimizedImage}
use Rattle.octets.specs.declared.Span.{Span}
use Rattle.outline.specs.Chunks.{given_order, stored_order, chunk_of, ignored}
use Rattle.outline.specs.Ends.{◌next◌, header_parts, part_states, places, part_ends}

unfoldable pub place_bytes : List ℕ → List ℕ
place_bytes places = joined (map (be 8) places)

-- a chunk's number, and where it lies
unfoldable pub entry : ℕ → Option Span → List ℕ
entry n c = (n ∷ []) ++ chunk_bytes c

unfoldable pub entries : MinimizedImage → List ℕ → List ℕ
entries i order = joined (map (λ n. entry n (chunk_of i n)) order)

-- of a payload and its record
unfoldable pub outline_of : List ℕ → MinimizedImage → List ℕ
outline_of s i = place_bytes (part_ends s) ++ entries i given_order ++ entries i stored_order ++ be 8 (ignored i s)

unfoldable pub outline_bytes : List ℕ → List ℕ
outline_bytes s = outline_of s (read_mini s).image

-- ---- two lists one after the other
pub places-append : (l m : List ℕ) → place_bytes l ++ place_bytes m ≡ place_bytes (l ++ m)
unfolding place_bytes
places-append l m = sym (ap joined (map-append (be 8) l m) ∙ joined-append (map (be 8) l) (map (be 8) m))

pub entries-append : (i : MinimizedImage) (l m : List ℕ) → entries i l ++ entries i m ≡ entries i (l ++ m)
unfolding entries
entries-append i l m =
    let f : ℕ → List ℕ = λ n. entry n (chunk_of i n) in
    sym (ap joined (map-append f l m) ∙ joined-append (map f l) (map f m))

-- ---- it is as long as docs/ABI.md says
pub length_outline : (s : List ℕ) (i : MinimizedImage) → length (outline_of s i) ≡ 500
unfolding outline_of place_bytes part_ends places part_states header_parts ◌next◌ entries given_order stored_order entry
length_outline s i = simp (length-append, length-be, length_chunk)
