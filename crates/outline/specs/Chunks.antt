-- The chunks of a payload by number (docs/ABI.md, `bustardcase_outline`): a chunk's number is its place in the order in which the header gives
-- the sizes. ISO/IEC 23008-12 Amd 2, Annex O.3.2; document 01, 'The record and its order of bits'.
use Rattle.std.specs.Prelude.{◌≡◌, ℕ, ◌+◌, ◌-◌, true, List, [], ◌∷◌, map, length, slice_index, slice_index_or, refl, Option, None}
use Rattle.mini.specs.Chunks.{given_sizes, stored_sizes, chunk_if}
use Rattle.mini.specs.Same.{chunk_len}
use Rattle.mini.specs.declared.ChunkSizes.{ChunkSizes}
use Rattle.mini.specs.declared.MinimizedImage.{MinimizedImage}
use Rattle.octets.specs.declared.Span.{Span}

-- ICC, tone map ICC, gain-map metadata, data and configuration, main configuration and data, alpha data and configuration, Exif, XMP
unfoldable pub given_order : List ℕ
given_order = 1 ∷ 2 ∷ 3 ∷ 4 ∷ 5 ∷ 6 ∷ 7 ∷ 8 ∷ 9 ∷ 10 ∷ 11 ∷ []

-- as the chunks lie
unfoldable pub stored_order : List ℕ
stored_order = 6 ∷ 9 ∷ 5 ∷ 1 ∷ 2 ∷ 3 ∷ 8 ∷ 4 ∷ 7 ∷ 10 ∷ 11 ∷ []

unfoldable pub size_of : ChunkSizes → ℕ → ℕ
size_of z n = slice_index (given_sizes z) (n - 1)

-- a span of the record is present where its owner is
unfoldable pub given_chunks : MinimizedImage → List (Option Span)
given_chunks i =
    let g = i.gain_map in
    i.icc
    ∷ g.tmap_icc
    ∷ chunk_if i.has_gain_map g.metadata
    ∷ chunk_if i.has_gain_map g.«data»
    ∷ g.codec_config
    ∷ chunk_if true i.main_codec_config
    ∷ chunk_if true i.main_data
    ∷ chunk_if i.alpha i.alpha_data
    ∷ i.alpha_codec_config
    ∷ i.exif
    ∷ i.xmp
    ∷ []

unfoldable pub chunk_of : MinimizedImage → ℕ → Option Span
chunk_of i n = slice_index_or (given_chunks i) (n - 1) None

-- the end of the last chunk: Exif and XMP lie after the main data
unfoldable pub chunks_end : MinimizedImage → ℕ
chunks_end i = i.main_data.at + i.main_data.len + chunk_len i.exif + chunk_len i.xmp

-- how many bytes of the payload come after it
unfoldable pub ignored : MinimizedImage → List ℕ → ℕ
ignored i s = length s - chunks_end i

-- ---- both orders are those of the sizes and of the places
given_order_lem : (z : ChunkSizes) → map (size_of z) given_order ≡ given_sizes z
unfolding given_order size_of given_sizes
given_order_lem z = refl

pub stored_order_lem : (z : ChunkSizes) → map (size_of z) stored_order ≡ stored_sizes z
unfolding stored_order size_of given_sizes stored_sizes
stored_order_lem z = refl
