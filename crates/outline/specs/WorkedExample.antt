-- Some payloads in numbers. The outline of one: a picture of one sample with a gain map of two, and two bytes after the last chunk.
--   header: 16 bits of flags; dimensions 1 + 7 + 7; no chroma centring; sample format 1; no alpha, cicp or codec types; gain map 31
--   (present, same size, width 7, height 7, matrix 8, full range, subsampling 2, float, high depth, ICC, cicp); six HDR flags; six more;
--   chunk sizes 3 + 10 + 15 + 3 + 3 + 15; four trailing bits
use Rattle.std.specs.Prelude.{◌≡◌, ℕ, List, [], ◌∷◌, map, refl, Option, Some, None}
use Rattle.bits.specs.State.{ahead, part, bytes_of, bytes_at, read_bits, read_bytes}
use Rattle.bits.specs.Format.{◌>>=◌, view}
use Rattle.mini.specs.Cclv.{cclv_more}
use Rattle.mini.specs.Chunks.{given_sizes, stored_sizes, stored_spans, end_within, first_past}
use Rattle.mini.specs.Cut.{joined}
use Rattle.mini.specs.Image.{image_of}
use Rattle.mini.specs.Payload.{found}
use Rattle.mini.specs.Read.{bits_to_boundary, past_trailing_bits, test_chunks, read_chunks, read_mini}
use Rattle.mini.specs.Syntax.{flags, dimensions, chroma, float_format, integer_format, sample_format, explicit_cicp, explicit_codec_types, main_format, tmap_cicp, gain_map_dimension, gain_map_format, gain_map_header, cclv, cclv_for, hdr_boxes, chunk_sizes, header, trailing_bits}
use Rattle.mini.specs.Views.{float_code}
use Rattle.octets.specs.declared.Span.{Span}
use Rattle.octets.specs.BigEndian.{be}
use Rattle.layout.specs.PartBytes.{span_bytes}
use Rattle.outline.specs.Chunks.{stored_order, size_of, given_chunks, chunk_of, chunks_end, ignored}
use Rattle.outline.specs.Diagnosis.{refused_part, first_chunk_past, accepted_header, past_chunk, chunk_entries}
use Rattle.outline.specs.Ends.{◌next◌, header_parts, part_states, places, part_ends}
use Rattle.outline.specs.OutlineBytes.{entry, entries}
use Rattle.outline.specs.declared.diagnosis.PastChunk.{PastChunk}

abbrev payload : List ℕ
payload =
    0x01 ∷ 0x00 ∷ 0x00 ∷ 0x00 ∷ 0x80 ∷ 0x80 ∷ 0x05 ∷ 0x80 ∷ 0x00 ∷ 0x00 ∷ 0x03 ∷ 0x00 ∷ 0x0A ∷ 0x40 ∷ 0x00 ∷ 0x00
    ∷ 0x01 ∷ 0x01 ∷ 0x01 ∷ 0x01 ∷ 0x02 ∷ 0x02 ∷ 0x02 ∷ 0x02 ∷ 0x02 ∷ 0xAA ∷ 0x07 ∷ 0x07 ∷ []

pub example_ends : part_ends payload ≡ 16 ∷ 31 ∷ 31 ∷ 32 ∷ 32 ∷ 32 ∷ 32 ∷ 63 ∷ 69 ∷ 75 ∷ 124 ∷ 128 ∷ []
unfolding part_ends places part_states header_parts ◌next◌ ahead part bytes_of bytes_at read_bits read_bytes ◌>>=◌ view flags dimensions chroma float_format integer_format sample_format explicit_cicp explicit_codec_types main_format tmap_cicp gain_map_dimension gain_map_format gain_map_header cclv cclv_for hdr_boxes chunk_sizes header trailing_bits bits_to_boundary past_trailing_bits
example_ends = refl

pub example_chunks : map (chunk_of (read_mini payload).image) stored_order
    ≡ Some (record { at = 16; len = 0 }) ∷ None ∷ Some (record { at = 16; len = 1 }) ∷ None ∷ None ∷ Some (record { at = 17; len = 3 }) ∷ None ∷ Some (record { at = 20; len = 5 }) ∷ Some (record { at = 25; len = 1 }) ∷ None ∷ None ∷ []
unfolding stored_order given_chunks chunk_of ahead part bytes_of bytes_at read_bits read_bytes ◌>>=◌ view flags dimensions chroma float_format integer_format sample_format explicit_cicp explicit_codec_types main_format tmap_cicp gain_map_dimension gain_map_format gain_map_header cclv cclv_for hdr_boxes chunk_sizes header trailing_bits stored_sizes stored_spans end_within first_past image_of bits_to_boundary past_trailing_bits test_chunks read_chunks read_mini
example_chunks = refl

pub example_ignored : ignored (read_mini payload).image payload ≡ 2
unfolding ignored chunks_end ahead part bytes_of bytes_at read_bits read_bytes ◌>>=◌ view flags dimensions chroma float_format integer_format sample_format explicit_cicp explicit_codec_types main_format tmap_cicp gain_map_dimension gain_map_format gain_map_header cclv cclv_for hdr_boxes chunk_sizes header trailing_bits stored_sizes stored_spans end_within first_past image_of bits_to_boundary past_trailing_bits test_chunks read_chunks read_mini
example_ignored = refl

-- ---- where reading some payloads breaks off: the part of the header, and the chunk
abbrev cut_alpha : List ℕ
cut_alpha = 0x04 ∷ 0x00 ∷ 0x00 ∷ 0x00 ∷ 0x00 ∷ 0x00 ∷ 0x20 ∷ 0x00 ∷ 0x30 ∷ 0xA1 ∷ 0xA2 ∷ []

abbrev refused_payloads : List (List ℕ × (ℕ × Option PastChunk))
refused_payloads =
    -- in the flags: nothing is there, and the version is not 0
    ([], (1, None))
    ∷ (0x40 ∷ [], (1, None))
    -- in the sample format, where the float depth code is 3
    ∷ (0x10 ∷ 0x00 ∷ 0x00 ∷ 0x01 ∷ 0x80 ∷ [], (4, None))
    -- in the HDR boxes, where a cclv is cut
    ∷ (0x01 ∷ 0x00 ∷ 0x00 ∷ 0x00 ∷ 0x10 ∷ 0x08 ∷ [], (9, None))
    -- in the trailing bits, of which the last is set
    ∷ (0x00 ∷ 0x00 ∷ 0x00 ∷ 0x00 ∷ 0x00 ∷ 0x00 ∷ 0x01 ∷ 0xAA ∷ [], (12, None))
    -- before the main data, whose one byte is not there, and the alpha data, which lacks one byte of three
    ∷ (0x00 ∷ 0x00 ∷ 0x00 ∷ 0x00 ∷ 0x00 ∷ 0x00 ∷ 0x00 ∷ [], (0, Some (record { number = 7; len = 1; missing = 1 })))
    ∷ (cut_alpha, (0, Some (record { number = 8; len = 3; missing = 1 })))
    -- nowhere
    ∷ (payload, (0, None))
    ∷ []

pub example_diagnoses : map (λ x. (refused_part x.0, past_chunk x.0)) refused_payloads ≡ map (λ x. x.1) refused_payloads
unfolding refused_part past_chunk accepted_header first_chunk_past size_of stored_order given_sizes part_states header_parts ◌next◌ ahead part bytes_of bytes_at read_bits read_bytes ◌>>=◌ view flags dimensions chroma float_code float_format integer_format sample_format explicit_cicp explicit_codec_types main_format tmap_cicp gain_map_dimension gain_map_format gain_map_header cclv_more cclv cclv_for hdr_boxes chunk_sizes header trailing_bits found bits_to_boundary past_trailing_bits
example_diagnoses = refl

-- the chunks of the one with alpha, as its header gives them: the main data begins past the payload's end
pub example_entries : chunk_entries cut_alpha
    ≡ joined (map (λ (c : ℕ × Option Span). entry c.0 c.1)
    ((6, Some (record { at = 9; len = 0 }))
    ∷ (9, None)
    ∷ (5, None)
    ∷ (1, None)
    ∷ (2, None)
    ∷ (3, None)
    ∷ (8, Some (record { at = 9; len = 3 }))
    ∷ (4, None)
    ∷ (7, Some (record { at = 12; len = 5 }))
    ∷ (10, None)
    ∷ (11, None)
    ∷ []))
unfolding chunk_entries accepted_header entries entry span_bytes be chunk_of given_chunks stored_order given_sizes ahead part bytes_of bytes_at read_bits read_bytes ◌>>=◌ view flags dimensions chroma float_code float_format integer_format sample_format explicit_cicp explicit_codec_types main_format tmap_cicp gain_map_dimension gain_map_format gain_map_header cclv_more cclv cclv_for hdr_boxes chunk_sizes header trailing_bits stored_spans image_of found bits_to_boundary past_trailing_bits
example_entries = refl
