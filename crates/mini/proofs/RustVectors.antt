-- Payloads that the Rust's `to_box` writes, and what its `parse` finds there. The laws of a format cannot tell two fields that are read and
-- printed in each other's place, and these can: one or two features at a time, then a record with everything. Assumes nothing.
use Rattle.std.specs.Prelude.{◌≡◌, refl, true, false, ◌&&◌, List, [], ◌∷◌, map, ℕ, zero, suc, ◌+◌, replicate, Some, is_some}
use Rattle.bits.specs.Bit.{to_n}
use Rattle.bits.specs.State.{ahead, part, bytes_of, bytes_at, read_bits, read_bytes}
use Rattle.bits.specs.Format.{◌>>=◌, view}
use Rattle.mini.specs.Blank.{blank_hdr_boxes}
use Rattle.mini.specs.Chunks.{stored_sizes, stored_spans, end_within}
use Rattle.mini.specs.Image.{image_of}
use Rattle.mini.specs.Payload.{header_bits, chunks_start}
use Rattle.mini.specs.Read.{bits_to_boundary, past_trailing_bits, test_chunks, read_chunks, read_mini}
use Rattle.mini.specs.Same.{chunk_len, chunks_of, well_placed, unplaced}
use Rattle.mini.specs.Syntax.{flags, dimensions, chroma, float_format, integer_format, sample_format, explicit_cicp, explicit_codec_types, main_format, tmap_cicp, gain_map_dimension, gain_map_format, gain_map_header, cclv, cclv_for, hdr_boxes, chunk_sizes, header, trailing_bits}
use Rattle.mini.specs.Cclv.{cclv_more}
use Rattle.mini.specs.Views.{bits_in, float_code, is_float}
use Rattle.mini.specs.Write.{least, header_with, header_of, payload_with, payload_of, writable}
use Rattle.mini.specs.declared.SampleFormat.TheVariants.{Integer, Float}
use Rattle.mini.specs.declared.MinimizedImage.{MinimizedImage}

-- the record's flags, numbers and lengths
abbrev summary : MinimizedImage → List ℕ
summary i =
    to_n (is_some i.explicit_codec_types) ∷ to_n (is_float i.format) ∷ bits_in i.format ∷ to_n i.full_range ∷ to_n i.alpha ∷ to_n i.alpha_premultiplied
    ∷ to_n (is_some i.explicit_cicp) ∷ to_n i.hdr ∷ to_n i.chroma.horizontally_centered ∷ to_n i.chroma.vertically_centered ∷ i.chroma.subsampling
    ∷ i.orientation ∷ i.width ∷ i.height ∷ chunk_len i.icc ∷ chunk_len i.exif ∷ chunk_len i.xmp ∷ to_n i.exif_xmp_compressed
    ∷ i.main_codec_config.len ∷ i.main_data.len ∷ chunk_len i.alpha_codec_config ∷ i.alpha_data.len
    ∷ to_n i.hdr_boxes.has_clli ∷ to_n i.hdr_boxes.has_mdcv ∷ to_n i.hdr_boxes.has_cclv ∷ to_n i.hdr_boxes.has_amve
    ∷ to_n i.hdr_boxes.has_reve ∷ to_n i.hdr_boxes.has_ndwt ∷ to_n i.has_gain_map ∷ i.gain_map.width ∷ i.gain_map.height ∷ i.gain_map.matrix_coefficients
    ∷ to_n i.gain_map.full_range ∷ i.gain_map.metadata.len ∷ i.gain_map.«data».len ∷ chunk_len i.gain_map.codec_config ∷ chunk_len i.gain_map.tmap_icc ∷ []

abbrev payloads : List (List ℕ × List ℕ)
payloads =
    (0x20 ∷ 0x00 ∷ 0x00 ∷ 0x00 ∷ 0x61 ∷ 0x76 ∷ 0x30 ∷ 0x31 ∷ 0x61 ∷ 0x76 ∷ 0x31 ∷ 0x43 ∷ 0x00 ∷ 0x00 ∷ 0x00 ∷ 0xAA ∷ [], 1 ∷ 0 ∷ 8 ∷ 0 ∷ 0 ∷ 0 ∷ 0 ∷ 0 ∷ 0 ∷ 0 ∷ 0 ∷ 1 ∷ 1 ∷ 1 ∷ 0 ∷ 0 ∷ 0 ∷ 0 ∷ 0 ∷ 1 ∷ 0 ∷ 0 ∷ 0 ∷ 0 ∷ 0 ∷ 0 ∷ 0 ∷ 0 ∷ 0 ∷ 0 ∷ 0 ∷ 0 ∷ 0 ∷ 0 ∷ 0 ∷ 0 ∷ 0 ∷ [])
    ∷ (0x10 ∷ 0x00 ∷ 0x00 ∷ 0x01 ∷ 0x00 ∷ 0x00 ∷ 0x00 ∷ 0xAA ∷ [], 0 ∷ 1 ∷ 64 ∷ 0 ∷ 0 ∷ 0 ∷ 0 ∷ 0 ∷ 0 ∷ 0 ∷ 0 ∷ 1 ∷ 1 ∷ 1 ∷ 0 ∷ 0 ∷ 0 ∷ 0 ∷ 0 ∷ 1 ∷ 0 ∷ 0 ∷ 0 ∷ 0 ∷ 0 ∷ 0 ∷ 0 ∷ 0 ∷ 0 ∷ 0 ∷ 0 ∷ 0 ∷ 0 ∷ 0 ∷ 0 ∷ 0 ∷ 0 ∷ [])
    ∷ (0x00 ∷ 0x00 ∷ 0x00 ∷ 0x01 ∷ 0x60 ∷ 0x00 ∷ 0x00 ∷ 0xAA ∷ [], 0 ∷ 0 ∷ 12 ∷ 0 ∷ 0 ∷ 0 ∷ 0 ∷ 0 ∷ 0 ∷ 0 ∷ 0 ∷ 1 ∷ 1 ∷ 1 ∷ 0 ∷ 0 ∷ 0 ∷ 0 ∷ 0 ∷ 1 ∷ 0 ∷ 0 ∷ 0 ∷ 0 ∷ 0 ∷ 0 ∷ 0 ∷ 0 ∷ 0 ∷ 0 ∷ 0 ∷ 0 ∷ 0 ∷ 0 ∷ 0 ∷ 0 ∷ 0 ∷ [])
    ∷ (0x08 ∷ 0x00 ∷ 0x00 ∷ 0x00 ∷ 0x00 ∷ 0x00 ∷ 0x00 ∷ 0xAA ∷ [], 0 ∷ 0 ∷ 8 ∷ 1 ∷ 0 ∷ 0 ∷ 0 ∷ 0 ∷ 0 ∷ 0 ∷ 0 ∷ 1 ∷ 1 ∷ 1 ∷ 0 ∷ 0 ∷ 0 ∷ 0 ∷ 0 ∷ 1 ∷ 0 ∷ 0 ∷ 0 ∷ 0 ∷ 0 ∷ 0 ∷ 0 ∷ 0 ∷ 0 ∷ 0 ∷ 0 ∷ 0 ∷ 0 ∷ 0 ∷ 0 ∷ 0 ∷ 0 ∷ [])
    ∷ (0x04 ∷ 0x00 ∷ 0x00 ∷ 0x00 ∷ 0x00 ∷ 0x00 ∷ 0x00 ∷ 0x00 ∷ 0x30 ∷ 0x01 ∷ 0x02 ∷ 0x03 ∷ 0xAA ∷ [], 0 ∷ 0 ∷ 8 ∷ 0 ∷ 1 ∷ 0 ∷ 0 ∷ 0 ∷ 0 ∷ 0 ∷ 0 ∷ 1 ∷ 1 ∷ 1 ∷ 0 ∷ 0 ∷ 0 ∷ 0 ∷ 0 ∷ 1 ∷ 0 ∷ 3 ∷ 0 ∷ 0 ∷ 0 ∷ 0 ∷ 0 ∷ 0 ∷ 0 ∷ 0 ∷ 0 ∷ 0 ∷ 0 ∷ 0 ∷ 0 ∷ 0 ∷ 0 ∷ [])
    ∷ (0x04 ∷ 0x00 ∷ 0x00 ∷ 0x00 ∷ 0x80 ∷ 0x00 ∷ 0x00 ∷ 0x00 ∷ 0x32 ∷ 0x09 ∷ 0x01 ∷ 0x02 ∷ 0x03 ∷ 0xAA ∷ [], 0 ∷ 0 ∷ 8 ∷ 0 ∷ 1 ∷ 1 ∷ 0 ∷ 0 ∷ 0 ∷ 0 ∷ 0 ∷ 1 ∷ 1 ∷ 1 ∷ 0 ∷ 0 ∷ 0 ∷ 0 ∷ 0 ∷ 1 ∷ 1 ∷ 3 ∷ 0 ∷ 0 ∷ 0 ∷ 0 ∷ 0 ∷ 0 ∷ 0 ∷ 0 ∷ 0 ∷ 0 ∷ 0 ∷ 0 ∷ 0 ∷ 0 ∷ 0 ∷ [])
    ∷ (0x02 ∷ 0x00 ∷ 0x00 ∷ 0x00 ∷ 0x01 ∷ 0x02 ∷ 0x03 ∷ 0x00 ∷ 0x00 ∷ 0x00 ∷ 0xAA ∷ [], 0 ∷ 0 ∷ 8 ∷ 0 ∷ 0 ∷ 0 ∷ 1 ∷ 0 ∷ 0 ∷ 0 ∷ 0 ∷ 1 ∷ 1 ∷ 1 ∷ 0 ∷ 0 ∷ 0 ∷ 0 ∷ 0 ∷ 1 ∷ 0 ∷ 0 ∷ 0 ∷ 0 ∷ 0 ∷ 0 ∷ 0 ∷ 0 ∷ 0 ∷ 0 ∷ 0 ∷ 0 ∷ 0 ∷ 0 ∷ 0 ∷ 0 ∷ 0 ∷ [])
    ∷ (0x01 ∷ 0x00 ∷ 0x00 ∷ 0x00 ∷ 0x00 ∷ 0x00 ∷ 0x00 ∷ 0x00 ∷ 0xAA ∷ [], 0 ∷ 0 ∷ 8 ∷ 0 ∷ 0 ∷ 0 ∷ 0 ∷ 1 ∷ 0 ∷ 0 ∷ 0 ∷ 1 ∷ 1 ∷ 1 ∷ 0 ∷ 0 ∷ 0 ∷ 0 ∷ 0 ∷ 1 ∷ 0 ∷ 0 ∷ 0 ∷ 0 ∷ 0 ∷ 0 ∷ 0 ∷ 0 ∷ 0 ∷ 0 ∷ 0 ∷ 0 ∷ 0 ∷ 0 ∷ 0 ∷ 0 ∷ 0 ∷ [])
    ∷ (0x00 ∷ 0x80 ∷ 0x00 ∷ 0x00 ∷ 0x00 ∷ 0x08 ∷ 0x00 ∷ 0x00 ∷ 0x07 ∷ 0x07 ∷ 0xAA ∷ [], 0 ∷ 0 ∷ 8 ∷ 0 ∷ 0 ∷ 0 ∷ 0 ∷ 0 ∷ 0 ∷ 0 ∷ 0 ∷ 1 ∷ 1 ∷ 1 ∷ 2 ∷ 0 ∷ 0 ∷ 0 ∷ 0 ∷ 1 ∷ 0 ∷ 0 ∷ 0 ∷ 0 ∷ 0 ∷ 0 ∷ 0 ∷ 0 ∷ 0 ∷ 0 ∷ 0 ∷ 0 ∷ 0 ∷ 0 ∷ 0 ∷ 0 ∷ 0 ∷ [])
    ∷ (0x00 ∷ 0x40 ∷ 0x00 ∷ 0x00 ∷ 0x00 ∷ 0x00 ∷ 0x00 ∷ 0x01 ∷ 0xAA ∷ 0x07 ∷ 0x07 ∷ [], 0 ∷ 0 ∷ 8 ∷ 0 ∷ 0 ∷ 0 ∷ 0 ∷ 0 ∷ 0 ∷ 0 ∷ 0 ∷ 1 ∷ 1 ∷ 1 ∷ 0 ∷ 2 ∷ 0 ∷ 0 ∷ 0 ∷ 1 ∷ 0 ∷ 0 ∷ 0 ∷ 0 ∷ 0 ∷ 0 ∷ 0 ∷ 0 ∷ 0 ∷ 0 ∷ 0 ∷ 0 ∷ 0 ∷ 0 ∷ 0 ∷ 0 ∷ 0 ∷ [])
    ∷ (0x00 ∷ 0x20 ∷ 0x00 ∷ 0x00 ∷ 0x00 ∷ 0x00 ∷ 0x04 ∷ 0x01 ∷ 0xAA ∷ 0x07 ∷ 0x07 ∷ [], 0 ∷ 0 ∷ 8 ∷ 0 ∷ 0 ∷ 0 ∷ 0 ∷ 0 ∷ 0 ∷ 0 ∷ 0 ∷ 1 ∷ 1 ∷ 1 ∷ 0 ∷ 0 ∷ 2 ∷ 1 ∷ 0 ∷ 1 ∷ 0 ∷ 0 ∷ 0 ∷ 0 ∷ 0 ∷ 0 ∷ 0 ∷ 0 ∷ 0 ∷ 0 ∷ 0 ∷ 0 ∷ 0 ∷ 0 ∷ 0 ∷ 0 ∷ 0 ∷ [])
    ∷ (0x00 ∷ 0x0B ∷ 0x00 ∷ 0x00 ∷ 0x80 ∷ 0x00 ∷ 0x00 ∷ 0xAA ∷ [], 0 ∷ 0 ∷ 8 ∷ 0 ∷ 0 ∷ 0 ∷ 0 ∷ 0 ∷ 0 ∷ 1 ∷ 1 ∷ 4 ∷ 1 ∷ 1 ∷ 0 ∷ 0 ∷ 0 ∷ 0 ∷ 0 ∷ 1 ∷ 0 ∷ 0 ∷ 0 ∷ 0 ∷ 0 ∷ 0 ∷ 0 ∷ 0 ∷ 0 ∷ 0 ∷ 0 ∷ 0 ∷ 0 ∷ 0 ∷ 0 ∷ 0 ∷ 0 ∷ [])
    ∷ (0x00 ∷ 0x10 ∷ 0x80 ∷ 0x80 ∷ 0x00 ∷ 0x05 ∷ 0x00 ∷ 0x00 ∷ 0x00 ∷ 0xAA ∷ [], 0 ∷ 0 ∷ 8 ∷ 0 ∷ 0 ∷ 0 ∷ 0 ∷ 0 ∷ 1 ∷ 0 ∷ 2 ∷ 1 ∷ 129 ∷ 3 ∷ 0 ∷ 0 ∷ 0 ∷ 0 ∷ 0 ∷ 1 ∷ 0 ∷ 0 ∷ 0 ∷ 0 ∷ 0 ∷ 0 ∷ 0 ∷ 0 ∷ 0 ∷ 0 ∷ 0 ∷ 0 ∷ 0 ∷ 0 ∷ 0 ∷ 0 ∷ 0 ∷ [])
    ∷ (0x00 ∷ 0x00 ∷ 0x00 ∷ 0x00 ∷ 0x80 ∷ 0x20 ∷ 0x00 ∷ 0x00 ∷ 0x01 ∷ 0x01 ∷ 0x01 ∷ 0x01 ∷ 0x01 ∷ 0x01 ∷ 0x01 ∷ 0x01 ∷ 0xAA ∷ [], 0 ∷ 0 ∷ 8 ∷ 0 ∷ 0 ∷ 0 ∷ 0 ∷ 0 ∷ 0 ∷ 0 ∷ 0 ∷ 1 ∷ 1 ∷ 1 ∷ 0 ∷ 0 ∷ 0 ∷ 0 ∷ 8 ∷ 1 ∷ 0 ∷ 0 ∷ 0 ∷ 0 ∷ 0 ∷ 0 ∷ 0 ∷ 0 ∷ 0 ∷ 0 ∷ 0 ∷ 0 ∷ 0 ∷ 0 ∷ 0 ∷ 0 ∷ 0 ∷ [])
    ∷ (0x01 ∷ 0x00 ∷ 0x00 ∷ 0x00 ∷ 0x08 ∷ 0x02 ∷ 0x02 ∷ 0x02 ∷ 0x02 ∷ 0x02 ∷ 0x02 ∷ 0x02 ∷ 0x02 ∷ 0x00 ∷ 0x00 ∷ 0x00 ∷ 0xAA ∷ [], 0 ∷ 0 ∷ 8 ∷ 0 ∷ 0 ∷ 0 ∷ 0 ∷ 1 ∷ 0 ∷ 0 ∷ 0 ∷ 1 ∷ 1 ∷ 1 ∷ 0 ∷ 0 ∷ 0 ∷ 0 ∷ 0 ∷ 1 ∷ 0 ∷ 0 ∷ 0 ∷ 0 ∷ 0 ∷ 1 ∷ 0 ∷ 0 ∷ 0 ∷ 0 ∷ 0 ∷ 0 ∷ 0 ∷ 0 ∷ 0 ∷ 0 ∷ 0 ∷ [])
    ∷ (0x01 ∷ 0x00 ∷ 0x00 ∷ 0x00 ∷ 0x22 ∷ 0x06 ∷ 0x06 ∷ 0x06 ∷ 0x06 ∷ 0x06 ∷ 0x06 ∷ 0x06 ∷ 0x06 ∷ 0x06 ∷ 0x06 ∷ 0x06 ∷ 0x06 ∷ 0x06 ∷ 0x06 ∷ 0x06 ∷ 0x06 ∷ 0x06 ∷ 0x06 ∷ 0x06 ∷ 0x06 ∷ 0x06 ∷ 0x06 ∷ 0x06 ∷ 0x06 ∷ 0x02 ∷ 0x02 ∷ 0x02 ∷ 0x02 ∷ 0x00 ∷ 0x00 ∷ 0x00 ∷ 0xAA ∷ [], 0 ∷ 0 ∷ 8 ∷ 0 ∷ 0 ∷ 0 ∷ 0 ∷ 1 ∷ 0 ∷ 0 ∷ 0 ∷ 1 ∷ 1 ∷ 1 ∷ 0 ∷ 0 ∷ 0 ∷ 0 ∷ 0 ∷ 1 ∷ 0 ∷ 0 ∷ 0 ∷ 1 ∷ 0 ∷ 0 ∷ 0 ∷ 1 ∷ 0 ∷ 0 ∷ 0 ∷ 0 ∷ 0 ∷ 0 ∷ 0 ∷ 0 ∷ 0 ∷ [])
    ∷ (0x01 ∷ 0x00 ∷ 0x00 ∷ 0x00 ∷ 0x15 ∷ 0x00 ∷ 0x06 ∷ 0x06 ∷ 0x06 ∷ 0x06 ∷ 0x06 ∷ 0x06 ∷ 0x06 ∷ 0x06 ∷ 0x06 ∷ 0x06 ∷ 0x06 ∷ 0x06 ∷ 0x06 ∷ 0x06 ∷ 0x06 ∷ 0x06 ∷ 0x06 ∷ 0x06 ∷ 0x06 ∷ 0x06 ∷ 0x00 ∷ 0x00 ∷ 0x00 ∷ 0xAA ∷ [], 0 ∷ 0 ∷ 8 ∷ 0 ∷ 0 ∷ 0 ∷ 0 ∷ 1 ∷ 0 ∷ 0 ∷ 0 ∷ 1 ∷ 1 ∷ 1 ∷ 0 ∷ 0 ∷ 0 ∷ 0 ∷ 0 ∷ 1 ∷ 0 ∷ 0 ∷ 0 ∷ 0 ∷ 1 ∷ 0 ∷ 1 ∷ 0 ∷ 0 ∷ 0 ∷ 0 ∷ 0 ∷ 0 ∷ 0 ∷ 0 ∷ 0 ∷ 0 ∷ [])
    ∷ (0x01 ∷ 0x00 ∷ 0x00 ∷ 0x00 ∷ 0xC1 ∷ 0x40 ∷ 0x00 ∷ 0x00 ∷ 0x00 ∷ 0x00 ∷ 0x00 ∷ 0x00 ∷ 0x00 ∷ 0x00 ∷ 0xAA ∷ [], 0 ∷ 0 ∷ 8 ∷ 0 ∷ 0 ∷ 0 ∷ 0 ∷ 1 ∷ 0 ∷ 0 ∷ 0 ∷ 1 ∷ 1 ∷ 1 ∷ 0 ∷ 0 ∷ 0 ∷ 0 ∷ 0 ∷ 1 ∷ 0 ∷ 0 ∷ 0 ∷ 0 ∷ 0 ∷ 0 ∷ 0 ∷ 0 ∷ 1 ∷ 1 ∷ 1 ∷ 5 ∷ 0 ∷ 0 ∷ 0 ∷ 0 ∷ 0 ∷ [])
    ∷ (0x01 ∷ 0x00 ∷ 0x00 ∷ 0x00 ∷ 0x80 ∷ 0x80 ∷ 0x05 ∷ 0x80 ∷ 0x00 ∷ 0x00 ∷ 0x03 ∷ 0x00 ∷ 0x0A ∷ 0x40 ∷ 0x00 ∷ 0x00 ∷ 0x01 ∷ 0x01 ∷ 0x01 ∷ 0x01 ∷ 0x02 ∷ 0x02 ∷ 0x02 ∷ 0x02 ∷ 0x02 ∷ 0xAA ∷ [], 0 ∷ 0 ∷ 8 ∷ 0 ∷ 0 ∷ 0 ∷ 0 ∷ 1 ∷ 0 ∷ 0 ∷ 0 ∷ 1 ∷ 1 ∷ 1 ∷ 0 ∷ 0 ∷ 0 ∷ 0 ∷ 0 ∷ 1 ∷ 0 ∷ 0 ∷ 0 ∷ 0 ∷ 0 ∷ 0 ∷ 0 ∷ 0 ∷ 1 ∷ 2 ∷ 1 ∷ 5 ∷ 1 ∷ 3 ∷ 5 ∷ 1 ∷ 0 ∷ [])
    ∷ (0x01 ∷ 0x00 ∷ 0x00 ∷ 0x00 ∷ 0xC1 ∷ 0x41 ∷ 0x00 ∷ 0x00 ∷ 0x00 ∷ 0x40 ∷ 0x00 ∷ 0x00 ∷ 0x00 ∷ 0x00 ∷ 0x00 ∷ 0x07 ∷ 0x07 ∷ 0xAA ∷ [], 0 ∷ 0 ∷ 8 ∷ 0 ∷ 0 ∷ 0 ∷ 0 ∷ 1 ∷ 0 ∷ 0 ∷ 0 ∷ 1 ∷ 1 ∷ 1 ∷ 0 ∷ 0 ∷ 0 ∷ 0 ∷ 0 ∷ 1 ∷ 0 ∷ 0 ∷ 0 ∷ 0 ∷ 0 ∷ 0 ∷ 0 ∷ 0 ∷ 1 ∷ 1 ∷ 1 ∷ 5 ∷ 0 ∷ 0 ∷ 0 ∷ 0 ∷ 2 ∷ [])
    ∷ []

pub rust_read : map (λ x. summary (read_mini x.0).image) payloads ≡ map (λ x. x.1) payloads
unfolding ahead part bytes_of bytes_at read_bits read_bytes ◌>>=◌ view flags dimensions chroma float_code float_format integer_format sample_format explicit_cicp explicit_codec_types main_format tmap_cicp gain_map_dimension gain_map_format gain_map_header cclv_more cclv cclv_for hdr_boxes chunk_sizes header trailing_bits stored_sizes stored_spans end_within image_of bits_to_boundary past_trailing_bits test_chunks read_chunks read_mini
rust_read = refl

pub rust_written : map (λ x. payload_of (read_mini x.0).image x.0) payloads ≡ map (λ x. x.0) payloads
unfolding ahead part bytes_of bytes_at read_bits read_bytes ◌>>=◌ view flags dimensions chroma float_code float_format integer_format sample_format explicit_cicp explicit_codec_types main_format tmap_cicp gain_map_dimension gain_map_format gain_map_header cclv_more cclv cclv_for hdr_boxes chunk_sizes header trailing_bits stored_sizes stored_spans end_within image_of bits_to_boundary past_trailing_bits test_chunks read_chunks read_mini header_bits chunks_start chunks_of well_placed least header_with header_of payload_with payload_of writable unplaced
rust_written = refl

-- ---- a record with everything: two HDR bodies (one a cclv of 5 bytes), a gain map with its own dimensions, alpha, ICC, Exif, XMP
abbrev bytes_from : ℕ → ℕ → List ℕ
bytes_from k zero = []
bytes_from k (suc n) = k ∷ bytes_from (k + 1) n

abbrev rich : MinimizedImage
rich =
    record {
      explicit_codec_types = Some (record { infe_type = 0x61763031; codec_config_type = 0x61763143 });
      format = Float 32;
      full_range = true;
      chroma = record { subsampling = 1; horizontally_centered = true; vertically_centered = false };
      orientation = 6;
      width = 400;
      height = 20;
      explicit_cicp = Some (record { primaries = 9; transfer = 16; matrix = 9 });
      icc = Some (record { at = 1; len = 3 });
      alpha = true;
      alpha_premultiplied = true;
      hdr = true;
      hdr_boxes =
          record {
            has_clli = true;
            has_mdcv = false;
            has_cclv = true;
            has_amve = false;
            has_reve = false;
            has_ndwt = false;
            clli = 1 ∷ 2 ∷ 3 ∷ 4 ∷ [];
            mdcv = replicate 24 0;
            cclv = 0x10 ∷ 9 ∷ 8 ∷ 7 ∷ 6 ∷ replicate 32 0;
            amve = replicate 8 0;
            reve = replicate 20 0;
            ndwt = replicate 4 0;
          };
      has_gain_map = true;
      gain_map =
          record {
            width = 200;
            height = 10;
            matrix_coefficients = 6;
            full_range = true;
            chroma = record { subsampling = 0; horizontally_centered = false; vertically_centered = false };
            format = Integer 10;
            tmap_cicp = Some (record { cicp = record { primaries = 1; transfer = 2; matrix = 3 }; full_range = true });
            tmap_icc = Some (record { at = 0; len = 2 });
            tmap_hdr = blank_hdr_boxes;
            metadata = record { at = 4; len = 5 };
            codec_config = Some (record { at = 9; len = 1 });
            «data» = record { at = 10; len = 4 };
          };
      main_codec_config = record { at = 3; len = 9 };
      main_data = record { at = 0; len = 7 };
      alpha_codec_config = Some (record { at = 2; len = 3 });
      alpha_data = record { at = 5; len = 6 };
      exif_xmp_compressed = true;
      exif = Some (record { at = 1; len = 2 });
      xmp = Some (record { at = 8; len = 8 });
    }

abbrev source : List ℕ
source = bytes_from 100 20

abbrev rich_payload : List ℕ
rich_payload = 0x3F ∷ 0xED ∷ 0x81 ∷ 0x8F ∷ 0x00 ∷ 0x27 ∷ 0x30 ∷ 0x91 ∷ 0x00 ∷ 0x96 ∷ 0x17 ∷ 0x63 ∷ 0x03 ∷ 0x16 ∷ 0x17 ∷ 0x63 ∷ 0x14 ∷ 0x38 ∷ 0x06 ∷ 0x38 ∷ 0x00 ∷ 0x90 ∷ 0x68 ∷ 0x9C ∷ 0x04 ∷ 0x08 ∷ 0x0F ∷ 0x40 ∷ 0x08 ∷ 0x10 ∷ 0x18 ∷ 0x20 ∷ 0x80 ∷ 0x48 ∷ 0x40 ∷ 0x38 ∷ 0x30 ∷ 0x08 ∷ 0x02 ∷ 0x00 ∷ 0x40 ∷ 0x50 ∷ 0x00 ∷ 0x80 ∷ 0x02 ∷ 0x01 ∷ 0x20 ∷ 0x01 ∷ 0x80 ∷ 0x03 ∷ 0x00 ∷ 0x1C ∷ 0x01 ∷ 0x01 ∷ 0xC0 ∷ 0x67 ∷ 0x68 ∷ 0x69 ∷ 0x6A ∷ 0x6B ∷ 0x6C ∷ 0x6D ∷ 0x6E ∷ 0x6F ∷ 0x66 ∷ 0x67 ∷ 0x68 ∷ 0x6D ∷ 0x65 ∷ 0x66 ∷ 0x67 ∷ 0x64 ∷ 0x65 ∷ 0x68 ∷ 0x69 ∷ 0x6A ∷ 0x6B ∷ 0x6C ∷ 0x69 ∷ 0x6A ∷ 0x6B ∷ 0x6C ∷ 0x6D ∷ 0x6E ∷ 0x6E ∷ 0x6F ∷ 0x70 ∷ 0x71 ∷ 0x64 ∷ 0x65 ∷ 0x66 ∷ 0x67 ∷ 0x68 ∷ 0x69 ∷ 0x6A ∷ 0x65 ∷ 0x66 ∷ 0x6C ∷ 0x6D ∷ 0x6E ∷ 0x6F ∷ 0x70 ∷ 0x71 ∷ 0x72 ∷ 0x73 ∷ []

pub rich_read : ((read_mini rich_payload).refusal ≡ 0) × (unplaced (read_mini rich_payload).image ≡ unplaced rich) × (chunks_of (read_mini rich_payload).image rich_payload ≡ chunks_of rich source)
unfolding ahead part bytes_of bytes_at read_bits read_bytes ◌>>=◌ view flags dimensions chroma float_code float_format integer_format sample_format explicit_cicp explicit_codec_types main_format tmap_cicp gain_map_dimension gain_map_format gain_map_header cclv_more cclv cclv_for hdr_boxes chunk_sizes header trailing_bits stored_sizes stored_spans end_within image_of bits_to_boundary past_trailing_bits test_chunks read_chunks read_mini chunks_of unplaced
rich_read = (refl, refl, refl)

pub rich-written : (payload_of rich source ≡ rich_payload) × ((writable rich && well_placed rich source) ≡ true)
unfolding ahead part bytes_of bytes_at read_bits read_bytes ◌>>=◌ view flags dimensions chroma float_code float_format integer_format sample_format explicit_cicp explicit_codec_types main_format tmap_cicp gain_map_dimension gain_map_format gain_map_header cclv_more cclv cclv_for hdr_boxes chunk_sizes header trailing_bits stored_sizes stored_spans end_within image_of bits_to_boundary past_trailing_bits test_chunks read_chunks read_mini header_bits chunks_start chunks_of well_placed least header_with header_of payload_with payload_of writable unplaced
rich-written = (refl, refl)
