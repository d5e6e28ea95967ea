-- Writing a record: the header that it has under given choices of width, the narrowest choices, the payload, and which records any
-- payload gives (refusal 11). Document 01, 'src/mini.rs, writing'.
use Rattle.std.specs.Prelude.{Bool, true, ◌&&◌, ◌||◌, List, ◌++◌, ℕ, eqb, ltb, Option, Some, None, is_some}
use Rattle.bits.specs.State.{bytes_of}
use Rattle.mini.specs.Cut.{joined}
use Rattle.mini.specs.Payload.{header_bits, chunks_start}
use Rattle.mini.specs.Same.{chunk_len, chunks_of}
use Rattle.mini.specs.Syntax.{header}
use Rattle.mini.specs.Views.{is_float}
use Rattle.mini.specs.declared.Header.{Header}
use Rattle.octets.specs.declared.Span.{Span}
use Rattle.mini.specs.declared.MinimizedImage.{MinimizedImage}

-- ---- the choices of width
pub record Choices : Type 0 where
  pub large : Bool
  pub same : Bool
  pub metadata : Bool
  pub config : Bool
  pub item : Bool

-- the narrowest that a record's numbers allow
unfoldable pub least : MinimizedImage → Choices
least i =
    record {
      large = ltb 128 i.width || (ltb 128 i.height || (ltb 128 i.gain_map.width || ltb 128 i.gain_map.height));
      same = i.has_gain_map && (eqb i.gain_map.width i.width && eqb i.gain_map.height i.height);
      metadata =
          ltb 1024 (chunk_len i.icc)
          || (ltb 1024 (chunk_len i.gain_map.tmap_icc)
          || (ltb 1023 i.gain_map.metadata.len || (ltb 1024 (chunk_len i.exif) || ltb 1024 (chunk_len i.xmp))));
      config =
          ltb 7 i.main_codec_config.len || (ltb 7 (chunk_len i.alpha_codec_config) || ltb 7 (chunk_len i.gain_map.codec_config));
      item = ltb 32768 i.main_data.len || (ltb 32767 i.alpha_data.len || ltb 32767 i.gain_map.«data».len);
    }

-- the header of a record under choices
unfoldable pub header_with : MinimizedImage → Choices → Header
header_with i c =
    record {
      flags =
          record {
            explicit_codec_types = is_some i.explicit_codec_types;
            float = is_float i.format;
            full_range = i.full_range;
            alpha = i.alpha;
            explicit_cicp = is_some i.explicit_cicp;
            hdr = i.hdr;
            icc = is_some i.icc;
            exif = is_some i.exif;
            xmp = is_some i.xmp;
            subsampling = i.chroma.subsampling;
            orientation = i.orientation;
          };
      dimensions = record { large = c.large; width = i.width; height = i.height };
      main =
          record { chroma = i.chroma; format = i.format; alpha_premultiplied = i.alpha_premultiplied; explicit_cicp = i.explicit_cicp; explicit_codec_types = i.explicit_codec_types };
      gain_map =
          record {
            present = i.has_gain_map;
            same_dimensions = c.same;
            width = i.gain_map.width;
            height = i.gain_map.height;
            matrix_coefficients = i.gain_map.matrix_coefficients;
            full_range = i.gain_map.full_range;
            subsampling = i.gain_map.chroma.subsampling;
            chroma = i.gain_map.chroma;
            float = is_float i.gain_map.format;
            format = i.gain_map.format;
            tmap_icc = is_some i.gain_map.tmap_icc;
            tmap_explicit_cicp = is_some i.gain_map.tmap_cicp;
            tmap_cicp = i.gain_map.tmap_cicp;
          };
      hdr_boxes = i.hdr_boxes;
      tmap_hdr = i.gain_map.tmap_hdr;
      sizes =
          record {
            large_metadata = c.metadata;
            large_codec_config = c.config;
            large_item_data = c.item;
            icc = chunk_len i.icc;
            tmap_icc = chunk_len i.gain_map.tmap_icc;
            gain_map_metadata = i.gain_map.metadata.len;
            gain_map_data = i.gain_map.«data».len;
            gain_map_codec_config = chunk_len i.gain_map.codec_config;
            main_codec_config = i.main_codec_config.len;
            main_data = i.main_data.len;
            alpha_data = i.alpha_data.len;
            alpha_codec_config = chunk_len i.alpha_codec_config;
            exif_xmp_compressed = i.exif_xmp_compressed;
            exif = chunk_len i.exif;
            xmp = chunk_len i.xmp;
          };
    }

unfoldable pub header_of : MinimizedImage → Header
header_of i = header_with i (least i)

-- ---- the payload
unfoldable pub payload_with : Header → List (List ℕ) → List ℕ
payload_with h cs = bytes_of (chunks_start h) (header_bits h) ++ joined cs

unfoldable pub payload_of : MinimizedImage → List ℕ → List ℕ
payload_of i s = payload_with (header_of i) (chunks_of i s)

-- ---- refusal 11 does not apply: the header's format takes the record's numbers, and no empty configuration is held as present
abbrev pub not_empty : Option Span → Bool
not_empty None = true
not_empty (Some x) = ltb 0 x.len

unfoldable pub writable : MinimizedImage → Bool
writable i = header.good (header_of i) && (not_empty i.alpha_codec_config && not_empty i.gain_map.codec_config)
