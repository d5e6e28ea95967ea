-- A record positions aside, its chunks in the source lent with it, when two records are the same, and when one is well placed: document 01, 'The
-- record and its order of bits' ('Two records are the same when all fields and chunk bytes agree, positions aside') and refusal 10.
use Rattle.std.specs.Prelude.{◌≡◌, Bool, true, not, ◌&&◌, ◌||◌, List, [], ◌∷◌, ℕ, ◌+◌, leb, length, take, drop, Option, Some, None}
use Rattle.octets.specs.declared.Span.{Span}
use Rattle.mini.specs.declared.MinimizedImage.{MinimizedImage}

abbrev pub chunk_len : Option Span → ℕ
chunk_len None = 0
chunk_len (Some x) = x.len

-- ---- a record, positions aside: they are set to 0
abbrev pub unplaced_span : Span → Span
unplaced_span x = record { at = 0; len = x.len }

abbrev pub unplaced_chunk : Option Span → Option Span
unplaced_chunk None = None
unplaced_chunk (Some x) = Some (unplaced_span x)

unfoldable pub unplaced : MinimizedImage → MinimizedImage
unplaced i =
    record {
      explicit_codec_types = i.explicit_codec_types;
      format = i.format;
      full_range = i.full_range;
      chroma = i.chroma;
      orientation = i.orientation;
      width = i.width;
      height = i.height;
      explicit_cicp = i.explicit_cicp;
      icc = unplaced_chunk i.icc;
      alpha = i.alpha;
      alpha_premultiplied = i.alpha_premultiplied;
      hdr = i.hdr;
      hdr_boxes = i.hdr_boxes;
      has_gain_map = i.has_gain_map;
      gain_map =
          record {
            width = i.gain_map.width;
            height = i.gain_map.height;
            matrix_coefficients = i.gain_map.matrix_coefficients;
            full_range = i.gain_map.full_range;
            chroma = i.gain_map.chroma;
            format = i.gain_map.format;
            tmap_cicp = i.gain_map.tmap_cicp;
            tmap_icc = unplaced_chunk i.gain_map.tmap_icc;
            tmap_hdr = i.gain_map.tmap_hdr;
            metadata = unplaced_span i.gain_map.metadata;
            codec_config = unplaced_chunk i.gain_map.codec_config;
            «data» = unplaced_span i.gain_map.«data»;
          };
      main_codec_config = unplaced_span i.main_codec_config;
      main_data = unplaced_span i.main_data;
      alpha_codec_config = unplaced_chunk i.alpha_codec_config;
      alpha_data = unplaced_span i.alpha_data;
      exif_xmp_compressed = i.exif_xmp_compressed;
      exif = unplaced_chunk i.exif;
      xmp = unplaced_chunk i.xmp;
    }

-- ---- a record's chunks in the source lent with it, in stored order
abbrev pub span_bytes : Span → List ℕ → List ℕ
span_bytes x s = take x.len (drop x.at s)

abbrev pub chunk_bytes : Option Span → List ℕ → List ℕ
chunk_bytes None s = []
chunk_bytes (Some x) s = span_bytes x s

unfoldable pub chunks_of : MinimizedImage → List ℕ → List (List ℕ)
chunks_of i s =
    span_bytes i.main_codec_config s
    ∷ chunk_bytes i.alpha_codec_config s
    ∷ chunk_bytes i.gain_map.codec_config s
    ∷ chunk_bytes i.icc s
    ∷ chunk_bytes i.gain_map.tmap_icc s
    ∷ span_bytes i.gain_map.metadata s
    ∷ span_bytes i.alpha_data s
    ∷ span_bytes i.gain_map.«data» s
    ∷ span_bytes i.main_data s
    ∷ chunk_bytes i.exif s
    ∷ chunk_bytes i.xmp s
    ∷ []

-- ---- two records, each with its source, are the same
pub record Same (i : MinimizedImage) (s : List ℕ) (j : MinimizedImage) (t : List ℕ) : Type 0 where
  pub fields : unplaced i ≡ unplaced j
  pub chunks : chunks_of i s ≡ chunks_of j t

-- ---- well placed: refusal 10 does not apply. The chunks of an absent gain map are not present.
abbrev pub span_in : Span → ℕ → Bool
span_in x n = leb (x.at + x.len) n

abbrev pub chunk_in : Option Span → ℕ → Bool
chunk_in None n = true
chunk_in (Some x) n = span_in x n

abbrev pub gain_in : MinimizedImage → ℕ → Bool
gain_in i n = chunk_in i.gain_map.codec_config n && (chunk_in i.gain_map.tmap_icc n && (span_in i.gain_map.metadata n && span_in i.gain_map.«data» n))

unfoldable pub well_placed : MinimizedImage → List ℕ → Bool
well_placed i s =
    let n = length s in
    span_in i.main_codec_config n
    && (chunk_in i.alpha_codec_config n
    && ((not i.has_gain_map || gain_in i n)
    && (chunk_in i.icc n
    && (span_in i.alpha_data n && (span_in i.main_data n && (chunk_in i.exif n && chunk_in i.xmp n))))))
