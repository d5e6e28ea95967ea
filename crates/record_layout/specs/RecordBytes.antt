-- A record as 441 bytes (docs/ABI.md), field by field in the order of the record; numbers big-endian. What may be absent has a
-- byte before it, 1 if it is present, else 0, and zeros in its place.
use Rattle.std.specs.Prelude.{Bool, cond, List, [], ◌∷◌, ◌++◌, ℕ, replicate, Option, Some, None}
use Rattle.octets.specs.BigEndian.{be}
use Rattle.layout.specs.PartBytes.{flag_bytes, chunk_bytes, span_bytes}
use Rattle.mini.specs.Views.{is_float, bits_in}
use Rattle.mini.specs.declared.Cicp.{Cicp}
use Rattle.mini.specs.declared.CodecTypes.{CodecTypes}
use Rattle.mini.specs.declared.MiniChroma.{MiniChroma}
use Rattle.mini.specs.declared.MiniGainMap.{MiniGainMap}
use Rattle.mini.specs.declared.MiniHdrBoxes.{MiniHdrBoxes}
use Rattle.mini.specs.declared.MinimizedImage.{MinimizedImage}
use Rattle.mini.specs.declared.SampleFormat.{SampleFormat}
use Rattle.mini.specs.declared.TmapCicp.{TmapCicp}

-- item type and configuration type
abbrev pub codec_types_bytes : Option CodecTypes → List ℕ
codec_types_bytes None = replicate 9 0
codec_types_bytes (Some t) = (1 ∷ []) ++ be 4 t.infe_type ++ be 4 t.codec_config_type

-- 0 integer, 1 float; bits
unfoldable pub format_bytes : SampleFormat → List ℕ
format_bytes f = flag_bytes (is_float f) ++ (bits_in f ∷ [])

unfoldable pub chroma_bytes : MiniChroma → List ℕ
chroma_bytes c = (c.subsampling ∷ []) ++ flag_bytes c.horizontally_centered ++ flag_bytes c.vertically_centered

-- primaries, transfer, matrix
unfoldable pub colour_bytes : Cicp → List ℕ
colour_bytes c = (1 ∷ []) ++ (c.primaries ∷ []) ++ (c.transfer ∷ []) ++ (c.matrix ∷ [])

abbrev pub cicp_bytes : Option Cicp → List ℕ
cicp_bytes None = replicate 4 0
cicp_bytes (Some c) = colour_bytes c

-- and full range
abbrev pub tmap_cicp_bytes : Option TmapCicp → List ℕ
tmap_cicp_bytes None = replicate 5 0
tmap_cicp_bytes (Some c) = colour_bytes c.cicp ++ flag_bytes c.full_range

unfoldable pub hdr_flag_bytes : MiniHdrBoxes → List ℕ
hdr_flag_bytes h =
    flag_bytes h.has_clli ++ flag_bytes h.has_mdcv ++ flag_bytes h.has_cclv ++ flag_bytes h.has_amve ++ flag_bytes h.has_reve
    ++ flag_bytes h.has_ndwt

-- 4, 24, 37, 8, 20 and 4 bytes
unfoldable pub hdr_body_bytes : MiniHdrBoxes → List ℕ
hdr_body_bytes h = h.clli ++ h.mdcv ++ h.cclv ++ h.amve ++ h.reve ++ h.ndwt

unfoldable pub hdr_boxes_bytes : MiniHdrBoxes → List ℕ
hdr_boxes_bytes h = hdr_flag_bytes h ++ hdr_body_bytes h

unfoldable pub gain_map_picture_bytes : MiniGainMap → List ℕ
gain_map_picture_bytes g =
    be 4 g.width ++ be 4 g.height ++ (g.matrix_coefficients ∷ []) ++ flag_bytes g.full_range ++ chroma_bytes g.chroma
    ++ format_bytes g.format
    ++ tmap_cicp_bytes g.tmap_cicp

unfoldable pub gain_map_bytes : MiniGainMap → List ℕ
gain_map_bytes g =
    gain_map_picture_bytes g ++ chunk_bytes g.tmap_icc ++ hdr_boxes_bytes g.tmap_hdr ++ span_bytes g.metadata
    ++ chunk_bytes g.codec_config
    ++ span_bytes g.«data»

unfoldable pub picture_bytes : MinimizedImage → List ℕ
picture_bytes i =
    codec_types_bytes i.explicit_codec_types ++ format_bytes i.format ++ flag_bytes i.full_range ++ chroma_bytes i.chroma
    ++ (i.orientation ∷ [])
    ++ be 4 i.width
    ++ be 4 i.height

unfoldable pub colour_and_alpha_bytes : MinimizedImage → List ℕ
colour_and_alpha_bytes i =
    cicp_bytes i.explicit_cicp ++ chunk_bytes i.icc ++ flag_bytes i.alpha ++ flag_bytes i.alpha_premultiplied ++ flag_bytes i.hdr

unfoldable pub item_bytes : MinimizedImage → List ℕ
item_bytes i =
    span_bytes i.main_codec_config ++ span_bytes i.main_data ++ chunk_bytes i.alpha_codec_config ++ span_bytes i.alpha_data
    ++ flag_bytes i.exif_xmp_compressed
    ++ chunk_bytes i.exif
    ++ chunk_bytes i.xmp

-- HDR bodies where hdr is set, a gain map where there is one
abbrev pub hdr_boxes_bytes_if : Bool → MiniHdrBoxes → List ℕ
hdr_boxes_bytes_if on h = cond on (hdr_boxes_bytes h) (replicate 103 0)

abbrev pub gain_map_bytes_if : Bool → MiniGainMap → List ℕ
gain_map_bytes_if on g = cond on (gain_map_bytes g) (replicate 189 0)

unfoldable pub record_bytes : MinimizedImage → List ℕ
record_bytes i =
    picture_bytes i ++ colour_and_alpha_bytes i ++ hdr_boxes_bytes_if i.hdr i.hdr_boxes ++ flag_bytes i.has_gain_map
    ++ gain_map_bytes_if i.has_gain_map i.gain_map
    ++ item_bytes i
