-- The layout of a record is as long as docs/ABI.md says.
use Rattle.std.specs.Prelude.{◌≡◌, refl, Bool, true, false, length, Option, Some, None}
use Rattle.std.proofs.Common.{length-append}
use Rattle.octets.specs.BigEndianLaws.{length-be}
use Rattle.mini.specs.declared.Cicp.{Cicp}
use Rattle.mini.specs.declared.CodecTypes.{CodecTypes}
use Rattle.mini.specs.declared.MiniChroma.{MiniChroma}
use Rattle.mini.specs.declared.MiniGainMap.{MiniGainMap}
use Rattle.mini.specs.declared.MiniHdrBoxes.{MiniHdrBoxes}
use Rattle.mini.specs.declared.MinimizedImage.{MinimizedImage}
use Rattle.mini.specs.declared.SampleFormat.{SampleFormat}
use Rattle.mini.specs.declared.TmapCicp.{TmapCicp}
use Rattle.layout.specs.PartBytes.{length-flag, length_chunk, length_span}
use Rattle.record_layout.specs.RecordBytes.{codec_types_bytes, format_bytes, chroma_bytes, colour_bytes, cicp_bytes, tmap_cicp_bytes, hdr_flag_bytes, hdr_body_bytes, hdr_boxes_bytes, hdr_boxes_bytes_if, gain_map_picture_bytes, gain_map_bytes, gain_map_bytes_if, picture_bytes, colour_and_alpha_bytes, item_bytes, record_bytes}

length_types : (t : Option CodecTypes) → length (codec_types_bytes t) ≡ 9
length_types None = refl
length_types (Some t) = simp (length-append, length-be)

length_format : (f : SampleFormat) → length (format_bytes f) ≡ 2
unfolding format_bytes
length_format f = simp (length-append, length-flag)

length-chroma : (c : MiniChroma) → length (chroma_bytes c) ≡ 3
unfolding chroma_bytes
length-chroma c = simp (length-append, length-flag)

length_cicp : (t : Option Cicp) → length (cicp_bytes t) ≡ 4
unfolding colour_bytes
length_cicp None = refl
length_cicp (Some c) = refl

length_tmap : (t : Option TmapCicp) → length (tmap_cicp_bytes t) ≡ 5
unfolding colour_bytes
length_tmap None = refl
length_tmap (Some c) = simp length-flag

-- the bodies have the lengths that their type gives them
pub length_hdr : (h : MiniHdrBoxes) → length h.clli ≡ 4 → length h.mdcv ≡ 24 → length h.cclv ≡ 37 → length h.amve ≡ 8
    → length h.reve ≡ 20
    → length h.ndwt ≡ 4
    → length (hdr_boxes_bytes h) ≡ 103
unfolding hdr_boxes_bytes hdr_flag_bytes hdr_body_bytes
length_hdr h a b c d e f = simp (length-append, length-flag, a, b, c, d, e, f)

length_hdr_if : (on : Bool) (h : MiniHdrBoxes) → length (hdr_boxes_bytes h) ≡ 103 → length (hdr_boxes_bytes_if on h) ≡ 103
length_hdr_if true h e = e
length_hdr_if false h e = refl

length_gain_map_if : (on : Bool) (g : MiniGainMap) → length (hdr_boxes_bytes g.tmap_hdr) ≡ 103 → length (gain_map_bytes_if on g) ≡ 189
unfolding gain_map_bytes gain_map_picture_bytes
length_gain_map_if true g e = simp (length-append, length-be, length-flag, length_format, length-chroma, length_tmap, length_chunk, length_span, e)
length_gain_map_if false g e = refl

pub length_record : (i : MinimizedImage) → length (hdr_boxes_bytes i.hdr_boxes) ≡ 103 → length (hdr_boxes_bytes i.gain_map.tmap_hdr) ≡ 103
    → length (record_bytes i) ≡ 441
unfolding record_bytes picture_bytes colour_and_alpha_bytes item_bytes
length_record i a b =
    simp (length-append, length-be, length-flag, length_types, length_format, length-chroma, length_cicp, length_chunk, length_span, length_hdr_if i.hdr i.hdr_boxes a, length_gain_map_if i.has_gain_map i.gain_map b)
