-- The header of a MinimizedImageBox payload, field by field in the order of its bits: ISO/IEC 23008-12 Amd 2, Annex O.3.2 (syntax) and O.3.3
-- (semantics), under the standard's names; document 01, 'The record and its order of bits'. Held beside `MinimizedImage::parse`.
--   flag         1 bit                        field n    n bits                 minus1 n   n bits, for a number stored less one
--   offset k n   n bits, for a number less k  bytes n    n bytes                number k   no bits: k
--   exactly n v r   n bits that must write v, else refusal r                    ensure p f r   p, whose value must pass f, else refusal r
--   flag_if c, field_if c n, minus1_if c n, bytes_for c n   stand only where c holds; else no bits: false, 0 or zeros
--   sized t long short   long where t holds, else short                         choose t p q   p where t holds, else q
-- (`tt` shows that the number is one of reading's refusals, 5 to 9.) A value is bound to the field's name; the last field of a group has its name behind it.
-- The words that begin with `as` only put a group's values into a record (Views).
use Rattle.std.specs.Prelude.{Bool, ◌&&◌, ◌||◌, List, ℕ, eqb, ltb, replicate, Option}
use Rattle.bits.specs.Format.{Format, ◌>>=◌, ◌>>◌, field, flag, minus1, offset, bytes, number, exactly, ensure, flag_if, field_if, minus1_if, bytes_for, listed, sized, choose}
use Rattle.mini.specs.Cclv.{cclv_more}
use Rattle.mini.specs.Views.{as_flags, as_dimensions, as_chroma, as_float, as_integer, high_depth, no_format, absent, as_cicp, as_codec_types, as_tmap_cicp, as_main_format, cclv_body, as_cclv, as_hdr_boxes, as_gain_map_header, as_chunk_sizes, as_header}
use Rattle.mini.specs.declared.SampleFormat.{SampleFormat}
use Rattle.mini.specs.declared.CodecTypes.{CodecTypes}
use Rattle.mini.specs.declared.Cicp.{Cicp}
use Rattle.mini.specs.declared.TmapCicp.{TmapCicp}
use Rattle.mini.specs.declared.MiniChroma.{MiniChroma}
use Rattle.mini.specs.declared.Flags.{Flags}
use Rattle.mini.specs.declared.Dimensions.{Dimensions}
use Rattle.mini.specs.declared.MainFormat.{MainFormat}
use Rattle.mini.specs.declared.MiniHdrBoxes.{MiniHdrBoxes}
use Rattle.mini.specs.declared.GainMapHeader.{GainMapHeader}
use Rattle.mini.specs.declared.ChunkSizes.{ChunkSizes}
use Rattle.mini.specs.declared.Header.{Header}

unfoldable pub flags : Format Flags
flags = as_flags do
  exactly 2 0 6 tt  -- version: refusal 6 where it is not 0
  explicit_codec_types_flag ← flag
  float_flag ← flag
  full_range_flag ← flag
  alpha_flag ← flag
  explicit_cicp_flag ← flag
  hdr_flag ← flag
  icc_flag ← flag
  exif_flag ← flag
  xmp_flag ← flag
  chroma_subsampling ← field 2
  minus1 3  -- orientation_minus1

unfoldable pub dimensions : Format Dimensions
dimensions = as_dimensions do
  large_dimensions_flag ← flag
  width ← minus1 (sized large_dimensions_flag 15 7)
  minus1 (sized large_dimensions_flag 15 7)  -- height_minus1

unfoldable pub chroma : ℕ → Format MiniChroma
chroma subsampling = as_chroma subsampling do
  chroma_is_horizontally_centered ← flag_if (eqb subsampling 1 || eqb subsampling 2)
  flag_if (eqb subsampling 1)  -- chroma_is_vertically_centered

-- bit_depth_log2_minus4, for 2 ^ (it + 4) bits; refusal 7 where it is 3
unfoldable pub float_format : Format SampleFormat
float_format = as_float (ensure (field 2) (λ code. ltb code 3) 7 tt) (λ code good. good.1)

unfoldable pub integer_format : Format SampleFormat
integer_format =
    as_integer
    (do
      high_bit_depth_flag ← flag
      choose high_bit_depth_flag (offset 9 3) (number 8))  -- bit_depth_minus9
    high_depth

unfoldable pub sample_format : Bool → Format SampleFormat
sample_format float_flag = choose float_flag float_format integer_format

unfoldable pub explicit_cicp : Bool → Format (Option Cicp)
explicit_cicp explicit_cicp_flag =
    choose explicit_cicp_flag
    (as_cicp do
      colour_primaries ← field 8
      transfer_characteristics ← field 8
      field 8)  -- matrix_coefficients
    absent

unfoldable pub explicit_codec_types : Bool → Format (Option CodecTypes)
explicit_codec_types explicit_codec_types_flag =
    choose explicit_codec_types_flag
    (as_codec_types do
      infe_type ← field 32
      field 32)  -- codec_config_type
    absent

unfoldable pub main_format : Flags → Format MainFormat
main_format f = as_main_format do
  chroma ← chroma f.subsampling
  format ← sample_format f.float
  alpha_is_premultiplied ← flag_if f.alpha
  cicp ← explicit_cicp f.explicit_cicp
  explicit_codec_types f.explicit_codec_types

unfoldable pub tmap_cicp : Bool → Format (Option TmapCicp)
tmap_cicp tmap_explicit_cicp_flag =
    choose tmap_explicit_cicp_flag
    (as_tmap_cicp do
      tmap_colour_primaries ← field 8
      tmap_transfer_characteristics ← field 8
      tmap_matrix_coefficients ← field 8
      flag)  -- tmap_full_range_flag
    absent

-- a dimension of the gain map: the main picture's where the flag says so
unfoldable pub gain_map_dimension : Bool → Bool → Bool → ℕ → Format ℕ
gain_map_dimension gainmap_flag same large main =
    choose gainmap_flag (choose same (number main) (minus1 (sized large 15 7))) (number 0)

unfoldable pub gain_map_format : Bool → Bool → Format SampleFormat
gain_map_format gainmap_flag float = choose gainmap_flag (sample_format float) no_format

unfoldable pub gain_map_header : Bool → Dimensions → Format GainMapHeader
gain_map_header hdr_flag d = as_gain_map_header do
  gainmap_flag ← flag_if hdr_flag
  gainmap_dimension_same_as_main_item_flag ← flag_if gainmap_flag
  gainmap_width ← gain_map_dimension gainmap_flag gainmap_dimension_same_as_main_item_flag d.large d.width
  gainmap_height ← gain_map_dimension gainmap_flag gainmap_dimension_same_as_main_item_flag d.large d.height
  gainmap_matrix_coefficients ← field_if gainmap_flag 8
  gainmap_full_range_flag ← flag_if gainmap_flag
  gainmap_chroma_subsampling ← field_if gainmap_flag 2
  gainmap_chroma ← chroma gainmap_chroma_subsampling
  gainmap_float_flag ← flag_if gainmap_flag
  gainmap_format ← gain_map_format gainmap_flag gainmap_float_flag
  tmap_icc_flag ← flag_if gainmap_flag
  tmap_explicit_cicp_flag ← flag_if gainmap_flag
  tmap_cicp tmap_explicit_cicp_flag

-- a flag byte, and the bytes that it says follow
unfoldable pub cclv : Format (List ℕ)
cclv =
    as_cclv
    (do
      cclv_flags ← field 8
      bytes (cclv_more cclv_flags))
    cclv_body

unfoldable pub cclv_for : Bool → Format (List ℕ)
cclv_for cclv_flag = choose cclv_flag cclv (listed (replicate 37 0))

-- of the main picture, where hdr_flag is set; of the tone-mapped one, where gainmap_flag is
unfoldable pub hdr_boxes : Bool → Format MiniHdrBoxes
hdr_boxes on = as_hdr_boxes do
  clli_flag ← flag_if on
  mdcv_flag ← flag_if on
  cclv_flag ← flag_if on
  amve_flag ← flag_if on
  reve_flag ← flag_if on
  ndwt_flag ← flag_if on
  clli ← bytes_for clli_flag 4
  mdcv ← bytes_for mdcv_flag 24
  cclv ← cclv_for cclv_flag
  amve ← bytes_for amve_flag 8
  reve ← bytes_for reve_flag 20
  bytes_for ndwt_flag 4  -- ndwt

abbrev pub metadata_bits : Bool → ℕ
metadata_bits large_metadata_flag = sized large_metadata_flag 20 10

abbrev pub config_bits : Bool → ℕ
config_bits large_codec_config_flag = sized large_codec_config_flag 12 3

abbrev pub data_bits : Bool → ℕ
data_bits large_item_data_flag = sized large_item_data_flag 28 15

unfoldable pub chunk_sizes : Flags → GainMapHeader → Format ChunkSizes
chunk_sizes f g = as_chunk_sizes do
  large_metadata_flag ← flag_if (f.icc || f.exif || f.xmp || g.present)
  large_codec_config_flag ← flag
  large_item_data_flag ← flag
  icc_data_size ← minus1_if f.icc (metadata_bits large_metadata_flag)
  tmap_icc_data_size ← minus1_if (g.present && g.tmap_icc) (metadata_bits large_metadata_flag)
  gainmap_metadata_size ← field_if g.present (metadata_bits large_metadata_flag)
  gainmap_item_data_size ← field_if g.present (data_bits large_item_data_flag)
  gainmap_item_codec_config_size ← field_if (g.present && ltb 0 gainmap_item_data_size) (config_bits large_codec_config_flag)
  main_item_codec_config_size ← field (config_bits large_codec_config_flag)
  main_item_data_size ← minus1 (data_bits large_item_data_flag)
  alpha_item_data_size ← field_if f.alpha (data_bits large_item_data_flag)
  alpha_item_codec_config_size ← field_if (f.alpha && ltb 0 alpha_item_data_size) (config_bits large_codec_config_flag)
  exif_xmp_compressed_flag ← flag_if (f.exif || f.xmp)
  exif_data_size ← minus1_if f.exif (metadata_bits large_metadata_flag)
  minus1_if f.xmp (metadata_bits large_metadata_flag)  -- xmp_data_size_minus1

unfoldable pub header : Format Header
header = as_header do
  f ← flags
  d ← dimensions
  main ← main_format f
  g ← gain_map_header f.hdr d
  hdr ← hdr_boxes f.hdr
  tmap ← hdr_boxes g.present
  chunk_sizes f g

-- trailing_bits: the n bits up to the byte boundary after the header; refusal 8 where they are not all zero
unfoldable pub trailing_bits : ℕ → Format (Unit {0})
trailing_bits n = exactly n 0 8 tt
