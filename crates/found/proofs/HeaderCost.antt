-- No part of the header of a record's normal form, under its narrowest choices, has more bits than that of the record.
use Rattle.std.specs.Prelude.{◌≡◌, refl, Bool, true, false, not, cond, ◌&&◌, ◌||◌, List, ℕ, ◌+◌, ◌*◌, ◌≤◌, eqb, ltb, length, Option, Some, None, is_some}
use Rattle.std.proofs.Common.{arith, length-append, eq-eqb}
use Rattle.std.proofs.Math.Nat.{mul-le-mul_right}
use Rattle.bits.specs.Bit.{to_n}
use Rattle.bits.specs.Format.{◌>>=◌, sized, view}
use Rattle.mini.specs.Cicp.{table_cicp}
use Rattle.mini.specs.Same.{chunk_len}
use Rattle.mini.specs.Syntax.{flags, chroma, float_format, integer_format, sample_format, explicit_cicp, explicit_codec_types, main_format, tmap_cicp, gain_map_format, gain_map_header, hdr_boxes, chunk_sizes, header}
use Rattle.mini.specs.Views.{is_float}
use Rattle.mini.specs.Write.{least, header_with, header_of}
use Rattle.mini.specs.declared.Cicp.{Cicp}
use Rattle.mini.specs.declared.CodecTypes.{CodecTypes}
use Rattle.mini.specs.declared.Flags.{Flags}
use Rattle.mini.specs.declared.Header.{Header}
use Rattle.mini.specs.declared.MiniChroma.{MiniChroma}
use Rattle.mini.specs.declared.MiniGainMap.{MiniGainMap}
use Rattle.mini.specs.declared.MiniHdrBoxes.{MiniHdrBoxes}
use Rattle.mini.specs.declared.MinimizedImage.{MinimizedImage}
use Rattle.mini.specs.declared.SampleFormat.{SampleFormat}
use Rattle.mini.specs.declared.SampleFormat.TheVariants.{Integer, Float}
use Rattle.mini.specs.declared.TmapCicp.{TmapCicp}
use Rattle.mini.proofs.Narrowest.{len_flag, gain_len, cc_count, len_dims, len_gain, len_sizes}
use Rattle.octets.specs.declared.Span.{Span}
use Rattle.normal_form.specs.NormalForm.{is_cicp, short_cicp, needs_hdr, short_config, is_srgb, short_tmap_cicp, plain_own, writes_config, without_config_type, normal}
use Rattle.normal_form.proofs.NormalLawful.{short_held}

-- ---- what the normal form may leave out
abbrev cicp_bits : Option Cicp → ℕ
cicp_bits c = length ((explicit_cicp (is_some c)).print c)

abbrev types_bits : Option CodecTypes → ℕ
types_bits c = length ((explicit_codec_types (is_some c)).print c)

abbrev tmap_bits : Option TmapCicp → ℕ
tmap_bits c = length ((tmap_cicp (is_some c)).print c)

absent_less : {A : Type 0} (bits : Option A → ℕ) (b : Bool) (c : Option A) → bits None ≤ bits c → bits (cond b None c) ≤ bits c
absent_less bits true c h = h
absent_less bits false c h = omega arith

cicp_less : (c : Option Cicp) (inferred : Cicp) → cicp_bits (short_cicp c inferred) ≤ cicp_bits c
unfolding explicit_cicp
cicp_less None inferred = omega arith
cicp_less (Some c) inferred = absent_less cicp_bits (is_cicp c inferred) (Some c) (omega arith)

tmap_less : (c : Option TmapCicp) (icc : Option Span) → tmap_bits (short_tmap_cicp c icc) ≤ tmap_bits c
unfolding tmap_cicp
tmap_less None icc = omega arith
tmap_less (Some c) icc = absent_less tmap_bits (not (is_some icc) && is_srgb c) (Some c) (omega arith)

types_less : (w : Bool) (c : Option CodecTypes) → types_bits (cond w c (without_config_type c)) ≡ types_bits c
unfolding explicit_codec_types ◌>>=◌ view
types_less true c = refl
types_less false None = refl
types_less false (Some c) = simp length-append

-- ---- the parts of a header
abbrev main_bits : Header → ℕ
main_bits h = length ((main_format h.flags).print h.main)

abbrev gain_bits : Header → ℕ
gain_bits h = length ((gain_map_header h.flags.hdr h.dimensions).print h.gain_map)

abbrev sizes_bits : Header → ℕ
sizes_bits h = length ((chunk_sizes h.flags h.gain_map).print h.sizes)

flags_bits : (f : Flags) → length (flags.print f) ≡ 16
unfolding flags ◌>>=◌ view
flags_bits f = simp length-append

boxes_bits : (on : Bool) (b : MiniHdrBoxes) → length ((hdr_boxes on).print b) ≡ 6 * to_n on + length ((hdr_boxes false).print b)
unfolding hdr_boxes ◌>>=◌ view
boxes_bits on b = simp (length-append, len_flag) (omega arith)

-- ---- a gain map's own numbers
abbrev large_of : (width height : ℕ) → MiniGainMap → Bool
large_of width height g = ltb 128 width || (ltb 128 height || (ltb 128 g.width || ltb 128 g.height))

abbrev same_of : (has : Bool) (width height : ℕ) → MiniGainMap → Bool
same_of has width height g = has && (eqb g.width width && eqb g.height height)

abbrev chroma_bits : MiniChroma → ℕ
chroma_bits c = length ((chroma c.subsampling).print c)

abbrev format_bits : Bool → SampleFormat → ℕ
format_bits has f = length ((gain_map_format has (is_float f)).print f)

format_some : (f : SampleFormat) → 1 ≤ format_bits true f
unfolding gain_map_format sample_format float_format integer_format ◌>>=◌ view
format_some (Integer n) = omega arith
format_some (Float n) = omega arith

-- those of the gain map o have no more bits than those of g
record OwnLess (has : Bool) (width height : ℕ) (o g : MiniGainMap) : Type 0 where
  large : sized (large_of width height o) 15 7 ≤ sized (large_of width height g) 15 7
  dimensions : gain_len has (same_of has width height o) (large_of width height o) ≤ gain_len has (same_of has width height g) (large_of width height g)
  chroma : chroma_bits o.chroma ≤ chroma_bits g.chroma
  format : format_bits has o.format ≤ format_bits has g.format

own_less : (has filled : Bool) (width height : ℕ) (g : MiniGainMap) → OwnLess has width height (cond (has && not filled) (plain_own width height) g) g
unfolding chroma gain_map_format sample_format integer_format ◌>>=◌ view
own_less true true width height g = record { large = omega arith; dimensions = omega arith; chroma = omega arith; format = omega arith }
own_less true false width height g =
    record {
      large = grind arith;
      dimensions = rw (eq-eqb width width refl, eq-eqb height height refl) (omega arith);
      chroma = omega arith;
      format = format_some g.format;
    }
own_less false filled width height g = record { large = omega arith; dimensions = omega arith; chroma = omega arith; format = omega arith }

-- ---- the width of the configurations' sizes
abbrev config_width : (main alpha gain_map : ℕ) → ℕ
config_width main alpha gain_map = sized (ltb 7 main || (ltb 7 alpha || ltb 7 gain_map)) 12 3

width_less : (main a b c d : ℕ) → a ≤ c → b ≤ d → config_width main a b ≤ config_width main c d
width_less main a b c d h k = grind arith

short_less : (c : Option Span) (main : Span) (s : List ℕ) → chunk_len (short_config c main s) ≤ chunk_len c
short_less c main s = short_held (λ (d : Option Span). chunk_len d ≤ chunk_len c) c main s (omega arith) (omega arith)

and_less : (a b : Bool) → to_n (a && b) ≤ to_n a
and_less a b = grind arith

-- ---- the header
module _ (i : MinimizedImage) (s : List ℕ) where
  abbrev n : MinimizedImage
  n = normal i s

  abbrev g : MiniGainMap
  g = i.gain_map

  main_less : main_bits (header_of n) ≤ main_bits (header_of i)
  unfolding main_format header_of header_with normal ◌>>=◌ view
  main_less =
      let c = cicp_less i.explicit_cicp (table_cicp (is_some i.icc) i.chroma.subsampling) in
      let t = types_less (writes_config i) i.explicit_codec_types in
      simp length-append (omega (arith, c, t))

  gain_less : gain_bits (header_of n) ≤ gain_bits (header_of i)
  unfolding header_of header_with normal least
  gain_less =
      let o = own_less i.has_gain_map (ltb 0 g.«data».len) i.width i.height g in
      let t = tmap_less g.tmap_cicp g.tmap_icc in
      let h = and_less i.hdr (needs_hdr i) in
      omega (arith, len_gain n (least n), len_gain i (least i), o.dimensions, o.chroma, o.format, t, h)

  sizes_less : sizes_bits (header_of n) ≤ sizes_bits (header_of i)
  unfolding header_of normal least
  sizes_less =
      let m = i.main_codec_config in
      let w = width_less m.len _ _ _ _ (short_less i.alpha_codec_config m s) (short_less g.codec_config m s) in
      let k = mul-le-mul_right (cc_count i) w in
      omega (arith, len_sizes n (least n), len_sizes i (least i), k)

  pub header_less : length (header.print (header_of n)) ≤ length (header.print (header_of i))
  unfolding header header_of header_with normal least ◌>>=◌ view
  header_less =
      let o = own_less i.has_gain_map (ltb 0 g.«data».len) i.width i.height g in
      let h = and_less i.hdr (needs_hdr i) in
      simp length-append
      (omega (
        arith,
        flags_bits (header_of n).flags,
        flags_bits (header_of i).flags,
        len_dims n (least n),
        len_dims i (least i),
        o.large,
        main_less,
        gain_less,
        boxes_bits n.hdr i.hdr_boxes,
        boxes_bits i.hdr i.hdr_boxes,
        h,
        sizes_less,
      ))
