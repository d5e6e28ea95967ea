-- The list of what no payload gives (NoPayloadGives) is complete: a record that has none of its faults can be written. So the list and
-- refusal 11 say the same. Document 01, 'The record and its order of bits' ('No payload gives: ..'). Assumes nothing.
use Rattle.std.specs.Prelude.{◌≡◌, refl, Bool, ◌&&◌, ◌||◌, ◌↔◌, ℕ, ◌^◌, ◌≤◌, ◌<◌, T, ltb, Option, Some, None, is_some}
use Rattle.std.proofs.Common.{ap, true≢false, arith, ltb→lt, lit≤, ltb-false}
use Rattle.std.proofs.Math.Path.{subst}
use Rattle.std.proofs.Math.Bool.{true, false}
use Rattle.bits.specs.Format.{Format, ◌>>=◌, and_join, field, flag, minus1, number, field_if, minus1_if, sized, choose, view}
use Rattle.mini.specs.Syntax.{header, flags, dimensions, main_format, gain_map_header, gain_map_dimension, chunk_sizes}
use Rattle.mini.specs.Views.{is_float}
use Rattle.mini.specs.Blank.{blank_hdr_boxes, blank_gain_map}
use Rattle.mini.specs.Same.{chunk_len, unplaced_chunk, unplaced}
use Rattle.mini.specs.Write.{not_empty, Choices, header_with, header_of, writable}
use Rattle.mini.specs.RecordHeader.{whole}
use Rattle.mini.specs.OptionalFields.{or_none, flag_good, flag_if_good}
use Rattle.mini.proofs.Narrowest.{least_good}
use Rattle.mini.specs.Ranges.{Within, format_iff, gain_format_iff, cicp_iff, types_iff, tmap_iff, chroma_iff, boxes_iff}
use Rattle.mini.specs.NoPayloadGives.{Lawful, lawful}
use Rattle.mini.specs.declared.MiniGainMap.{MiniGainMap}
use Rattle.octets.specs.declared.Span.{Span}
use Rattle.mini.specs.declared.MinimizedImage.{MinimizedImage}

-- ---- a number in its range fits its field
field_if_good : (t : Bool) (n v : ℕ) → (t ≡ false → v ≡ 0) → v < 2 ^ n → (field_if t n).Good v
field_if_good true n v z h = h
field_if_good false n v z h = z refl

minus1_good : (n v : ℕ) → Within 1 (2 ^ n) v → (minus1 n).Good v
unfolding view
minus1_good n v h = (omega (arith, h.0, h.1), omega (arith, h.0))

-- where a field stands, its wide form is taken
wide_good : (p : ℕ → Format ℕ) (t w : Bool) (a b v : ℕ) → (w ≡ false → t ≡ false) → (choose t (p a) (number 0)).Good v → (choose t (p (sized w a b)) (number 0)).Good v
wide_good p true true a b v h g = g
wide_good p true false a b v h g = absurd (true≢false (h refl))
wide_good p false w a b v h g = g

-- a chunk that is not held as present and empty
chunk_good : (c : Option Span) (w : Bool) (a b : ℕ) → (w ≡ false → is_some c ≡ false) → T (not_empty c) → chunk_len c ≤ 2 ^ a
    → (minus1_if (is_some c) (sized w a b)).Good (chunk_len c)
chunk_good None w a b z e h = refl
chunk_good (Some x) w a b z e h = wide_good minus1 true w a b x.len z (minus1_good a x.len (ltb→lt 0 x.len e, h))

-- a configuration, whose size stands only with its n bytes of data
config_good : (t : Bool) (n v : ℕ) → (t ≡ false → n ≡ 0) → (n ≡ 0 → v ≡ 0) → v ≤ 4095 → (field_if (t && ltb 0 n) 12).Good v
config_good t n v z y h = field_if_good (t && ltb 0 n) 12 v (λ e. y (none t z e)) (omega arith)
  where
    none : (t : Bool) → (t ≡ false → n ≡ 0) → (t && ltb 0 n) ≡ false → n ≡ 0
    none true z e = omega (arith, ltb-false 0 n e)
    none false z e = z refl

-- a dimension of the gain map, stored
dimension_good : (has : Bool) (main v : ℕ) → (has ≡ false → v ≡ 0) → (has ≡ true → Within 1 32768 v) → (gain_map_dimension has false true main).Good v
unfolding gain_map_dimension
dimension_good true main v z h = minus1_good 15 v (h refl)
dimension_good false main v z h = z refl

and_second : (a b : Bool) → (a ≡ false → b ≡ false) → b ≡ (a && b)
and_second true b h = refl
and_second false b h = h refl

absent : (c : Option Span) → unplaced_chunk c ≡ None → is_some c ≡ false
absent None e = refl
absent (Some x) e = ap is_some e

-- ---- the header with each field in its wide form; the narrowest forms fit then too (`least_good`)
-- what large_metadata_flag stands with
abbrev has_metadata : MinimizedImage → Bool
has_metadata i = is_some i.icc || is_some i.exif || is_some i.xmp || i.has_gain_map

abbrev widest : MinimizedImage → Choices
widest i = record { large = true; same = false; metadata = has_metadata i; config = true; item = true }

none_has : (i : MinimizedImage) → has_metadata i ≡ false
    → (is_some i.icc ≡ false) × (is_some i.exif ≡ false) × (is_some i.xmp ≡ false) × (i.has_gain_map ≡ false)
none_has i e =
    let a = or_none (is_some i.icc || is_some i.exif || is_some i.xmp) i.has_gain_map e in
    let b = or_none (is_some i.icc || is_some i.exif) (is_some i.xmp) a.0 in
    let c = or_none (is_some i.icc) (is_some i.exif) b.0 in
    (c.0, c.1, b.1, a.1)

module _ (i : MinimizedImage) (l : Lawful i) where
  flags_good : flags.Good (header_with i (widest i)).flags
  unfolding header_with flags ◌>>=◌ view
  flags_good =
      let f : (b : Bool) → flag.Good b = flag_good in
      let orientation = minus1_good 3 i.orientation l.orientation in
      let subsampling : i.chroma.subsampling < 2 ^ 2 = omega (arith, l.subsampling) in
      (((((lit≤ tt, tt), refl), (f _, (f _, (f _, (f _, (f _, (f _, (f _, (f _, (f _, (subsampling, orientation))))))))))), refl), refl)

  dimensions_good : dimensions.Good (header_with i (widest i)).dimensions
  unfolding header_with dimensions ◌>>=◌ view
  dimensions_good = ((flag_good true, (minus1_good 15 i.width l.width, minus1_good 15 i.height l.height)), refl)

  main_good : (main_format (header_with i (widest i)).flags).Good (header_with i (widest i)).main
  unfolding header_with main_format ◌>>=◌ view
  main_good =
      let chroma = (chroma_iff i.chroma).1 l.main_centred in
      let format = (format_iff i.format).1 l.format in
      let premultiplied = flag_if_good i.alpha i.alpha_premultiplied l.premultiplied in
      let cicp = (cicp_iff i.explicit_cicp).1 l.cicp in
      let types = (types_iff i.explicit_codec_types).1 l.codec_types in
      ((chroma, (format, (premultiplied, (cicp, types)))), refl)

  -- a part of a gain map is blank where there is none
  blank : {A : Type 0} (part : MiniGainMap → A) → i.has_gain_map ≡ false → part (unplaced i).gain_map ≡ part blank_gain_map
  blank part e = ap part (l.gain_blank e)

  no_tmap_icc : i.has_gain_map ≡ false → is_some i.gain_map.tmap_icc ≡ false
  unfolding unplaced
  no_tmap_icc e = absent i.gain_map.tmap_icc (blank (λ (m : MiniGainMap). m.tmap_icc) e)

  no_tmap_boxes : i.has_gain_map ≡ false → i.gain_map.tmap_hdr ≡ blank_hdr_boxes
  unfolding unplaced
  no_tmap_boxes e = blank (λ (m : MiniGainMap). m.tmap_hdr) e

  gain_good : (gain_map_header i.hdr (header_with i (widest i)).dimensions).Good (header_with i (widest i)).gain_map
  unfolding header_with gain_map_header unplaced ◌>>=◌ view
  gain_good =
      let has = i.has_gain_map in
      let m = i.gain_map in
      let present = flag_if_good i.hdr has l.gain_hdr in
      let same = flag_if_good has false (λ e. refl) in
      let width = dimension_good has i.width m.width (blank (λ (x : MiniGainMap). x.width)) l.gain_width in
      let height = dimension_good has i.height m.height (blank (λ (x : MiniGainMap). x.height)) l.gain_height in
      let matrix = field_if_good has 8 m.matrix_coefficients (blank (λ (x : MiniGainMap). x.matrix_coefficients)) (omega (arith, l.gain_matrix)) in
      let full = flag_if_good has m.full_range (blank (λ (x : MiniGainMap). x.full_range)) in
      let subsampling = field_if_good has 2 m.chroma.subsampling (blank (λ (x : MiniGainMap). x.chroma.subsampling)) (omega (arith, l.gain_subsampling)) in
      let chroma = (chroma_iff m.chroma).1 l.gain_centred in
      let float = flag_if_good has (is_float m.format) (blank (λ (x : MiniGainMap). is_float x.format)) in
      let format = (gain_format_iff has m.format).1 (blank (λ (x : MiniGainMap). x.format), l.gain_format) in
      let icc = flag_if_good has (is_some m.tmap_icc) no_tmap_icc in
      let explicit = flag_if_good has (is_some m.tmap_cicp) (blank (λ (x : MiniGainMap). is_some x.tmap_cicp)) in
      let cicp = (tmap_iff m.tmap_cicp).1 l.tmap_cicp in
      ((present, (same, (width, (height, (matrix, (full, (subsampling, (chroma, (float, (format, (icc, (explicit, cicp)))))))))))), refl)

  sizes_good : (chunk_sizes (header_with i (widest i)).flags (header_with i (widest i)).gain_map).Good (header_with i (widest i)).sizes
  unfolding header_with chunk_sizes unplaced ◌>>=◌ view
  sizes_good =
      let has = i.has_gain_map in
      let m = i.gain_map in
      let large = has_metadata i in
      let none = none_has i in
      let no-data = blank (λ (x : MiniGainMap). x.«data».len) in
      let large-metadata = flag_if_good large large (λ e. e) in
      let icc = chunk_good i.icc large 20 10 (λ e. (none e).0) l.icc_empty l.icc_size in
      let tmap_icc = subst (λ (t : Bool). (minus1_if t (sized large 20 10)).Good (chunk_len m.tmap_icc)) (and_second has (is_some m.tmap_icc) no_tmap_icc)
      (chunk_good m.tmap_icc large 20 10 (λ e. no_tmap_icc (none e).3) l.tmap_icc_empty l.tmap_icc_size) in
      let metadata = wide_good field has large 20 10 m.metadata.len (λ e. (none e).3)
      (field_if_good has 20 m.metadata.len (blank (λ (x : MiniGainMap). x.metadata.len)) (omega (arith, l.metadata_size))) in
      let gain-data = field_if_good has 28 m.«data».len no-data (omega (arith, l.gain_size)) in
      let gain-config = config_good has m.«data».len (chunk_len m.codec_config) no-data l.gain_config_alone l.config_size.2 in
      let main_config : i.main_codec_config.len < 2 ^ 12 = omega (arith, l.config_size.0) in
      let main_data = minus1_good 28 i.main_data.len (l.main_data, l.main_size) in
      let alpha_data = field_if_good i.alpha 28 i.alpha_data.len l.alpha_bytes (omega (arith, l.alpha_size)) in
      let alpha_config = config_good i.alpha i.alpha_data.len (chunk_len i.alpha_codec_config) l.alpha_bytes l.alpha_config_alone l.config_size.1 in
      let compressed = flag_if_good (is_some i.exif || is_some i.xmp) i.exif_xmp_compressed l.compressed in
      let exif = chunk_good i.exif large 20 10 (λ e. (none e).1) l.exif_empty l.exif_size in
      let xmp = chunk_good i.xmp large 20 10 (λ e. (none e).2) l.xmp_empty l.xmp_size in
      ((large-metadata, (flag_good true, (flag_good true, (icc, (tmap_icc, (metadata, (gain-data, (gain-config, (main_config, (main_data, (alpha_data, (alpha_config, (compressed, (exif, xmp)))))))))))))), refl)

  widest_good : header.Good (header_with i (widest i))
  unfolding header_with
  widest_good =
      whole (header_with i (widest i))
      (record {
        flags_ok = flags_good;
        dimensions_ok = dimensions_good;
        main_ok = main_good;
        gain_map_ok = gain_good;
        hdr_ok = (boxes_iff i.hdr i.hdr_boxes).1 (l.boxes_bodies, l.boxes_hdr);
        tmap_hdr_ok = (boxes_iff i.has_gain_map i.gain_map.tmap_hdr).1 (l.tmap_bodies, no_tmap_boxes);
        sizes_ok = sizes_good;
      })

pub lawful_writable : (i : MinimizedImage) → Lawful i → T (writable i)
unfolding writable header_of
lawful_writable i l =
    let g = least_good i (widest i) (widest_good i l) in
    and_join (header.good (header_of i)) (not_empty i.alpha_codec_config && not_empty i.gain_map.codec_config) (
      (header.dec (header_of i)).1 g,
      and_join (not_empty i.alpha_codec_config) (not_empty i.gain_map.codec_config) (l.alpha_config_empty, l.gain_config_empty),
    )

-- a record can be written exactly if it has none of the listed faults
pub lawful_iff : (i : MinimizedImage) → T (writable i) ↔ Lawful i
lawful_iff i = (lawful i, lawful_writable i)
