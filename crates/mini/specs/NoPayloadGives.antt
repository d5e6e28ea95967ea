-- What no payload gives, as document 01 lists it ('The record and its order of bits': 'No payload gives: ..'), and that no record that can
-- be written has one of these faults (so none that is read). That the list is complete stands in
-- proofs/ListIsExact.antt. Assumes nothing.
use Rattle.std.specs.Prelude.{◌≡◌, refl, Bool, true, false, ◌&&◌, ◌||◌, ℕ, ◌-◌, ◌^◌, ◌≤◌, ◌<◌, T, eqb, ltb, Option, Some, None, is_some}
use Rattle.std.proofs.Common.{sym, ap, ◌∙◌, true≢false, lt_of_lt_of_le, arith, ltb→lt, lt→ltb, lit≤, pow_mono, pow_pos, le-ltb}
use Rattle.std.proofs.lemmas.Bool.{false≢true}
use Rattle.bits.specs.Format.{◌>>=◌, and_split, field_if, minus1_if, flag_if, sized, view}
use Rattle.mini.specs.Syntax.{header, flags, dimensions, main_format, gain_map_header, gain_map_dimension, chunk_sizes}
use Rattle.mini.specs.Blank.{blank_hdr_boxes, blank_gain_map}
use Rattle.mini.specs.Same.{chunk_len, unplaced_chunk, unplaced}
use Rattle.mini.specs.Write.{not_empty, Choices, least, header_with, header_of, writable}
use Rattle.mini.specs.RecordHeader.{parts}
use Rattle.mini.specs.OptionalFields.{field_if-off, flag_if-off, gain_more}
use Rattle.mini.specs.Ranges.{Within, FormatIn, format_iff, gain_format_iff, CicpIn, cicp_iff, TypesIn, types_iff, TmapIn, tmap_iff, Centred, chroma_iff, Bodies, boxes_iff}
use Rattle.octets.specs.declared.Span.{Span}
use Rattle.mini.specs.declared.TmapCicp.{TmapCicp}
use Rattle.mini.specs.declared.MiniChroma.{MiniChroma}
use Rattle.mini.specs.declared.MinimizedImage.{MinimizedImage}

-- ---- the list: each line says that a record does not have the fault named above it
pub record Lawful (i : MinimizedImage) : Type 0 where
  -- a centring flag that the subsampling doesn't store
  pub main_centred : Centred i.chroma
  pub gain_centred : Centred i.gain_map.chroma
  -- premultiplied without alpha; alpha bytes without alpha
  pub premultiplied : i.alpha ≡ false → i.alpha_premultiplied ≡ false
  pub alpha_bytes : i.alpha ≡ false → i.alpha_data.len ≡ 0
  -- an empty alpha or gain-map configuration held as present
  pub alpha_config_empty : T (not_empty i.alpha_codec_config)
  pub gain_config_empty : T (not_empty i.gain_map.codec_config)
  -- either without its data
  pub alpha_config_alone : i.alpha_data.len ≡ 0 → chunk_len i.alpha_codec_config ≡ 0
  pub gain_config_alone : i.gain_map.«data».len ≡ 0 → chunk_len i.gain_map.codec_config ≡ 0
  -- an empty ICC (tone-map's too), Exif or XMP held as present
  pub icc_empty : T (not_empty i.icc)
  pub tmap_icc_empty : T (not_empty i.gain_map.tmap_icc)
  pub exif_empty : T (not_empty i.exif)
  pub xmp_empty : T (not_empty i.xmp)
  -- gain map or HDR body without hdr
  pub gain_hdr : i.hdr ≡ false → i.has_gain_map ≡ false
  pub boxes_hdr : i.hdr ≡ false → i.hdr_boxes ≡ blank_hdr_boxes
  -- an absent gain map that isn't blank (positions aside)
  pub gain_blank : i.has_gain_map ≡ false → (unplaced i).gain_map ≡ blank_gain_map
  -- a non-zero byte in an absent HDR body or after a cclv's length; and a body that isn't bytes of its fixed number
  pub boxes_bodies : Bodies i.hdr_boxes
  pub tmap_bodies : Bodies i.gain_map.tmap_hdr
  -- compressed without Exif or XMP
  pub compressed : (is_some i.exif || is_some i.xmp) ≡ false → i.exif_xmp_compressed ≡ false
  -- empty main data
  pub main_data : 1 ≤ i.main_data.len
  -- a number outside its field: the main picture's
  pub orientation : Within 1 8 i.orientation
  pub width : Within 1 32768 i.width
  pub height : Within 1 32768 i.height
  pub subsampling : i.chroma.subsampling ≤ 3
  pub format : FormatIn i.format
  pub cicp : CicpIn i.explicit_cicp
  pub codec_types : TypesIn i.explicit_codec_types
  -- the gain map's
  pub gain_width : i.has_gain_map ≡ true → Within 1 32768 i.gain_map.width
  pub gain_height : i.has_gain_map ≡ true → Within 1 32768 i.gain_map.height
  pub gain_matrix : i.gain_map.matrix_coefficients ≤ 255
  pub gain_subsampling : i.gain_map.chroma.subsampling ≤ 3
  pub gain_format : i.has_gain_map ≡ true → FormatIn i.gain_map.format
  pub tmap_cicp : TmapIn i.gain_map.tmap_cicp
  -- the sizes
  pub icc_size : chunk_len i.icc ≤ 1048576
  pub tmap_icc_size : chunk_len i.gain_map.tmap_icc ≤ 1048576
  pub exif_size : chunk_len i.exif ≤ 1048576
  pub xmp_size : chunk_len i.xmp ≤ 1048576
  pub metadata_size : i.gain_map.metadata.len ≤ 1048575
  pub main_size : i.main_data.len ≤ 268435456
  pub alpha_size : i.alpha_data.len ≤ 268435455
  pub gain_size : i.gain_map.«data».len ≤ 268435455
  pub config_size : (i.main_codec_config.len ≤ 4095) × (chunk_len i.alpha_codec_config ≤ 4095) × (chunk_len i.gain_map.codec_config ≤ 4095)

-- ---- what a field says where its flag is on, and at most
more_on : (t : Bool) (n v : ℕ) → (minus1_if t n).Good v → t ≡ true → 1 ≤ v
unfolding view
more_on true n v g e = omega (arith, g.1)
more_on false n v g e = absurd (false≢true e)

field_below : (t w : Bool) (a b v : ℕ) → b ≤ a → (field_if t (sized w a b)).Good v → v < 2 ^ a
field_below true true a b v h g = g
field_below true false a b v h g = lt_of_lt_of_le g (pow_mono h)
field_below false w a b v h g = omega (arith, pow_pos a)

more_below : (t w : Bool) (a b v : ℕ) → b ≤ a → (minus1_if t (sized w a b)).Good v → v ≤ 2 ^ a
unfolding view
more_below true true a b v h g = omega (arith, g.0, g.1)
more_below true false a b v h g =
    let e : v - 1 < 2 ^ a = lt_of_lt_of_le g.0 (pow_mono h) in
    omega (arith, g.1)
more_below false w a b v h g = omega (arith, pow_pos a)

gain_off : (has same large : Bool) (main v : ℕ) → (gain_map_dimension has same large main).Good v → has ≡ false → v ≡ 0
unfolding gain_map_dimension ◌>>=◌ view
gain_off true same large main v g e = absurd (true≢false e)
gain_off false same large main v g e = g

blank_chroma : (c : MiniChroma) → Centred c → c.subsampling ≡ 0 → c ≡ record { subsampling = 0; horizontally_centered = false; vertically_centered = false }
blank_chroma c k e =
    let h = k.horizontal_stored (ap (λ (x : ℕ). eqb x 1 || eqb x 2) e) in
    let v = k.vertical_stored (ap (λ (x : ℕ). eqb x 1) e) in
    λ j. record { subsampling = e j; horizontally_centered = h j; vertically_centered = v j }

no_chunk : (c : Option Span) → is_some c ≡ false → unplaced_chunk c ≡ None
no_chunk None e = refl
no_chunk (Some x) e = absurd (true≢false e)

no_config : (c : Option Span) → T (not_empty c) → chunk_len c ≡ 0 → unplaced_chunk c ≡ None
no_config None h e = refl
no_config (Some x) h e = absurd (omega (arith, ltb→lt 0 x.len h))

and_zero : (a : Bool) (n : ℕ) → n ≡ 0 → (a && ltb 0 n) ≡ false
and_zero true n e = le-ltb 0 n (omega arith)
and_zero false n e = refl

and_on : (has t : Bool) → (flag_if has).Good t → t ≡ true → (has && t) ≡ true
and_on true t g e = e
and_on false t g e = absurd (false≢true (sym g ∙ e))

no_tmap : (c : Option TmapCicp) → is_some c ≡ false → c ≡ None
no_tmap None e = refl
no_tmap (Some c) e = absurd (true≢false e)

held : (c : Option Span) → (is_some c ≡ true → 1 ≤ chunk_len c) → T (not_empty c)
held None h = tt
held (Some x) h = lt→ltb 0 x.len (h refl)

blank_gain : (i : MinimizedImage) (c : Choices) → header.Good (header_with i c) → T (not_empty i.gain_map.codec_config) → i.has_gain_map ≡ false → (unplaced i).gain_map ≡ blank_gain_map
unfolding header_with gain_map_header chunk_sizes unplaced ◌>>=◌ view
blank_gain i c good gc e =
    let g = parts (header_with i c) good in
    let m = i.gain_map in
    let has = i.has_gain_map in
    let w = gain_off has c.same c.large i.width m.width g.gain_map_ok.0.1.1.0 e in
    let h = gain_off has c.same c.large i.height m.height g.gain_map_ok.0.1.1.1.0 e in
    let x = field_if-off has 8 m.matrix_coefficients g.gain_map_ok.0.1.1.1.1.0 e in
    let f = flag_if-off has m.full_range g.gain_map_ok.0.1.1.1.1.1.0 e in
    let ch = blank_chroma m.chroma ((chroma_iff m.chroma).0 g.gain_map_ok.0.1.1.1.1.1.1.1.0) (field_if-off has 2 m.chroma.subsampling g.gain_map_ok.0.1.1.1.1.1.1.0 e) in
    let fo = ((gain_format_iff has m.format).0 g.gain_map_ok.0.1.1.1.1.1.1.1.1.1.0).0 e in
    let ci = no_tmap m.tmap_cicp (flag_if-off has (is_some m.tmap_cicp) g.gain_map_ok.0.1.1.1.1.1.1.1.1.1.1.1.0 e) in
    let ic = no_chunk m.tmap_icc (flag_if-off has (is_some m.tmap_icc) g.gain_map_ok.0.1.1.1.1.1.1.1.1.1.1.0 e) in
    let bo = ((boxes_iff has m.tmap_hdr).0 g.tmap_hdr_ok).1 e in
    let me = field_if-off has _ m.metadata.len g.sizes_ok.0.1.1.1.1.1.0 e in
    let co = field_if-off has _ m.«data».len g.sizes_ok.0.1.1.1.1.1.1.0 e in
    let cf = no_config m.codec_config gc (field_if-off (has && ltb 0 m.«data».len) _ (chunk_len m.codec_config) g.sizes_ok.0.1.1.1.1.1.1.1.0 (and_zero has _ co)) in
    λ j. record {
      width = w j;
      height = h j;
      matrix_coefficients = x j;
      full_range = f j;
      chroma = ch j;
      format = fo j;
      tmap_cicp = ci j;
      tmap_icc = ic j;
      tmap_hdr = bo j;
      metadata = record { at = 0; len = me j };
      codec_config = cf j;
      «data» = record { at = 0; len = co j };
    }

lawful_of : (i : MinimizedImage) (c : Choices) → header.Good (header_with i c) → T (not_empty i.alpha_codec_config) → T (not_empty i.gain_map.codec_config) → Lawful i
unfolding header_with flags dimensions main_format gain_map_header chunk_sizes unplaced ◌>>=◌ view
lawful_of i c good ac gc =
    let g = parts (header_with i c) good in
    let has = i.has_gain_map in
    let m = i.gain_map in
    let w = g.dimensions_ok.0.1.0 in
    let h = g.dimensions_ok.0.1.1 in
    let gw = gain_more has c.same c.large i.width m.width g.gain_map_ok.0.1.1.0 w in
    let gh = gain_more has c.same c.large i.height m.height g.gain_map_ok.0.1.1.1.0 h in
    let boxes = (boxes_iff i.hdr i.hdr_boxes).0 g.hdr_ok in
    let acl : i.alpha_data.len ≡ 0 → chunk_len i.alpha_codec_config ≡ 0 = λ e. field_if-off (i.alpha && ltb 0 i.alpha_data.len) _ _ g.sizes_ok.0.1.1.1.1.1.1.1.1.1.1.1.0 (and_zero i.alpha _ e) in
    let gcl : m.«data».len ≡ 0 → chunk_len m.codec_config ≡ 0 = λ e. field_if-off (has && ltb 0 m.«data».len) _ _ g.sizes_ok.0.1.1.1.1.1.1.1.0 (and_zero has _ e) in
    record {
      main_centred = (chroma_iff i.chroma).0 g.main_ok.0.0;
      gain_centred = (chroma_iff m.chroma).0 g.gain_map_ok.0.1.1.1.1.1.1.1.0;
      premultiplied = flag_if-off i.alpha i.alpha_premultiplied g.main_ok.0.1.1.0;
      alpha_bytes = field_if-off i.alpha _ _ g.sizes_ok.0.1.1.1.1.1.1.1.1.1.1.0;
      alpha_config_empty = ac;
      gain_config_empty = gc;
      alpha_config_alone = acl;
      gain_config_alone = gcl;
      icc_empty = held i.icc (more_on (is_some i.icc) _ _ g.sizes_ok.0.1.1.1.0);
      tmap_icc_empty = held m.tmap_icc (λ e. more_on (has && is_some m.tmap_icc) _ _ g.sizes_ok.0.1.1.1.1.0 (and_on has _ g.gain_map_ok.0.1.1.1.1.1.1.1.1.1.1.0 e));
      exif_empty = held i.exif (more_on (is_some i.exif) _ _ g.sizes_ok.0.1.1.1.1.1.1.1.1.1.1.1.1.1.0);
      xmp_empty = held i.xmp (more_on (is_some i.xmp) _ _ g.sizes_ok.0.1.1.1.1.1.1.1.1.1.1.1.1.1.1);
      gain_hdr = flag_if-off i.hdr has g.gain_map_ok.0.0;
      boxes_hdr = boxes.1;
      gain_blank = λ e. blank_gain i c good gc e;
      boxes_bodies = boxes.0;
      tmap_bodies = ((boxes_iff has m.tmap_hdr).0 g.tmap_hdr_ok).0;
      compressed = flag_if-off (is_some i.exif || is_some i.xmp) i.exif_xmp_compressed g.sizes_ok.0.1.1.1.1.1.1.1.1.1.1.1.1.0;
      main_data = more_on true _ _ g.sizes_ok.0.1.1.1.1.1.1.1.1.1.0 refl;
      orientation = (more_on true 3 _ g.flags_ok.0.0.1.1.1.1.1.1.1.1.1.1.1 refl, more_below true true 3 3 _ (lit≤ tt) g.flags_ok.0.0.1.1.1.1.1.1.1.1.1.1.1);
      width = (more_on true _ _ w refl, more_below true c.large 15 7 _ (lit≤ tt) w);
      height = (more_on true _ _ h refl, more_below true c.large 15 7 _ (lit≤ tt) h);
      subsampling = omega (arith, g.flags_ok.0.0.1.1.1.1.1.1.1.1.1.1.0);
      format = (format_iff i.format).0 g.main_ok.0.1.0;
      cicp = (cicp_iff i.explicit_cicp).0 g.main_ok.0.1.1.1.0;
      codec_types = (types_iff i.explicit_codec_types).0 g.main_ok.0.1.1.1.1;
      gain_width = λ e. (more_on has _ _ gw e, more_below has c.large 15 7 _ (lit≤ tt) gw);
      gain_height = λ e. (more_on has _ _ gh e, more_below has c.large 15 7 _ (lit≤ tt) gh);
      gain_matrix = omega (arith, field_below has true 8 8 _ (lit≤ tt) g.gain_map_ok.0.1.1.1.1.0);
      gain_subsampling = omega (arith, field_below has true 2 2 _ (lit≤ tt) g.gain_map_ok.0.1.1.1.1.1.1.0);
      gain_format = ((gain_format_iff has m.format).0 g.gain_map_ok.0.1.1.1.1.1.1.1.1.1.0).1;
      tmap_cicp = (tmap_iff m.tmap_cicp).0 g.gain_map_ok.0.1.1.1.1.1.1.1.1.1.1.1.1;
      icc_size = more_below (is_some i.icc) c.metadata 20 10 _ (lit≤ tt) g.sizes_ok.0.1.1.1.0;
      tmap_icc_size = more_below (has && is_some m.tmap_icc) c.metadata 20 10 _ (lit≤ tt) g.sizes_ok.0.1.1.1.1.0;
      exif_size = more_below (is_some i.exif) c.metadata 20 10 _ (lit≤ tt) g.sizes_ok.0.1.1.1.1.1.1.1.1.1.1.1.1.1.0;
      xmp_size = more_below (is_some i.xmp) c.metadata 20 10 _ (lit≤ tt) g.sizes_ok.0.1.1.1.1.1.1.1.1.1.1.1.1.1.1;
      metadata_size = omega (arith, field_below has c.metadata 20 10 _ (lit≤ tt) g.sizes_ok.0.1.1.1.1.1.0);
      main_size = more_below true c.item 28 15 _ (lit≤ tt) g.sizes_ok.0.1.1.1.1.1.1.1.1.1.0;
      alpha_size = omega (arith, field_below i.alpha c.item 28 15 _ (lit≤ tt) g.sizes_ok.0.1.1.1.1.1.1.1.1.1.1.0);
      gain_size = omega (arith, field_below has c.item 28 15 _ (lit≤ tt) g.sizes_ok.0.1.1.1.1.1.1.0);
      config_size = (
        omega (arith, field_below true c.config 12 3 _ (lit≤ tt) g.sizes_ok.0.1.1.1.1.1.1.1.1.0),
        omega (arith, field_below (i.alpha && ltb 0 i.alpha_data.len) c.config 12 3 _ (lit≤ tt) g.sizes_ok.0.1.1.1.1.1.1.1.1.1.1.1.0),
        omega (arith, field_below (has && ltb 0 m.«data».len) c.config 12 3 _ (lit≤ tt) g.sizes_ok.0.1.1.1.1.1.1.1.0),
      );
    }

-- what can be written, and so what is read, has none of the listed faults
pub lawful : (i : MinimizedImage) → T (writable i) → Lawful i
unfolding writable header_of
lawful i h =
    let a = and_split (header.good (header_of i)) (not_empty i.alpha_codec_config && not_empty i.gain_map.codec_config) h in
    let b = and_split (not_empty i.alpha_codec_config) (not_empty i.gain_map.codec_config) a.1 in
    lawful_of i (least i) ((header.dec (header_of i)).0 a.0) b.0 b.1
