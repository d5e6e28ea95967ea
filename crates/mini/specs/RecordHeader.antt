-- A record and its header: each is found again from the other, positions aside. Assumes nothing.
use Rattle.std.specs.Prelude.{◌≡◌, refl, Bool, true, false, ◌&&◌, ℕ, T, ltb, Option, Some, None, is_some}
use Rattle.std.proofs.Common.{sym, ap, ◌∙◌, arith, ltb→lt, ltb-false, lt-ltb}
use Rattle.bits.specs.Format.{◌>>=◌, minus1_if, flag_if, view}
use Rattle.mini.specs.Syntax.{header, flags, dimensions, main_format, gain_map_header, hdr_boxes, chunk_sizes, chroma, sample_format, float_format, integer_format, gain_map_format, explicit_cicp, explicit_codec_types, tmap_cicp}
use Rattle.mini.specs.Views.{is_float, cicp_told, types_told, tmap_told}
use Rattle.mini.specs.Chunks.{chunk_if, span_if, stored_spans}
use Rattle.mini.specs.Image.{image_of}
use Rattle.mini.specs.Same.{chunk_len, unplaced_chunk, unplaced}
use Rattle.mini.specs.Write.{Choices, header_with, not_empty}
use Rattle.mini.specs.declared.SampleFormat.{SampleFormat}
use Rattle.mini.specs.declared.MiniChroma.{MiniChroma}
use Rattle.octets.specs.declared.Span.{Span}
use Rattle.mini.specs.declared.CodecTypes.{CodecTypes}
use Rattle.mini.specs.declared.Cicp.{Cicp}
use Rattle.mini.specs.declared.TmapCicp.{TmapCicp}
use Rattle.mini.specs.declared.Header.{Header}
use Rattle.mini.specs.declared.MinimizedImage.{MinimizedImage}

-- ---- record, header, record
chunk_again : (p : ℕ) (c : Option Span) → unplaced_chunk (chunk_if (is_some c) (record { at = p; len = chunk_len c })) ≡ unplaced_chunk c
chunk_again p None = refl
chunk_again p (Some x) = refl

config_again : (c : Option Span) → T (not_empty c) → (p : ℕ) → unplaced_chunk (chunk_if (ltb 0 (chunk_len c)) (record { at = p; len = chunk_len c })) ≡ unplaced_chunk c
config_again None h p = refl
config_again (Some x) h p = ap (λ (t : Bool). unplaced_chunk (chunk_if t (record { at = p; len = x.len }))) (lt-ltb 0 x.len (ltb→lt 0 x.len h))

span_again : (t : Bool) (x : Span) → (span_if t x).len ≡ x.len
span_again true x = refl
span_again false x = refl

pub image_again : (i : MinimizedImage) (c : Choices) (at : ℕ) → T (not_empty i.alpha_codec_config) → T (not_empty i.gain_map.codec_config)
    → unplaced (image_of (header_with i c) at) ≡ unplaced i
unfolding unplaced image_of stored_spans header_with
image_again i c at h k =
    simp (chunk_again, config_again i.alpha_codec_config h, config_again i.gain_map.codec_config k, span_again)

-- ---- header, record, header
-- that the format takes a header, part by part
pub record Parts (h : Header) : Type 0 where
  pub flags_ok : flags.Good h.flags
  pub dimensions_ok : dimensions.Good h.dimensions
  pub main_ok : (main_format h.flags).Good h.main
  pub gain_map_ok : (gain_map_header h.flags.hdr h.dimensions).Good h.gain_map
  pub hdr_ok : (hdr_boxes h.flags.hdr).Good h.hdr_boxes
  pub tmap_hdr_ok : (hdr_boxes h.gain_map.present).Good h.tmap_hdr
  pub sizes_ok : (chunk_sizes h.flags h.gain_map).Good h.sizes

pub parts : (h : Header) → header.Good h → Parts h
unfolding header ◌>>=◌ view
parts h g =
    record {
      flags_ok = g.0.0;
      dimensions_ok = g.0.1.0;
      main_ok = g.0.1.1.0;
      gain_map_ok = g.0.1.1.1.0;
      hdr_ok = g.0.1.1.1.1.0;
      tmap_hdr_ok = g.0.1.1.1.1.1.0;
      sizes_ok = g.0.1.1.1.1.1.1;
    }

pub whole : (h : Header) → Parts h → header.Good h
unfolding header ◌>>=◌ view
whole h p = ((p.flags_ok, (p.dimensions_ok, (p.main_ok, (p.gain_map_ok, (p.hdr_ok, (p.tmap_hdr_ok, p.sizes_ok)))))), refl)

pub T_true : (b : Bool) → T b → b ≡ true
T_true true h = refl
T_true false h = absurd h

types_flag : (t : Bool) (c : Option CodecTypes) → (explicit_codec_types t).Good c → is_some c ≡ t
unfolding explicit_codec_types ◌>>=◌ view
types_flag true c g = T_true (is_some c) ((types_told c).1 g.1)
types_flag false c g = ap is_some g

cicp_flag : (t : Bool) (c : Option Cicp) → (explicit_cicp t).Good c → is_some c ≡ t
unfolding explicit_cicp ◌>>=◌ view
cicp_flag true c g = T_true (is_some c) ((cicp_told c).1 g.1)
cicp_flag false c g = ap is_some g

tmap_flag : (t : Bool) (c : Option TmapCicp) → (tmap_cicp t).Good c → is_some c ≡ t
unfolding tmap_cicp ◌>>=◌ view
tmap_flag true c g = T_true (is_some c) ((tmap_told c).1 g.1)
tmap_flag false c g = ap is_some g

float_flag : (t : Bool) (f : SampleFormat) → (sample_format t).Good f → is_float f ≡ t
unfolding sample_format float_format integer_format ◌>>=◌ view
float_flag true f g = sym (ap is_float g.1)
float_flag false f g = sym (ap is_float g.1)

gain_float : (has t : Bool) (f : SampleFormat) → (flag_if has).Good t → (gain_map_format has t).Good f → is_float f ≡ t
unfolding gain_map_format ◌>>=◌ view
gain_float true t f k g = float_flag t f g
gain_float false t f k g = ap is_float g ∙ sym k

sub_of : (sub : ℕ) (c : MiniChroma) → (chroma sub).Good c → c.subsampling ≡ sub
unfolding chroma ◌>>=◌ view
sub_of sub c g = sym (ap (λ (x : MiniChroma). x.subsampling) g.1)

present_again : (t : Bool) (x : Span) → is_some (chunk_if t x) ≡ t
present_again true x = refl
present_again false x = refl

len_again : (t : Bool) (w n : ℕ) → (minus1_if t w).Good n → (p : ℕ) → chunk_len (chunk_if t (record { at = p; len = n })) ≡ n
len_again true w n g p = refl
len_again false w n g p = sym g

len_again' : (has t : Bool) (w n : ℕ) → (minus1_if (has && t) w).Good n → (p : ℕ) → chunk_len (chunk_if t (record { at = p; len = n })) ≡ n
len_again' has true w n g p = refl
len_again' true false w n g p = sym g
len_again' false false w n g p = sym g

config_len : (n p : ℕ) → chunk_len (chunk_if (ltb 0 n) (record { at = p; len = n })) ≡ n
config_len n p = go (ltb 0 n) refl
  where
    go : (t : Bool) → ltb 0 n ≡ t → chunk_len (chunk_if t (record { at = p; len = n })) ≡ n
    go true e = refl
    go false e = omega (arith, ltb-false 0 n e)

unfoldable pub choices_of : Header → Choices
choices_of h =
    record {
      large = h.dimensions.large;
      same = h.gain_map.same_dimensions;
      metadata = h.sizes.large_metadata;
      config = h.sizes.large_codec_config;
      item = h.sizes.large_item_data;
    }

pub header_again : (h : Header) (at : ℕ) → header.Good h → header_with (image_of h at) (choices_of h) ≡ h
unfolding header_with image_of stored_spans choices_of main_format gain_map_header chunk_sizes ◌>>=◌ view
header_again h at good =
    let g = parts h good in
    let e1 = types_flag h.flags.explicit_codec_types h.main.explicit_codec_types g.main_ok.0.1.1.1.1 in
    let e2 = float_flag h.flags.float h.main.format g.main_ok.0.1.0 in
    let e3 = cicp_flag h.flags.explicit_cicp h.main.explicit_cicp g.main_ok.0.1.1.1.0 in
    let e4 = sub_of h.flags.subsampling h.main.chroma g.main_ok.0.0 in
    let e5 = sub_of h.gain_map.subsampling h.gain_map.chroma g.gain_map_ok.0.1.1.1.1.1.1.1.0 in
    let e6 = gain_float h.gain_map.present h.gain_map.float h.gain_map.format g.gain_map_ok.0.1.1.1.1.1.1.1.1.0 g.gain_map_ok.0.1.1.1.1.1.1.1.1.1.0 in
    let e7 = tmap_flag h.gain_map.tmap_explicit_cicp h.gain_map.tmap_cicp g.gain_map_ok.0.1.1.1.1.1.1.1.1.1.1.1.1 in
    let z1 = len_again h.flags.icc _ h.sizes.icc g.sizes_ok.0.1.1.1.0 in
    let z2 = len_again' h.gain_map.present h.gain_map.tmap_icc _ h.sizes.tmap_icc g.sizes_ok.0.1.1.1.1.0 in
    let z3 = len_again h.flags.exif _ h.sizes.exif g.sizes_ok.0.1.1.1.1.1.1.1.1.1.1.1.1.1.0 in
    let z4 = len_again h.flags.xmp _ h.sizes.xmp g.sizes_ok.0.1.1.1.1.1.1.1.1.1.1.1.1.1.1 in
    simp (present_again, config_len, span_again, e1, e2, e3, e4, e5, e6, e7, z1, z2, z3, z4)
