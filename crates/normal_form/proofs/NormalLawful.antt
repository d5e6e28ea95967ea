-- The normal form of a record that a payload gives has none of the faults that no payload gives either.
use Rattle.std.specs.Prelude.{◌≡◌, refl, Bool, true, false, cond, ◌&&◌, ◌||◌, List, ℕ, ◌≤◌, T, Option, Some, None}
use Rattle.std.proofs.Common.{ap, ◌∙◌, true≢false, lit≤}
use Rattle.std.proofs.lemmas.Bool.{or_parts}
use Rattle.mini.specs.Blank.{blank_hdr_boxes}
use Rattle.mini.specs.NoPayloadGives.{Lawful}
use Rattle.mini.specs.Ranges.{Within, FormatIn, TypesIn, Centred, Bodies}
use Rattle.mini.specs.Same.{chunk_len, unplaced_chunk, unplaced}
use Rattle.mini.specs.Write.{not_empty}
use Rattle.mini.specs.declared.CodecTypes.{CodecTypes}
use Rattle.mini.specs.declared.MiniGainMap.{MiniGainMap}
use Rattle.mini.specs.declared.MiniHdrBoxes.{MiniHdrBoxes}
use Rattle.mini.specs.declared.MinimizedImage.{MinimizedImage}
use Rattle.mini.specs.declared.TmapCicp.{TmapCicp}
use Rattle.octets.specs.declared.Span.{Span}
use Rattle.normal_form.specs.NormalForm.{has_body, short_config, short_tmap_cicp, with_own, plain_own, lacks_data, writes_config, without_config_type, normal}
use Rattle.normal_form.proofs.ShortForms.{either_way, cicp_fits, no_body, tone_fits}

-- ---- what no payload gives, of the parts that differ
pub short_held : (P : Option Span → Type 0) (c : Option Span) (main : Span) (s : List ℕ) → P None → P c → P (short_config c main s)
short_held P None main s n h = h
short_held P (Some x) main s n h = either_way P _ None (Some x) n h

-- the flag may go where nothing needs it
hdr_off : (hdr has : Bool) (b : MiniHdrBoxes) → Bodies b → (hdr ≡ false → has ≡ false) → (hdr ≡ false → b ≡ blank_hdr_boxes)
    → (hdr && (has || has_body b)) ≡ false → (has ≡ false) × (b ≡ blank_hdr_boxes)
hdr_off true has b z h k e = let f = or_parts has (has_body b) e in (f.0, no_body b z f.1)
hdr_off false has b z h k e = (h refl, k refl)

-- where there is no gain map, it stays blank
own_blank : (has d : Bool) (p g : MiniGainMap) → has ≡ false → cond (has && d) p g ≡ g
own_blank true d p g e = absurd (true≢false e)
own_blank false d p g e = refl

tone_blank : (c : Option TmapCicp) (icc : Option Span) → c ≡ None → short_tmap_cicp c icc ≡ None
tone_blank c icc e = ap (λ (d : Option TmapCicp). short_tmap_cicp d icc) e

types_in : (w : Bool) (c : Option CodecTypes) → TypesIn c → TypesIn (cond w c (without_config_type c))
types_in true c h = h
types_in false None h = h
types_in false (Some c) h = (h.0, lit≤ tt)

module _ (i : MinimizedImage) (s : List ℕ) where
  abbrev g : MiniGainMap
  g = i.gain_map

  abbrev plain : MiniGainMap
  plain = plain_own i.width i.height

  -- the gain map's own numbers, be they its own or those taken for them
  own_either : (P : MiniGainMap → Type 0) → P plain → P g → P (cond (lacks_data i) plain g)
  own_either P p q = either_way P (lacks_data i) plain g p q

  pub lawful_normal : Lawful i → Lawful (normal i s)
  unfolding normal unplaced
  lawful_normal l =
      let h = hdr_off i.hdr i.has_gain_map i.hdr_boxes l.boxes_bodies l.gain_hdr l.boxes_hdr in
      let main = i.main_codec_config in
      record {
        main_centred = l.main_centred;
        gain_centred = own_either (λ (o : MiniGainMap). Centred o.chroma) (record { horizontal_stored = λ e. refl; vertical_stored = λ e. refl }) l.gain_centred;
        premultiplied = l.premultiplied;
        alpha_bytes = l.alpha_bytes;
        alpha_config_empty = short_held (λ (c : Option Span). T (not_empty c)) i.alpha_codec_config main s tt l.alpha_config_empty;
        gain_config_empty = short_held (λ (c : Option Span). T (not_empty c)) g.codec_config main s tt l.gain_config_empty;
        alpha_config_alone = λ e. short_held (λ (c : Option Span). chunk_len c ≡ 0) i.alpha_codec_config main s refl (l.alpha_config_alone e);
        gain_config_alone = λ e. short_held (λ (c : Option Span). chunk_len c ≡ 0) g.codec_config main s refl (l.gain_config_alone e);
        icc_empty = l.icc_empty;
        tmap_icc_empty = l.tmap_icc_empty;
        exif_empty = l.exif_empty;
        xmp_empty = l.xmp_empty;
        gain_hdr = λ e. (h e).0;
        boxes_hdr = λ e. (h e).1;
        gain_blank =
            λ e.
            let b = l.gain_blank e in
            let o = own_blank i.has_gain_map _ plain g e in
            let c = short_held (λ (c : Option Span). unplaced_chunk c ≡ None) g.codec_config main s refl (ap (λ (m : MiniGainMap). m.codec_config) b) in
            let t = tone_blank g.tmap_cicp g.tmap_icc (ap (λ (m : MiniGainMap). m.tmap_cicp) b) in
            (λ j. record (with_own ((unplaced i).gain_map) (o j)) { codec_config = c j; tmap_cicp = t j }) ∙ λ j. record (b j) { codec_config = None; tmap_cicp = None };
        boxes_bodies = l.boxes_bodies;
        tmap_bodies = l.tmap_bodies;
        compressed = l.compressed;
        main_data = l.main_data;
        orientation = l.orientation;
        width = l.width;
        height = l.height;
        subsampling = l.subsampling;
        format = l.format;
        cicp = cicp_fits i.explicit_cicp _ l.cicp;
        codec_types = types_in (writes_config i) i.explicit_codec_types l.codec_types;
        gain_width = λ e. own_either (λ (o : MiniGainMap). Within 1 32768 o.width) l.width (l.gain_width e);
        gain_height = λ e. own_either (λ (o : MiniGainMap). Within 1 32768 o.height) l.height (l.gain_height e);
        gain_matrix = own_either (λ (o : MiniGainMap). o.matrix_coefficients ≤ 255) (lit≤ tt) l.gain_matrix;
        gain_subsampling = own_either (λ (o : MiniGainMap). o.chroma.subsampling ≤ 3) (lit≤ tt) l.gain_subsampling;
        gain_format = λ e. own_either (λ (o : MiniGainMap). FormatIn o.format) (lit≤ tt, lit≤ tt) (l.gain_format e);
        tmap_cicp = tone_fits g.tmap_cicp g.tmap_icc l.tmap_cicp;
        icc_size = l.icc_size;
        tmap_icc_size = l.tmap_icc_size;
        exif_size = l.exif_size;
        xmp_size = l.xmp_size;
        metadata_size = l.metadata_size;
        main_size = l.main_size;
        alpha_size = l.alpha_size;
        gain_size = l.gain_size;
        config_size = (
          l.config_size.0,
          short_held (λ (c : Option Span). chunk_len c ≤ 4095) i.alpha_codec_config main s (lit≤ tt) l.config_size.1,
          short_held (λ (c : Option Span). chunk_len c ≤ 4095) g.codec_config main s (lit≤ tt) l.config_size.2,
        );
      }
