-- The normal form of a record that expands: what its file does not carry has the value that is taken for it (document 02, 14, and the
-- defaults of 3). The source stays the same, and so do all positions.
--
--     colour triple                  absent if it is the inferred one
--     hdr                            false without gain map and without HDR body
--     alpha, gain-map configuration  absent if it has the main one's bytes
--     tone map's colours             absent if they are 1, 13, 6 and full range, and the tone map has no ICC profile
--     gain map without data          the main picture's size, matrix 0, no full range, 4:0:0, integers of 8 bits
--     configuration's codec type     0 where no configuration is written
use Rattle.std.specs.Prelude.{Bool, true, not, cond, ◌&&◌, ◌||◌, List, ℕ, eqb, ltb, Option, Some, None, is_some}
use Rattle.bits.specs.Format.{is_list}
use Rattle.mini.specs.Blank.{blank_gain_map}
use Rattle.mini.specs.Cicp.{table_cicp}
use Rattle.mini.specs.Same.{span_bytes}
use Rattle.mini.specs.declared.Cicp.{Cicp}
use Rattle.mini.specs.declared.CodecTypes.{CodecTypes}
use Rattle.mini.specs.declared.MiniGainMap.{MiniGainMap}
use Rattle.mini.specs.declared.MiniHdrBoxes.{MiniHdrBoxes}
use Rattle.mini.specs.declared.MinimizedImage.{MinimizedImage}
use Rattle.mini.specs.declared.SampleFormat.TheVariants.{Integer}
use Rattle.mini.specs.declared.TmapCicp.{TmapCicp}
use Rattle.octets.specs.declared.Span.{Span}
use Rattle.slots.specs.Slots.{has_alpha_item, has_gain_map_item, alpha_config, gain_map_config}

-- ---- colour
abbrev pub is_cicp : Cicp → Cicp → Bool
is_cicp c d = eqb c.primaries d.primaries && (eqb c.transfer d.transfer && eqb c.matrix d.matrix)

abbrev pub short_cicp : Option Cicp → Cicp → Option Cicp
short_cicp None inferred = None
short_cicp (Some c) inferred = cond (is_cicp c inferred) None (Some c)

-- ---- high dynamic range
abbrev pub has_body : MiniHdrBoxes → Bool
has_body h = h.has_clli || (h.has_mdcv || (h.has_cclv || (h.has_amve || (h.has_reve || h.has_ndwt))))

-- what needs the flag
abbrev pub needs_hdr : MinimizedImage → Bool
needs_hdr i = i.has_gain_map || has_body i.hdr_boxes

-- ---- the configurations of alpha and of the gain map
abbrev pub short_config : Option Span → Span → List ℕ → Option Span
short_config None main s = None
short_config (Some own) main s = cond (is_list (span_bytes own s) (span_bytes main s)) None (Some own)

-- ---- the tone map's colours: those of sRGB, which stand for absent ones (Table O.5)
abbrev pub srgb : TmapCicp
srgb = record { cicp = record { primaries = 1; transfer = 13; matrix = 6 }; full_range = true }

abbrev pub is_srgb : TmapCicp → Bool
is_srgb c = is_cicp c.cicp srgb.cicp && c.full_range

abbrev pub short_tmap_cicp : Option TmapCicp → Option Span → Option TmapCicp
short_tmap_cicp None icc = None
short_tmap_cicp (Some c) icc = cond (not (is_some icc) && is_srgb c) None (Some c)

-- ---- a gain map's own size, matrix, range, chroma and format: the first with those of the second
abbrev pub with_own : MiniGainMap → MiniGainMap → MiniGainMap
with_own g o =
    record g {
      width = o.width;
      height = o.height;
      matrix_coefficients = o.matrix_coefficients;
      full_range = o.full_range;
      chroma = o.chroma;
      format = o.format;
    }

-- of a gain map without data, for a picture of that size
abbrev pub plain_own : (width height : ℕ) → MiniGainMap
plain_own width height = record blank_gain_map { width = width; height = height; format = Integer 8 }

abbrev pub lacks_data : MinimizedImage → Bool
lacks_data i = i.has_gain_map && not (ltb 0 i.gain_map.«data».len)

-- ---- the configurations' codec type: it is told where slot 1, 6 or 17 is used
abbrev pub writes_config : MinimizedImage → Bool
writes_config i =
    ltb 0 i.main_codec_config.len
    || ((has_alpha_item i && ltb 0 (alpha_config i).len) || (has_gain_map_item i && ltb 0 (gain_map_config i).len))

abbrev pub without_config_type : Option CodecTypes → Option CodecTypes
without_config_type None = None
without_config_type (Some types) = Some (record types { codec_config_type = 0 })

-- ---- all of it
unfoldable pub normal : MinimizedImage → List ℕ → MinimizedImage
normal i s =
    let g = i.gain_map in
    record i {
      explicit_cicp = short_cicp i.explicit_cicp (table_cicp (is_some i.icc) i.chroma.subsampling);
      hdr = i.hdr && needs_hdr i;
      alpha_codec_config = short_config i.alpha_codec_config i.main_codec_config s;
      gain_map =
          record (with_own g (cond (lacks_data i) (plain_own i.width i.height) g)) {
            codec_config = short_config g.codec_config i.main_codec_config s;
            tmap_cicp = short_tmap_cicp g.tmap_cicp g.tmap_icc;
          };
      explicit_codec_types = cond (writes_config i) i.explicit_codec_types (without_config_type i.explicit_codec_types);
    }
