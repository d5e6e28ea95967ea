-- When two minis are one file (document 02, 14): the records, each with its source, are the same apart from what an expanded file does not
-- carry. `Alike` has the request's list, item by item; `one_file` (proofs/OneFile.antt) says that it is right. The compressed flag is on the
-- request's list too, 'so far as the file doesn't carry it': the file always does (`compressed_carried`), so that it is no freedom here.
use Rattle.std.specs.Prelude.{◌≡◌, ◌⊎◌, false, List, ℕ, ◌<◌, Option, Some, None, is_some}
use Rattle.mini.specs.Blank.{blank_gain_map}
use Rattle.mini.specs.Cicp.{cicp_of}
use Rattle.mini.specs.Same.{chunk_bytes, span_bytes, unplaced_chunk, Same}
use Rattle.mini.specs.declared.MiniGainMap.{MiniGainMap}
use Rattle.mini.specs.declared.MinimizedImage.{MinimizedImage}
use Rattle.mini.specs.declared.TmapCicp.{TmapCicp}
use Rattle.octets.specs.declared.Span.{Span}
use Rattle.normal_form.specs.NormalForm.{needs_hdr, srgb, with_own, writes_config, without_config_type}

-- the record with blanks for all that the list names; the codec types keep the items' type
abbrev pub rest_of : MinimizedImage → MinimizedImage
rest_of i =
    record i {
      explicit_cicp = None;
      hdr = false;
      alpha_codec_config = None;
      gain_map = record (with_own i.gain_map blank_gain_map) { codec_config = None; tmap_cicp = None };
      explicit_codec_types = without_config_type i.explicit_codec_types;
    }

-- one chunk, positions aside
pub record SameChunk (c : Option Span) (s : List ℕ) (d : Option Span) (t : List ℕ) : Type 0 where
  pub field : unplaced_chunk c ≡ unplaced_chunk d
  pub bytes : chunk_bytes c s ≡ chunk_bytes d t

-- a configuration that is absent or equal to a non-empty main one
abbrev pub LikeMain : Option Span → Span → List ℕ → Type 0
LikeMain c main s = (0 < main.len) × ((c ≡ None) ⊎ (chunk_bytes c s ≡ span_bytes main s))

-- colours of a tone map without ICC profile that are absent or 1, 13, 6 and full range
abbrev pub PlainTone : Option TmapCicp → Option Span → Type 0
PlainTone c icc = (is_some icc ≡ false) × ((c ≡ None) ⊎ (c ≡ Some srgb))

-- the gain map's own size, matrix, range, chroma and format
abbrev pub own_fields : MiniGainMap → MiniGainMap
own_fields g = with_own blank_gain_map g

pub record Alike (i : MinimizedImage) (s : List ℕ) (j : MinimizedImage) (t : List ℕ) : Type 0 where
  -- the same apart from
  pub rest : Same (rest_of i) s (rest_of j) t
  -- the colour triple, explicit or inferred with equal value
  pub triple : cicp_of i ≡ cicp_of j
  -- the hdr flag when there is no gain map and no main HDR body
  pub hdr : (i.hdr ≡ j.hdr) ⊎ ((needs_hdr i ≡ false) × (needs_hdr j ≡ false))
  -- the alpha or gain-map configuration, absent or equal to a non-empty main one
  pub alpha_config : SameChunk i.alpha_codec_config s j.alpha_codec_config t
      ⊎ (LikeMain i.alpha_codec_config i.main_codec_config s × LikeMain j.alpha_codec_config j.main_codec_config t)
  pub gain_map_config : SameChunk i.gain_map.codec_config s j.gain_map.codec_config t
      ⊎ (LikeMain i.gain_map.codec_config i.main_codec_config s × LikeMain j.gain_map.codec_config j.main_codec_config t)
  -- the tone map's colours, absent or 1, 13, 6 and full range, when it has no ICC profile
  pub tone : (i.gain_map.tmap_cicp ≡ j.gain_map.tmap_cicp)
      ⊎ (PlainTone i.gain_map.tmap_cicp i.gain_map.tmap_icc × PlainTone j.gain_map.tmap_cicp j.gain_map.tmap_icc)
  -- the gain map's own size, matrix, range, chroma and format when its data is empty: it has no item then
  pub gain_map : (own_fields i.gain_map ≡ own_fields j.gain_map) ⊎ ((i.gain_map.«data».len ≡ 0) × (j.gain_map.«data».len ≡ 0))
  -- the configuration's codec type when no configuration box is written
  pub types : (i.explicit_codec_types ≡ j.explicit_codec_types) ⊎ ((writes_config i ≡ false) × (writes_config j ≡ false))
