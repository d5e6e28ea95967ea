-- How long 'ipco', 'ipma' and 'iprp' are: from the record alone, slot by slot as in Slots.antt.
use Rattle.std.specs.Prelude.{Bool, not, cond, ◌||◌, List, [], ◌∷◌, map, ℕ, ◌+◌, ◌*◌, length, Option, Some, None, is_some}
use Rattle.mini.specs.Cut.{sum}
use Rattle.mini.specs.declared.MiniHdrBoxes.{MiniHdrBoxes}
use Rattle.mini.specs.declared.MinimizedImage.{MinimizedImage}
use Rattle.octets.specs.declared.Span.{Span}
use Rattle.mini.specs.declared.TmapCicp.{TmapCicp}
use Rattle.properties.specs.HdrBoxes.{hdr_box_len}
use Rattle.properties.specs.Orientation.{turns_of}
use Rattle.properties.specs.Pixi.{channels_of, alpha_channels, pixi_len}
use Rattle.properties.specs.Property.{ispe_len, nclx_len, prof_len, codec_config_len, aux_c_len, turn_len}
use Rattle.properties.specs.declared.hdr_boxes.HdrBox.{HdrBox}
use Rattle.slots.specs.Associations.{kept, main_row, alpha_row, tmap_row, gain_map_row}
use Rattle.slots.specs.Slots.{has_alpha_item, has_gain_map_item, alpha_config, gain_map_config, hdr_boxes}
use Rattle.slots.specs.Used.{used_slots}

-- ---- the kinds of slots; an unused one takes the eight bytes of an empty box
abbrev pub only_if_len : Bool → ℕ → ℕ
only_if_len t n = cond t n 8

-- an empty configuration too
abbrev pub config_slot_len : Span → ℕ
config_slot_len config = codec_config_len config.len

abbrev pub prof_slot_len : Option Span → ℕ
prof_slot_len None = 8
prof_slot_len (Some x) = prof_len x.len

abbrev pub turn_slot_len : Option ℕ → ℕ
turn_slot_len None = 8
turn_slot_len (Some turn) = turn_len

abbrev pub tmap_nclx_slot_len : Option TmapCicp → Option Span → ℕ
tmap_nclx_slot_len cicp icc = only_if_len (is_some cicp || not (is_some icc)) nclx_len

abbrev pub hdr_slot_len : Option HdrBox → ℕ
hdr_slot_len None = 8
hdr_slot_len (Some held) = hdr_box_len held

abbrev pub if_there_len : Bool → List ℕ → ℕ
if_there_len t lens = cond t (sum lens) (8 * length lens)

-- ---- the table
abbrev pub main_lens : MinimizedImage → List ℕ
main_lens i =
    config_slot_len i.main_codec_config ∷ ispe_len ∷ pixi_len (channels_of i.chroma) ∷ nclx_len ∷ prof_slot_len i.icc ∷ []

abbrev pub alpha_lens : MinimizedImage → List ℕ
alpha_lens i = config_slot_len (alpha_config i) ∷ aux_c_len ∷ pixi_len alpha_channels ∷ []

abbrev pub orientation_lens : MinimizedImage → List ℕ
orientation_lens i = turn_slot_len (turns_of i.orientation).angle ∷ turn_slot_len (turns_of i.orientation).axis ∷ []

abbrev pub hdr_lens : MiniHdrBoxes → List ℕ
hdr_lens h = map hdr_slot_len (hdr_boxes h)

abbrev pub gain_map_lens : MinimizedImage → List ℕ
gain_map_lens i = config_slot_len (gain_map_config i) ∷ ispe_len ∷ pixi_len (channels_of i.gain_map.chroma) ∷ nclx_len ∷ []

abbrev pub tmap_lens : MinimizedImage → List ℕ
tmap_lens i =
    ispe_len ∷ tmap_nclx_slot_len i.gain_map.tmap_cicp i.gain_map.tmap_icc ∷ prof_slot_len i.gain_map.tmap_icc ∷ []

-- 1 to 16
abbrev pub picture_len : MinimizedImage → ℕ
picture_len i =
    sum (main_lens i) + if_there_len (has_alpha_item i) (alpha_lens i) + sum (orientation_lens i) + sum (hdr_lens i.hdr_boxes)

-- 17 to 32
abbrev pub tone_map_len : MinimizedImage → ℕ
tone_map_len i =
    if_there_len (has_gain_map_item i) (gain_map_lens i) + if_there_len i.has_gain_map (tmap_lens i)
    + if_there_len i.has_gain_map (hdr_lens i.gain_map.tmap_hdr)
    + 24

abbrev pub ipco_len : MinimizedImage → ℕ
ipco_len i = 8 + (picture_len i + tone_map_len i)

-- ---- 'ipma' and 'iprp'
abbrev pub row_len : List Bool → List ℕ → ℕ
row_len used xs = 3 + length (kept used xs)

abbrev pub row_if_len : Bool → List Bool → List ℕ → ℕ
row_if_len t used xs = cond t (row_len used xs) 0

abbrev pub ipma_body_len : MinimizedImage → List Bool → ℕ
ipma_body_len i used =
    8 + row_len used main_row + row_if_len (has_alpha_item i) used alpha_row + row_if_len i.has_gain_map used tmap_row
    + row_if_len (has_gain_map_item i) used gain_map_row

abbrev pub ipma_len : MinimizedImage → ℕ
ipma_len i = 8 + ipma_body_len i (used_slots i)

abbrev pub iprp_len : MinimizedImage → ℕ
iprp_len i = 8 + (ipco_len i + ipma_len i)
