-- Which slots are used: from the record alone, slot by slot as in Slots.antt.
use Rattle.std.specs.Prelude.{Bool, true, false, not, ◌&&◌, ◌||◌, List, [], ◌∷◌, ◌++◌, map, ltb, is_some}
use Rattle.mini.specs.declared.MiniHdrBoxes.{MiniHdrBoxes}
use Rattle.mini.specs.declared.MinimizedImage.{MinimizedImage}
use Rattle.properties.specs.Orientation.{turns_of}
use Rattle.slots.specs.Slots.{has_alpha_item, has_gain_map_item, alpha_config, gain_map_config}

abbrev pub used_if : Bool → List Bool → List Bool
used_if t used = map (λ (u : Bool). t && u) used

abbrev pub main_used : MinimizedImage → List Bool
main_used i = ltb 0 i.main_codec_config.len ∷ true ∷ true ∷ true ∷ is_some i.icc ∷ []

abbrev pub alpha_used : MinimizedImage → List Bool
alpha_used i = ltb 0 (alpha_config i).len ∷ true ∷ true ∷ []

abbrev pub orientation_used : MinimizedImage → List Bool
orientation_used i = is_some (turns_of i.orientation).angle ∷ is_some (turns_of i.orientation).axis ∷ []

abbrev pub hdr_used : MiniHdrBoxes → List Bool
hdr_used h =
    h.has_clli ∷ h.has_mdcv ∷ h.has_cclv ∷ h.has_amve ∷ h.has_reve ∷ h.has_ndwt ∷ []

abbrev pub gain_map_used : MinimizedImage → List Bool
gain_map_used i = ltb 0 (gain_map_config i).len ∷ true ∷ true ∷ true ∷ []

abbrev pub tmap_used : MinimizedImage → List Bool
tmap_used i =
    true
    ∷ (is_some i.gain_map.tmap_cicp || not (is_some i.gain_map.tmap_icc))
    ∷ is_some i.gain_map.tmap_icc
    ∷ []

-- by number; the slots are counted from 1, and 0 is none
unfoldable pub used_slots : MinimizedImage → List Bool
used_slots i =
    false
    ∷ ((main_used i ++ used_if (has_alpha_item i) (alpha_used i) ++ orientation_used i ++ hdr_used i.hdr_boxes)
    ++ (used_if (has_gain_map_item i) (gain_map_used i) ++ used_if i.has_gain_map (tmap_used i)
    ++ used_if i.has_gain_map (hdr_used i.gain_map.tmap_hdr)
    ++ (false ∷ false ∷ false ∷ [])))
