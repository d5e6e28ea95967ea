-- The 32 slots of 'ipco' (ISO/IEC 23008-12, O.4.6; document 01, 'The equivalent file'). A property stands always in its own slot; an
-- unused slot is an empty 'free'.
--
--     1           codec configuration           it is not empty
--     2, 3, 4     'ispe', 'pixi', 'colr' nclx   always
--     5           'colr' prof                   there is an ICC profile
--     6           codec configuration           an alpha item, and it is not empty
--     7, 8        'auxC', 'pixi'                an alpha item
--     9, 10       'irot', 'imir'                the orientation has it
--     11 to 16    the HDR boxes                 the record holds the body
--     17          codec configuration           a gain-map item, and it is not empty
--     18, 19, 20  'ispe', 'pixi', 'colr' nclx   a gain-map item
--     21          'ispe' as shown               a gain map
--     22          'colr' nclx                   a gain map, and its colour is told or there is no profile
--     23          'colr' prof                   a gain map with an ICC profile for the tone map
--     24 to 29    the HDR boxes                 a gain map, and it holds the body
--     30, 31, 32  none                          never
use Rattle.std.specs.Prelude.{Bool, true, false, not, ◌&&◌, ◌||◌, List, [], ◌∷◌, ◌++◌, map, ℕ, ltb, length, replicate, Option, Some, None, is_some}
use Rattle.std.specs.Bool.{then_some}
use Rattle.boxes.specs.Boxed.{boxed}
use Rattle.mini.specs.Cicp.{cicp_of}
use Rattle.mini.specs.Cut.{joined}
use Rattle.mini.specs.Same.{chunk_bytes, span_bytes}
use Rattle.mini.specs.ShownSize.{shown_size}
use Rattle.mini.specs.declared.CodecTypes.{CodecTypes}
use Rattle.mini.specs.declared.MiniHdrBoxes.{MiniHdrBoxes}
use Rattle.mini.specs.declared.MinimizedImage.{MinimizedImage}
use Rattle.octets.specs.declared.Span.{Span}
use Rattle.mini.specs.declared.TmapCicp.{TmapCicp}
use Rattle.properties.specs.HdrBoxes.{hdr_box}
use Rattle.properties.specs.Orientation.{turns_of}
use Rattle.properties.specs.Pixi.{channels_of, alpha_channels, pixi}
use Rattle.properties.specs.Property.{ispe, nclx, prof, codec_config, aux_c, irot, imir}
use Rattle.properties.specs.declared.hdr_boxes.HdrBox.{HdrBox}
use Rattle.properties.specs.declared.hdr_boxes.HdrBox.TheVariants.{Clli, Mdcv, Cclv, Amve, Reve, Ndwt}

-- a property's box, or none
pub data Slot : Type 0 where
  none : Slot
  some : List ℕ → Slot

abbrev pub is_used : Slot → Bool
is_used none = false
is_used (some box) = true

unfoldable pub free : List ℕ
free = boxed 0x66726565 []

abbrev pub slot_bytes : Slot → List ℕ
slot_bytes none = free
slot_bytes (some box) = box

abbrev pub only_if : Bool → List ℕ → Slot
only_if true box = some box
only_if false box = none

-- slots of which all are unused where their item is missing
abbrev pub if_there : Bool → List Slot → List Slot
if_there true slots = slots
if_there false slots = replicate (length slots) none

-- ---- what decides
abbrev pub has_alpha_item : MinimizedImage → Bool
has_alpha_item i = ltb 0 i.alpha_data.len

abbrev pub has_gain_map_item : MinimizedImage → Bool
has_gain_map_item i = i.has_gain_map && ltb 0 i.gain_map.«data».len

-- the type of the codec configurations; expanding is refused where there is none (14)
abbrev pub config_type : Option CodecTypes → ℕ
config_type None = 0
config_type (Some types) = types.codec_config_type

-- the configuration of alpha or gain map: its own, else the main picture's
abbrev pub config_or : Option Span → Span → Span
config_or None main = main
config_or (Some own) main = own

abbrev pub alpha_config : MinimizedImage → Span
alpha_config i = config_or i.alpha_codec_config i.main_codec_config

abbrev pub gain_map_config : MinimizedImage → Span
gain_map_config i = config_or i.gain_map.codec_config i.main_codec_config

-- ---- the kinds of slots
-- an empty configuration has no box
abbrev pub config_slot : Option CodecTypes → Span → List ℕ → Slot
config_slot types config s = only_if (ltb 0 config.len) (codec_config (config_type types) (span_bytes config s))

abbrev pub prof_slot : Option Span → List ℕ → Slot
prof_slot icc s = only_if (is_some icc) (prof (chunk_bytes icc s))

abbrev pub turn_slot : (ℕ → List ℕ) → Option ℕ → Slot
turn_slot box None = none
turn_slot box (Some turn) = some (box turn)

abbrev pub irot_slot : Option ℕ → Slot
irot_slot angle = turn_slot irot angle

abbrev pub imir_slot : Option ℕ → Slot
imir_slot axis = turn_slot imir axis

-- the tone map's colour: sRGB where it is not told (Table O.5)
abbrev pub tmap_nclx : Option TmapCicp → List ℕ
tmap_nclx None = nclx 1 13 6 true
tmap_nclx (Some c) = nclx c.cicp.primaries c.cicp.transfer c.cicp.matrix c.full_range

-- a profile alone needs no colour beside it
abbrev pub tmap_nclx_slot : Option TmapCicp → Option Span → Slot
tmap_nclx_slot cicp icc = only_if (is_some cicp || not (is_some icc)) (tmap_nclx cicp)

-- an HDR box that the record holds
abbrev pub hdr_slot : Option HdrBox → Slot
hdr_slot None = none
hdr_slot (Some held) = some (hdr_box held)

-- the HDR boxes that a record holds, in the order of their slots
abbrev pub hdr_boxes : MiniHdrBoxes → List (Option HdrBox)
hdr_boxes h =
    then_some h.has_clli (Clli h.clli)
    ∷ then_some h.has_mdcv (Mdcv h.mdcv)
    ∷ then_some h.has_cclv (Cclv h.cclv)
    ∷ then_some h.has_amve (Amve h.amve)
    ∷ then_some h.has_reve (Reve h.reve)
    ∷ then_some h.has_ndwt (Ndwt h.ndwt)
    ∷ []

-- ---- the table
-- 1 to 5, the main picture: configuration, size, channels, colour, profile
unfoldable pub main_slots : MinimizedImage → List ℕ → List Slot
main_slots i s =
    config_slot i.explicit_codec_types i.main_codec_config s
    ∷ some (ispe i.width i.height)
    ∷ some (pixi i.format (channels_of i.chroma))
    ∷ some (nclx (cicp_of i).primaries (cicp_of i).transfer (cicp_of i).matrix i.full_range)
    ∷ prof_slot i.icc s
    ∷ []

-- 6 to 8, alpha: configuration, what it is, channel
unfoldable pub alpha_slots : MinimizedImage → List ℕ → List Slot
alpha_slots i s =
    config_slot i.explicit_codec_types (alpha_config i) s
    ∷ some aux_c
    ∷ some (pixi i.format alpha_channels)
    ∷ []

-- 9 and 10: rotation, mirror
unfoldable pub orientation_slots : MinimizedImage → List Slot
orientation_slots i = irot_slot (turns_of i.orientation).angle ∷ imir_slot (turns_of i.orientation).axis ∷ []

-- 11 to 16, and 24 to 29 for the tone map
unfoldable pub hdr_slots : MiniHdrBoxes → List Slot
hdr_slots h = map hdr_slot (hdr_boxes h)

-- 17 to 20, the gain map: configuration, size, channels, colour
unfoldable pub gain_map_slots : MinimizedImage → List ℕ → List Slot
gain_map_slots i s =
    config_slot i.explicit_codec_types (gain_map_config i) s
    ∷ some (ispe i.gain_map.width i.gain_map.height)
    ∷ some (pixi i.gain_map.format (channels_of i.gain_map.chroma))
    ∷ some (nclx 2 2 i.gain_map.matrix_coefficients i.gain_map.full_range)
    ∷ []

-- the size as shown
abbrev pub shown_ispe : MinimizedImage → List ℕ
shown_ispe i = ispe (shown_size i).width (shown_size i).height

-- 21 to 23, the tone map: size, colour, profile
unfoldable pub tmap_slots : MinimizedImage → List ℕ → List Slot
tmap_slots i s =
    some (shown_ispe i) ∷ tmap_nclx_slot i.gain_map.tmap_cicp i.gain_map.tmap_icc ∷ prof_slot i.gain_map.tmap_icc s ∷ []

-- 1 to 16
unfoldable pub picture_slots : MinimizedImage → List ℕ → List Slot
picture_slots i s = main_slots i s ++ if_there (has_alpha_item i) (alpha_slots i s) ++ orientation_slots i ++ hdr_slots i.hdr_boxes

-- 17 to 32; the last three are never used
unfoldable pub tone_map_slots : MinimizedImage → List ℕ → List Slot
tone_map_slots i s =
    if_there (has_gain_map_item i) (gain_map_slots i s)
    ++ if_there i.has_gain_map (tmap_slots i s)
    ++ if_there i.has_gain_map (hdr_slots i.gain_map.tmap_hdr)
    ++ replicate 3 none

unfoldable pub slots : MinimizedImage → List ℕ → List Slot
slots i s = picture_slots i s ++ tone_map_slots i s

-- ---- the box
unfoldable pub slots_bytes : List Slot → List ℕ
slots_bytes l = joined (map slot_bytes l)

unfoldable pub ipco : MinimizedImage → List ℕ → List ℕ
ipco i s = boxed 0x6970636F (slots_bytes (slots i s))
