-- 'pixi' with px_flags 1 (ISO/IEC 23008-12, 6.5.6; O.4.7.1; `pixi_box` of mini.rs):
--
--     unsigned int(8) num_channels;
--     for each channel: unsigned int(8) bits_per_channel;
--     for each channel: channel_idc (3), reserved (1), component_format (2), subsampling_flag (1), channel_label_flag (1);
--                       subsampling_type (4), subsampling_location (4)
use Rattle.std.specs.Prelude.{Bool, cond, List, [], ◌∷◌, ◌++◌, map, ℕ, ◌+◌, ◌-◌, ◌*◌, eqb, length, replicate}
use Rattle.boxes.specs.Boxed.{boxed, full_box_header}
use Rattle.bits.specs.Bit.{to_n}
use Rattle.mini.specs.Cut.{joined}
use Rattle.mini.specs.Views.{bits_in}
use Rattle.mini.specs.declared.MiniChroma.{MiniChroma}
use Rattle.mini.specs.declared.SampleFormat.{SampleFormat}
use Rattle.mini.specs.declared.SampleFormat.TheVariants.{Integer, Float}
use Rattle.properties.specs.declared.Channel as code

-- channel_idc, subsampling_type and subsampling_location
pub record Channel : Type 0 where
  pub idc : ℕ
  pub subsampled : ℕ
  pub sited : ℕ

abbrev pub channel : ℕ → ℕ → ℕ → Channel
channel idc subsampled sited = record { idc = idc; subsampled = subsampled; sited = sited }

-- of the code's channel, the numbers
abbrev pub told : code.Channel → Channel
told c = channel c.idc c.subsampling_type c.subsampling_location

-- component_format: 0 unsigned integers, 1 floating point
abbrev pub component_format : SampleFormat → ℕ
component_format (Integer bits) = 0
component_format (Float bits) = 1

-- subsampling_type: 2 for 4:2:0, 1 for 4:2:2, else 0
abbrev pub subsampling_type : ℕ → ℕ
subsampling_type subsampling = cond (eqb subsampling 1) 2 (cond (eqb subsampling 2) 1 0)

-- subsampling_location, the chroma siting code: 2, plus 1 if the samples are centred horizontally, minus 2 if vertically
abbrev pub subsampling_location : Bool → Bool → ℕ
subsampling_location horizontally vertically = 2 + to_n horizontally - 2 * to_n vertically

-- ---- the channels of a picture: channel_idc 2 is the first component, 3 and 4 the other two; 5 is alpha
abbrev pub chroma_channel : ℕ → MiniChroma → Channel
chroma_channel idc c = channel idc (subsampling_type c.subsampling) (subsampling_location c.horizontally_centered c.vertically_centered)

-- one channel for 4:0:0, else three
abbrev pub channels_of : MiniChroma → List Channel
channels_of c =
    cond (eqb c.subsampling 0) (channel 2 0 0 ∷ []) (channel 2 0 0 ∷ chroma_channel 3 c ∷ chroma_channel 4 c ∷ [])

abbrev pub alpha_channels : List Channel
alpha_channels = channel 5 0 0 ∷ []

-- ---- the box
unfoldable pub channel_bytes : ℕ → Channel → List ℕ
channel_bytes format c = ((c.idc * 32 + format * 4 + 2) ∷ []) ++ ((c.subsampled * 16 + c.sited) ∷ [])

unfoldable pub pixi_body : SampleFormat → List Channel → List ℕ
pixi_body f channels =
    full_box_header 0 1 ++ (length channels ∷ []) ++ replicate (length channels) (bits_in f) ++ joined (map (channel_bytes (component_format f)) channels)

unfoldable pub pixi : SampleFormat → List Channel → List ℕ
pixi f channels = boxed 0x70697869 (pixi_body f channels)

-- three bytes for each channel
abbrev pub pixi_len : List Channel → ℕ
pixi_len channels = 13 + 3 * length channels
