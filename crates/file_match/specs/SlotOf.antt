-- The slot that the code's value stands for (ISO/IEC 23008-12, O.4.6): the box that the writers make of a property. A configuration or a profile is
-- a part of the file that is compared.
use Rattle.std.specs.Prelude.{List, map, ℕ, Option, Some, None}
use Rattle.octets.specs.Part.{part_of}
use Rattle.properties.specs.HdrBoxes.{hdr_box}
use Rattle.properties.specs.Pixi.{channels_of, alpha_channels, pixi}
use Rattle.properties.specs.Property.{ispe, nclx, prof, codec_config, aux_c, turn_box}
use Rattle.slots.specs.Slots.{Slot, none, some}
use Rattle.file_match.specs.declared.slot_table.Property.{Property}
use Rattle.file_match.specs.declared.slot_table.Property.TheVariants.{Config, Ispe, Pixi, AlphaPixi, Nclx, Prof, Auxc, Turn, Hdr}

abbrev pub property_box : List ℕ → Property → List ℕ
property_box f (Config type config) = codec_config type (part_of f config.at config.len)
property_box f (Ispe size) = ispe size.width size.height
property_box f (Pixi format chroma) = pixi format (channels_of chroma)
property_box f (AlphaPixi format) = pixi format alpha_channels
property_box f (Nclx cicp full) = nclx cicp.primaries cicp.transfer cicp.matrix full
property_box f (Prof icc) = prof (part_of f icc.at icc.len)
property_box f Auxc = aux_c
property_box f (Turn type turn) = turn_box type turn
property_box f (Hdr held) = hdr_box held

abbrev pub slot_of : List ℕ → Option Property → Slot
slot_of f None = none
slot_of f (Some held) = some (property_box f held)

-- of several, one after another
unfoldable pub slots_of : List ℕ → List (Option Property) → List Slot
slots_of f held = map (slot_of f) held
