-- The configurations of alpha and of the gain map, and the codec types: what is read for them is their normal form.
use Rattle.std.specs.Prelude.{◌≡◌, refl, Bool, true, ◌&&◌, cond, List, ℕ, ltb, Option, Some}
use Rattle.std.proofs.Common.{arith, ltb-false}
use Rattle.mini.specs.NoPayloadGives.{Lawful, lawful}
use Rattle.mini.specs.declared.CodecTypes.{CodecTypes}
use Rattle.mini.specs.declared.MiniGainMap.{MiniGainMap}
use Rattle.mini.specs.declared.MinimizedImage.{MinimizedImage}
use Rattle.slots.specs.Slots.{has_alpha_item, has_gain_map_item, alpha_config, gain_map_config, config_type, config_slot, main_slots, alpha_slots, orientation_slots, hdr_slots, gain_map_slots, tmap_slots}
use Rattle.slots.specs.Sound.{Sound, sound}
use Rattle.expander.specs.EquivalentFile.{item_type}
use Rattle.expander.specs.Expands.{Expands}
use Rattle.normal_form.specs.NormalForm.{short_config, writes_config, without_config_type}
use Rattle.normal_form.specs.ReadProperties.{body_in}
use Rattle.normal_form.specs.ReadRecord.{config_type_in}
use Rattle.normal_form.proofs.RecordParts.{no_data, types_again}
use Rattle.normal_form.proofs.SlotsRead.{ReadAs, config_again, config_told}
use Rattle.slots.specs.SlotLaws.{gate, flat_slots}

module _ (i : MinimizedImage) (s brands : List ℕ) (x : Expands i s brands) where
  abbrev g : MiniGainMap
  g = i.gain_map

  abbrev types : Option CodecTypes
  types = i.explicit_codec_types

  l : Lawful i
  l = lawful i x.can_write

  p : Sound i s
  p = sound i s x.placed x.can_write

  abbrev main : List ℕ
  main = body_in (config_slot types i.main_codec_config s)

  pub alpha_config_again : ReadAs (gate (has_alpha_item i) (config_slot types (alpha_config i) s)) main (short_config i.alpha_codec_config i.main_codec_config s) s
  alpha_config_again =
      config_again types i.main_codec_config s (has_alpha_item i) i.alpha_codec_config l.alpha_config_empty p.alpha_config
      (λ e. l.alpha_config_alone (omega (arith, ltb-false 0 i.alpha_data.len e)))

  pub gain_config_again : ReadAs (gate (has_gain_map_item i) (config_slot types (gain_map_config i) s)) main (short_config g.codec_config i.main_codec_config s) s
  gain_config_again =
      config_again types i.main_codec_config s (has_gain_map_item i) g.codec_config l.gain_config_empty p.gain_map_config
      (λ e. l.gain_config_alone (no_data i s i.has_gain_map l.gain_blank e))

  -- which of the three are written
  abbrev main_written : Bool
  main_written = ltb 0 i.main_codec_config.len

  abbrev alpha_written : Bool
  alpha_written = has_alpha_item i && ltb 0 (alpha_config i).len

  abbrev gain_written : Bool
  gain_written = has_gain_map_item i && ltb 0 (gain_map_config i).len

  type_again : config_type_in (flat_slots i s) ≡ (let n = config_type types in cond main_written n (cond alpha_written n (cond gain_written n 0)))
  unfolding main_slots alpha_slots orientation_slots hdr_slots gain_map_slots tmap_slots
  type_again =
      config_told true types i.main_codec_config s l.codec_types
      (config_told (has_alpha_item i) types (alpha_config i) s l.codec_types
      (config_told (has_gain_map_item i) types (gain_map_config i) s l.codec_types refl))

  pub codec_types_again : Some (record { infe_type = item_type types; codec_config_type = config_type_in (flat_slots i s) })
      ≡ cond (writes_config i) types (without_config_type types)
  codec_types_again = rw type_again (types_again types x.typed main_written alpha_written gain_written)
