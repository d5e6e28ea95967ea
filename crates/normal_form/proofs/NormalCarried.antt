-- The file of the normal form of a record that expands carries the same as the record's.
use Rattle.std.specs.Prelude.{◌≡◌, refl, Bool, true, false, not, cond, ◌&&◌, List, [], ◌∷◌, ℕ, ltb, Option, Some, None, is_some}
use Rattle.std.proofs.Common.{sym, ap, true≢false}
use Rattle.std.proofs.lemmas.Bool.{or_parts}
use Rattle.mini.specs.Cicp.{table_cicp}
use Rattle.mini.specs.declared.CodecTypes.{CodecTypes}
use Rattle.mini.specs.declared.MiniGainMap.{MiniGainMap}
use Rattle.mini.specs.declared.MinimizedImage.{MinimizedImage}
use Rattle.octets.specs.declared.Span.{Span}
use Rattle.properties.specs.Pixi.{channels_of, alpha_channels, pixi}
use Rattle.properties.specs.Property.{ispe, nclx, aux_c}
use Rattle.slots.specs.Slots.{Slot, some, if_there, config_or, config_slot, has_alpha_item, has_gain_map_item, alpha_config, gain_map_config, main_slots, alpha_slots, orientation_slots, gain_map_slots, tmap_slots, picture_slots, tone_map_slots, slots}
use Rattle.slots.specs.Sound.{sound}
use Rattle.expander.specs.EquivalentFile.{item_type, item_set, item_bytes}
use Rattle.expander.specs.Expands.{Expands}
use Rattle.carried.specs.Carried.{carried}
use Rattle.normal_form.specs.NormalForm.{short_config, plain_own, writes_config, without_config_type, normal}
use Rattle.normal_form.proofs.ShortForms.{cicp_kept, config_kept, type_kept, first_kept, tone_kept}

item_type_kept : (w : Bool) (c : Option CodecTypes) → item_type (cond w c (without_config_type c)) ≡ item_type c
item_type_kept true c = refl
item_type_kept false None = refl
item_type_kept false (Some c) = refl

and_off : (a b : Bool) → (a && b) ≡ false → a ≡ true → b ≡ false
and_off true b e h = e
and_off false b e h = absurd (true≢false (sym h))

-- a gain map without data has no item, and so no slot
gain_kept : (has d : Bool) (x y : Slot) (o g : MiniGainMap) → ((has && d) ≡ true → x ≡ y)
    → (let p = cond (has && not d) o g in
    if_there (has && d) (x ∷ some (ispe p.width p.height) ∷ some (pixi p.format (channels_of p.chroma)) ∷ some (nclx 2 2 p.matrix_coefficients p.full_range) ∷ []))
    ≡ if_there (has && d) (y ∷ some (ispe g.width g.height) ∷ some (pixi g.format (channels_of g.chroma)) ∷ some (nclx 2 2 g.matrix_coefficients g.full_range) ∷ [])
gain_kept true true x y o g h =
    ap (λ (z : Slot). z ∷ some (ispe g.width g.height) ∷ some (pixi g.format (channels_of g.chroma)) ∷ some (nclx 2 2 g.matrix_coefficients g.full_range) ∷ []) (h refl)
gain_kept true false x y o g h = refl
gain_kept false d x y o g h = refl

module _ (i : MinimizedImage) (s brands : List ℕ) (x : Expands i s brands) where
  abbrev w : Bool
  w = writes_config i

  -- where no configuration is written, none has bytes
  main_none : w ≡ false → ltb 0 i.main_codec_config.len ≡ false
  main_none e = (or_parts (ltb 0 i.main_codec_config.len) _ e).0

  alpha_none : w ≡ false → has_alpha_item i ≡ true → ltb 0 (alpha_config i).len ≡ false
  alpha_none e =
      and_off (has_alpha_item i) _ (or_parts (has_alpha_item i && ltb 0 (alpha_config i).len) _ (or_parts (ltb 0 i.main_codec_config.len) _ e).1).0

  gain_none : w ≡ false → has_gain_map_item i ≡ true → ltb 0 (gain_map_config i).len ≡ false
  gain_none e =
      and_off (has_gain_map_item i) _ (or_parts (has_alpha_item i && ltb 0 (alpha_config i).len) _ (or_parts (ltb 0 i.main_codec_config.len) _ e).1).1

  slots_kept : slots (normal i s) s ≡ slots i s
  unfolding normal slots picture_slots tone_map_slots main_slots alpha_slots orientation_slots gain_map_slots tmap_slots
  slots_kept =
      let p = sound i s x.placed x.can_write in
      let m = i.main_codec_config in
      let types = i.explicit_codec_types in
      let main = type_kept w types m s main_none in
      let short : Option Span → Slot = λ c. config_slot (cond w types (without_config_type types)) (config_or (short_config c m s) m) s in
      let own : Option Span → Slot = λ c. config_slot types (config_or c m) s in
      let alpha =
      first_kept (has_alpha_item i) (short i.alpha_codec_config) (own i.alpha_codec_config) (some aux_c ∷ some (pixi i.format alpha_channels) ∷ [])
      (λ h. config_kept w types i.alpha_codec_config m s p.alpha_config p.main_config (λ e. alpha_none e h)) in
      let gain =
      gain_kept i.has_gain_map (ltb 0 i.gain_map.«data».len) (short i.gain_map.codec_config) (own i.gain_map.codec_config) (plain_own i.width i.height) i.gain_map
      (λ h. config_kept w types i.gain_map.codec_config m s p.gain_map_config p.main_config (λ e. gain_none e h)) in
      rw (cicp_kept i.explicit_cicp (table_cicp (is_some i.icc) i.chroma.subsampling), main, alpha, gain, tone_kept i.gain_map.tmap_cicp i.gain_map.tmap_icc)

  pub normal_carried : carried (normal i s) s ≡ carried i s
  unfolding carried normal item_set item_bytes
  normal_carried =
      let t = item_type_kept w i.explicit_codec_types in
      λ j. record { items = record (item_set i) { item_type = t j }; slots = slots_kept j; bytes = item_bytes i s }
