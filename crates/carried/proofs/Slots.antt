-- Walking 'ipco' finds the 32 slots again.
use Rattle.std.specs.Prelude.{◌≡◌, refl, Bool, true, false, not, List, [], ◌∷◌, ℕ, ◌<◌, eqb, ltb, length, Option, Some, None, is_some}
use Rattle.std.specs.Bool.{then_some}
use Rattle.std.proofs.Common.{arith, ltb-true, lt-ltb}
use Rattle.boxes.specs.Boxed.{length-boxed}
use Rattle.boxes.specs.Header.{UUID}
use Rattle.boxes.specs.Walk.{typed}
use Rattle.mini.specs.NoPayloadGives.{lawful}
use Rattle.mini.specs.OptionalFields.{or_none}
use Rattle.mini.specs.Ranges.{TypesIn}
use Rattle.mini.specs.Same.{chunk_bytes, span_bytes}
use Rattle.mini.specs.declared.CodecTypes.{CodecTypes}
use Rattle.mini.specs.declared.MiniHdrBoxes.{MiniHdrBoxes}
use Rattle.mini.specs.declared.MinimizedImage.{MinimizedImage}
use Rattle.mini.specs.declared.SampleFormat.{SampleFormat}
use Rattle.mini.specs.declared.TmapCicp.{TmapCicp}
use Rattle.octets.specs.declared.Span.{Span}
use Rattle.properties.specs.HdrBoxes.{clli, mdcv, cclv, amve, reve, ndwt, hdr_box}
use Rattle.properties.specs.Lengths.{length-ispe, length-nclx, length-prof, length-aux_c, length-irot, length-imir, length-pixi, length-clli, length-mdcv, length-cclv, length-amve, length-reve, length-ndwt}
use Rattle.properties.specs.Pixi.{Channel, pixi}
use Rattle.properties.specs.Property.{full_box, ispe, nclx, prof, codec_config, aux_c, irot, imir}
use Rattle.properties.specs.declared.hdr_boxes.HdrBox.{HdrBox}
use Rattle.properties.specs.declared.hdr_boxes.HdrBox.TheVariants.{Clli, Mdcv, Cclv, Amve, Reve, Ndwt}
use Rattle.slots.specs.Bodies.{Bodies, bodies}
use Rattle.slots.specs.LengthLaws.{length_span}
use Rattle.slots.specs.Slots.{some, config_type, alpha_config, gain_map_config, config_slot, prof_slot, turn_slot, tmap_nclx_slot, hdr_slot, main_slots, alpha_slots, orientation_slots, hdr_slots, gain_map_slots, tmap_slots, picture_slots, tone_map_slots, slots, slots_bytes, has_alpha_item, has_gain_map_item}
use Rattle.slots.specs.Sound.{SpanPlaced, config_placed, sound}
use Rattle.expander.specs.EveryByte.{box}
use Rattle.expander.specs.Expands.{Expands}
use Rattle.expander.specs.Outcome.{is_uuid}
use Rattle.carried.specs.ReadFile.{slots_in}
use Rattle.carried.proofs.Again.{Again, slots_again, no_slot, slot, slot_if, unused_again, there_again, ◌also◌, ◌then◌}

-- ---- one slot
ispe_again : (w h : ℕ) → Again (some (ispe w h) ∷ [])
unfolding ispe
ispe_again w h = slot 0x69737065 _ refl (omega (arith, length-ispe w h))

pixi_again : (f : SampleFormat) (cs : List Channel) → Again (some (pixi f cs) ∷ [])
unfolding pixi
pixi_again f cs = slot 0x70697869 _ refl (omega (arith, length-pixi f cs))

nclx_again : (p t m : ℕ) (full : Bool) → Again (some (nclx p t m full) ∷ [])
unfolding nclx
nclx_again p t m full = slot 0x636F6C72 _ refl (omega (arith, length-nclx p t m full))

prof_again : (icc : Option Span) (s : List ℕ) → Again (prof_slot icc s ∷ [])
unfolding prof
prof_again icc s = slot_if (is_some icc) _ (λ e. slot 0x636F6C72 _ refl (omega (arith, length-prof (chunk_bytes icc s))))

aux_c_again : Again (some aux_c ∷ [])
unfolding aux_c full_box
aux_c_again = slot 0x61757843 _ refl (omega (arith, length-aux_c))

turn_again : (box : ℕ → List ℕ) (turn : Option ℕ) → ((n : ℕ) → Again (some (box n) ∷ [])) → Again (turn_slot box turn ∷ [])
turn_again box None h = no_slot
turn_again box (Some n) h = h n

turns_again : (angle axis : Option ℕ) → Again (turn_slot irot angle ∷ turn_slot imir axis ∷ [])
unfolding irot imir
turns_again angle axis =
    turn_again irot angle (λ n. slot 0x69726F74 _ refl (omega (arith, length-irot n)))
    then turn_again imir axis (λ n. slot 0x696D6972 _ refl (omega (arith, length-imir n)))

tone_again : (c : Option TmapCicp) (icc : Option Span) → Again (tmap_nclx_slot c icc ∷ [])
tone_again None icc = slot_if (not (is_some icc)) _ (λ e. nclx_again 1 13 6 true)
tone_again (Some c) icc = nclx_again c.cicp.primaries c.cicp.transfer c.cicp.matrix c.full_range

config_typed : (c : Option CodecTypes) (body : List ℕ) → TypesIn c → is_uuid c ≡ false → typed (box (config_type c) body) ≡ true
config_typed None body h e = refl
config_typed (Some c) body h e =
    rw (lt-ltb c.codec_config_type 4294967296 (omega (arith, h.1)), (or_none (eqb c.infe_type UUID) (eqb c.codec_config_type UUID) e).1)

config_again : (c : Option CodecTypes) (x : Span) (s : List ℕ) → TypesIn c → is_uuid c ≡ false → SpanPlaced x s → Again (config_slot c x s ∷ [])
unfolding codec_config
config_again c x s h e p =
    let n = length_span x s p in
    slot_if (ltb 0 x.len) _
    (λ t. slot (config_type c) (span_bytes x s) (config_typed c (span_bytes x s) h e) (omega (arith, ltb-true 0 x.len t, length-boxed (config_type c) (span_bytes x s))))

-- ---- the HDR boxes
held_again : (held : HdrBox) → 8 < length (hdr_box held) → Again (some (hdr_box held) ∷ [])
unfolding clli mdcv cclv amve reve ndwt full_box
held_again (Clli body) n = slot 0x636C6C69 _ refl n
held_again (Mdcv body) n = slot 0x6D646376 _ refl n
held_again (Cclv held) n = slot 0x63636C76 _ refl n
held_again (Amve body) n = slot 0x616D7665 _ refl n
held_again (Reve body) n = slot 0x72657665 _ refl n
held_again (Ndwt body) n = slot 0x6E647774 _ refl n

held_if : (t : Bool) (held : HdrBox) → 8 < length (hdr_box held) → Again (hdr_slot (then_some t held) ∷ [])
held_if true held n = held_again held n
held_if false held n = no_slot

hdr_again : (h : MiniHdrBoxes) → Bodies h → Again (hdr_slots h)
unfolding hdr_slots
hdr_again h b =
    held_if h.has_clli (Clli h.clli) (omega (arith, length-clli h.clli b.clli_length))
    then held_if h.has_mdcv (Mdcv h.mdcv) (omega (arith, length-mdcv h.mdcv b.mdcv_length))
    then held_if h.has_cclv (Cclv h.cclv) (omega (arith, length-cclv h.cclv b.cclv_length))
    then held_if h.has_amve (Amve h.amve) (omega (arith, length-amve h.amve b.amve_length))
    then held_if h.has_reve (Reve h.reve) (omega (arith, length-reve h.reve b.reve_length))
    then held_if h.has_ndwt (Ndwt h.ndwt) (omega (arith, length-ndwt h.ndwt b.ndwt_length))

-- ---- all of them
ruleset kinds = (◌then◌, ispe_again, pixi_again, nclx_again, prof_again, aux_c_again, tone_again)

module _ (i : MinimizedImage) (s brands : List ℕ) (x : Expands i s brands) where
  config : (c : Span) → SpanPlaced c s → Again (config_slot i.explicit_codec_types c s ∷ [])
  config c p = config_again i.explicit_codec_types c s (lawful i x.can_write).codec_types x.no_uuid p

  all_again : Again (slots i s)
  unfolding slots picture_slots tone_map_slots main_slots alpha_slots orientation_slots hdr_slots gain_map_slots tmap_slots
  all_again =
      let p = sound i s x.placed x.can_write in
      let b = bodies i x.can_write in
      let g = i.gain_map in
      let slot_1 = config i.main_codec_config p.main_config in
      let slot_6 = config (alpha_config i) (config_placed i.alpha_codec_config i.main_codec_config s p.alpha_config p.main_config) in
      let slot_17 = config (gain_map_config i) (config_placed g.codec_config i.main_codec_config s p.gain_map_config p.main_config) in
      let main : Again (main_slots i s) = search kinds in
      let alpha : Again (alpha_slots i s) = search kinds in
      let gain : Again (gain_map_slots i s) = search kinds in
      let tone : Again (tmap_slots i s) = search kinds in
      (main also there_again (has_alpha_item i) _ _ alpha also turns_again _ _ also hdr_again i.hdr_boxes b.0)
      also (there_again (has_gain_map_item i) _ _ gain also there_again i.has_gain_map _ _ tone also there_again i.has_gain_map _ _ (hdr_again g.tmap_hdr b.1)
      also unused_again 2)

  pub slots_found : length (slots_bytes (slots i s)) < 4294967296 → slots_in (slots_bytes (slots i s)) ≡ slots i s
  slots_found n = slots_again all_again n
