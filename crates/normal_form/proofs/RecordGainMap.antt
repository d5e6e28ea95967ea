-- The gain map that is read is the normal form's. The laws are over a record whose flag is known, since its slots compute then; `with_flag`
-- of a record's own flag is the record.
use Rattle.std.specs.Prelude.{◌≡◌, refl, Bool, true, false, cond, List, ℕ, suc, ◌-◌, ltb, length, Option, Some, None}
use Rattle.std.proofs.Common.{sym, ap, ◌∙◌, arith}
use Rattle.octets.specs.declared.Span.{Span}
use Rattle.mini.specs.Blank.{blank_gain_map}
use Rattle.mini.specs.NoPayloadGives.{lawful}
use Rattle.mini.specs.Same.{span_bytes, unplaced_chunk, unplaced}
use Rattle.mini.specs.declared.Cicp.{Cicp}
use Rattle.mini.specs.declared.MiniGainMap.{MiniGainMap}
use Rattle.mini.specs.declared.MinimizedImage.{MinimizedImage}
use Rattle.slots.specs.LengthLaws.{length_span}
use Rattle.slots.specs.Slots.{tmap_nclx_slot, main_slots, alpha_slots, orientation_slots, hdr_slots, gain_map_slots, tmap_slots}
use Rattle.slots.specs.Sound.{sound}
use Rattle.expander.specs.EquivalentFile.{item_set, item_bytes}
use Rattle.expander.specs.Expands.{Expands}
use Rattle.expander.specs.Placed.{data_placed}
use Rattle.normal_form.specs.NormalForm.{short_config, short_tmap_cicp, with_own, plain_own, lacks_data, normal}
use Rattle.normal_form.specs.ReadProperties.{span_of}
use Rattle.normal_form.specs.ReadRecord.{tone_in, own_fields_in, gain_map_in}
use Rattle.normal_form.proofs.PropertiesRead.{width_read, height_read, cicp_read, range_read, format_read, chroma_read}
use Rattle.normal_form.proofs.RecordConfigs.{gain_config_again}
use Rattle.normal_form.proofs.RecordParts.{span_again}
use Rattle.normal_form.proofs.SlotsHdr.{hdr_read}
use Rattle.normal_form.proofs.SlotsRead.{profile_placed, tone_read}
use Rattle.normal_form.proofs.SlotsTable.{flat_carried}

module _ (i : MinimizedImage) (s brands : List ℕ) where
  abbrev g : MiniGainMap
  g = i.gain_map

  abbrev with_flag : Bool → MinimizedImage
  with_flag has = record i { has_gain_map = has }

  -- ---- its own size, matrix, range, chroma and format
  own_again : Expands (with_flag true) s brands → (t : Bool) → ltb 0 g.«data».len ≡ t
      → own_fields_in (flat_carried (with_flag true) s) ≡ with_own blank_gain_map (cond (lacks_data (with_flag true)) (plain_own i.width i.height) g)
  unfolding item_set main_slots alpha_slots orientation_slots hdr_slots gain_map_slots tmap_slots
  own_again x true e =
      let l = lawful (with_flag true) x.can_write in
      let c : Cicp = record { primaries = 2; transfer = 2; matrix = g.matrix_coefficients } in
      rw e
      (λ j. record blank_gain_map {
        width = width_read g.width g.height (l.gain_width refl).1 j;
        height = height_read g.width g.height (l.gain_height refl).1 j;
        matrix_coefficients = (cicp_read c g.full_range (omega arith, omega arith, l.gain_matrix) j).matrix;
        full_range = range_read c g.full_range j;
        chroma = chroma_read g.format g.chroma l.gain_subsampling l.gain_centred j;
        format = format_read g.format g.chroma j;
      })
  own_again x false e =
      let l = lawful (with_flag true) x.can_write in
      rw e (λ j. plain_own (width_read i.width i.height l.width.1 j) (height_read i.width i.height l.height.1 j))

  -- ---- where there is a gain map
  gain_there : Expands (with_flag true) s brands → gain_map_in (flat_carried (with_flag true) s) ≡ (unplaced (normal (with_flag true) s)).gain_map
  unfolding gain_map_in unplaced normal item_bytes main_slots alpha_slots orientation_slots hdr_slots gain_map_slots tmap_slots
  gain_there x =
      let l = lawful (with_flag true) x.can_write in
      let p = sound (with_flag true) s x.placed x.can_write in
      let d = data_placed (with_flag true) s x.placed in
      let o = own_again x (ltb 0 g.«data».len) refl in
      let f = profile_placed g.tmap_icc s p.tmap_icc_placed in
      let m : suc (length (span_bytes g.metadata s)) - 1 ≡ g.metadata.len = omega (arith, length_span g.metadata s (d.metadata refl)) in
      λ j. record (o j) {
        tmap_cicp = (ap (tone_in (tmap_nclx_slot g.tmap_cicp g.tmap_icc)) f ∙ tone_read g.tmap_cicp g.tmap_icc l.tmap_cicp) j;
        tmap_icc = f j;
        tmap_hdr = hdr_read g.tmap_hdr l.tmap_bodies j;
        metadata = span_of (m j);
        codec_config = (gain_config_again (with_flag true) s brands x).0 j;
        «data» = span_again g.«data» s (d.gain_map refl) j;
      }

  -- ---- where there is none, it is blank
  no_config : (c : Option Span) → unplaced_chunk c ≡ None → unplaced_chunk (short_config c i.main_codec_config s) ≡ None
  no_config None e = refl
  no_config (Some own) e = absurd (cc)

  gain_absent : Expands (with_flag false) s brands → blank_gain_map ≡ (unplaced (normal (with_flag false) s)).gain_map
  unfolding unplaced normal
  gain_absent x =
      let e = (lawful (with_flag false) x.can_write).gain_blank refl in
      let t = ap (λ (m : MiniGainMap). short_tmap_cicp m.tmap_cicp g.tmap_icc) e in
      let k = no_config g.codec_config (ap (λ (m : MiniGainMap). m.codec_config) e) in
      sym (λ j. record (e j) { tmap_cicp = t j; codec_config = k j })

  pub gain_map_again : Expands i s brands → cond i.has_gain_map (gain_map_in (flat_carried i s)) blank_gain_map ≡ (unplaced (normal i s)).gain_map
  gain_map_again x = go i.has_gain_map x
    where
      go : (has : Bool) → Expands (with_flag has) s brands
          → cond has (gain_map_in (flat_carried (with_flag has) s)) blank_gain_map ≡ (unplaced (normal (with_flag has) s)).gain_map
      go true x = gain_there x
      go false x = gain_absent x
