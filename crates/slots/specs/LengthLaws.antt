-- 'ipco', 'ipma' and 'iprp' are as long as the record alone says, where its chunks lie in the source.
use Rattle.std.specs.Prelude.{◌≡◌, Bool, true, false, ◌||◌, List, [], ◌++◌, ℕ, zero, suc, ◌+◌, ◌*◌, ltb, length, drop, replicate, Option, Some, None, is_some}
use Rattle.std.specs.Bool.{then_some}
use Rattle.std.proofs.Math.Path.{refl}
use Rattle.std.proofs.Common.{◌∙◌, arith, ltb-false, length-drop, length-take-le}
use Rattle.std.proofs.Math.Bool.{not}
use Rattle.std.proofs.Math.ListN.{length-append}
use Rattle.octets.specs.BigEndianLaws.{length-be}
use Rattle.boxes.specs.Boxed.{length-boxed, length-full_box_header}
use Rattle.mini.specs.Cut.{sum}
use Rattle.mini.specs.Same.{span_bytes}
use Rattle.mini.specs.ShownSize.{shown_size}
use Rattle.mini.specs.declared.CodecTypes.{CodecTypes}
use Rattle.mini.specs.declared.MiniHdrBoxes.{MiniHdrBoxes}
use Rattle.mini.specs.declared.MinimizedImage.{MinimizedImage}
use Rattle.octets.specs.declared.Span.{Span}
use Rattle.mini.specs.declared.TmapCicp.{TmapCicp}
use Rattle.properties.specs.HdrBoxes.{hdr_box, hdr_box_len}
use Rattle.properties.specs.Lengths.{length-ispe, length-nclx, length-prof, length-codec_config, length-aux_c, length-irot, length-imir, length-pixi, length-clli, length-mdcv, length-cclv, length-amve, length-reve, length-ndwt}
use Rattle.properties.specs.Property.{ispe_len, nclx_len, codec_config}
use Rattle.properties.specs.declared.hdr_boxes.HdrBox.{HdrBox}
use Rattle.properties.specs.declared.hdr_boxes.HdrBox.TheVariants.{Clli, Mdcv, Cclv, Amve, Reve, Ndwt}
use Rattle.slots.specs.Associations.{row, row_if, ipma_body, ipma_with, ipma, iprp}
use Rattle.slots.specs.Bodies.{Bodies}
use Rattle.slots.specs.Lengths.{only_if_len, config_slot_len, prof_slot_len, turn_slot_len, hdr_slot_len, if_there_len, main_lens, alpha_lens, orientation_lens, hdr_lens, gain_map_lens, tmap_lens, picture_len, tone_map_len, ipco_len, row_len, row_if_len, ipma_len, iprp_len}
use Rattle.slots.specs.SlotLaws.{slots-append, used_slots_lem}
use Rattle.slots.specs.Slots.{Slot, none, free, slot_bytes, only_if, if_there, has_alpha_item, has_gain_map_item, config_type, alpha_config, gain_map_config, config_slot, prof_slot, irot_slot, imir_slot, tmap_nclx, hdr_slot, shown_ispe, main_slots, alpha_slots, orientation_slots, hdr_slots, gain_map_slots, tmap_slots, picture_slots, tone_map_slots, slots, slots_bytes, ipco}
use Rattle.slots.specs.Sound.{SpanPlaced, ChunkPlaced, Sound, config_placed}

-- ---- one slot
length-free : length free ≡ 8
unfolding free
length-free = length-boxed _ []

length_only : (t : Bool) (box : List ℕ) (n : ℕ) → length box ≡ n → length (slot_bytes (only_if t box)) ≡ only_if_len t n
length_only true box n e = e
length_only false box n e = length-free

pub length_span : (x : Span) (s : List ℕ) → SpanPlaced x s → length (span_bytes x s) ≡ x.len
length_span x s p = length-take-le x.len (drop x.at s) (simp length-drop (omega arith))

length_config : (types : Option CodecTypes) (x : Span) (s : List ℕ) → SpanPlaced x s → length (slot_bytes (config_slot types x s)) ≡ config_slot_len x
length_config types x s p = go (ltb 0 x.len) refl
  where
    go : (t : Bool) → ltb 0 x.len ≡ t → length (slot_bytes (only_if t (codec_config (config_type types) (span_bytes x s)))) ≡ config_slot_len x
    go true e = length-codec_config (config_type types) (span_bytes x s) ∙ rw (length_span x s p)
    go false e = omega (arith, length-free, ltb-false 0 x.len e)

length_profile : (c : Option Span) (s : List ℕ) → ChunkPlaced c s → length (slot_bytes (prof_slot c s)) ≡ prof_slot_len c
length_profile None s p = length-free
length_profile (Some x) s p = length-prof (span_bytes x s) ∙ rw (length_span x s p)

length_rotation : (t : Option ℕ) → length (slot_bytes (irot_slot t)) ≡ turn_slot_len t
length_rotation None = length-free
length_rotation (Some angle) = length-irot angle

length_mirror : (t : Option ℕ) → length (slot_bytes (imir_slot t)) ≡ turn_slot_len t
length_mirror None = length-free
length_mirror (Some axis) = length-imir axis

length_colour : (c : Option TmapCicp) → length (tmap_nclx c) ≡ nclx_len
length_colour None = length-nclx 1 13 6 true
length_colour (Some c) = length-nclx c.cicp.primaries c.cicp.transfer c.cicp.matrix c.full_range

length_shown : (i : MinimizedImage) → length (shown_ispe i) ≡ ispe_len
length_shown i = length-ispe (shown_size i).width (shown_size i).height

-- ---- the groups
length_unused : (n : ℕ) → length (slots_bytes (replicate n none)) ≡ 8 * n
unfolding slots_bytes
length_unused zero = refl
length_unused (suc n) =
    length-append free (slots_bytes (replicate n none)) ∙ omega (arith, length-free, length_unused n)

length_there : (t : Bool) (l : List Slot) (lens : List ℕ) → length l ≡ length lens → length (slots_bytes l) ≡ sum lens
    → length (slots_bytes (if_there t l)) ≡ if_there_len t lens
length_there true l lens n e = e
length_there false l lens n e = length_unused (length l) ∙ rw n

length_held : (t : Bool) (held : HdrBox) → length (hdr_box held) ≡ hdr_box_len held → length (slot_bytes (hdr_slot (then_some t held))) ≡ hdr_slot_len (then_some t held)
length_held true held e = e
length_held false held e = length-free

length_hdr : (h : MiniHdrBoxes) → Bodies h → length (slots_bytes (hdr_slots h)) ≡ sum (hdr_lens h)
unfolding hdr_slots slots_bytes
length_hdr h b =
    let a = length_held h.has_clli (Clli h.clli) (length-clli h.clli b.clli_length) in
    let m = length_held h.has_mdcv (Mdcv h.mdcv) (length-mdcv h.mdcv b.mdcv_length) in
    let c = length_held h.has_cclv (Cclv h.cclv) (length-cclv h.cclv b.cclv_length) in
    let v = length_held h.has_amve (Amve h.amve) (length-amve h.amve b.amve_length) in
    let r = length_held h.has_reve (Reve h.reve) (length-reve h.reve b.reve_length) in
    let n = length_held h.has_ndwt (Ndwt h.ndwt) (length-ndwt h.ndwt b.ndwt_length) in
    simp (length-append, a, m, c, v, r, n)

module _ (i : MinimizedImage) (s : List ℕ) (o : Sound i s) where
  length_main : length (slots_bytes (main_slots i s)) ≡ sum (main_lens i)
  unfolding main_slots slots_bytes
  length_main =
      let c = length_config i.explicit_codec_types i.main_codec_config s o.main_config in
      let p = length_profile i.icc s o.icc_placed in
      simp (length-append, c, length-ispe, length-pixi, length-nclx, p)

  length_alpha : length (slots_bytes (alpha_slots i s)) ≡ sum (alpha_lens i)
  unfolding alpha_slots slots_bytes
  length_alpha =
      let q = config_placed i.alpha_codec_config i.main_codec_config s o.alpha_config o.main_config in
      let c = length_config i.explicit_codec_types (alpha_config i) s q in
      simp (length-append, c, length-aux_c, length-pixi)

  length_orientation : length (slots_bytes (orientation_slots i)) ≡ sum (orientation_lens i)
  unfolding orientation_slots slots_bytes
  length_orientation = simp (length-append, length_rotation, length_mirror)

  length_gain_map : length (slots_bytes (gain_map_slots i s)) ≡ sum (gain_map_lens i)
  unfolding gain_map_slots slots_bytes
  length_gain_map =
      let q = config_placed i.gain_map.codec_config i.main_codec_config s o.gain_map_config o.main_config in
      let c = length_config i.explicit_codec_types (gain_map_config i) s q in
      simp (length-append, c, length-ispe, length-pixi, length-nclx)

  length_tmap : length (slots_bytes (tmap_slots i s)) ≡ sum (tmap_lens i)
  unfolding tmap_slots slots_bytes
  length_tmap =
      let g = i.gain_map in
      let n = length_only (is_some g.tmap_cicp || not (is_some g.tmap_icc)) (tmap_nclx g.tmap_cicp) nclx_len (length_colour g.tmap_cicp) in
      let p = length_profile g.tmap_icc s o.tmap_icc_placed in
      simp (length-append, length_shown i, n, p)

  there_alpha : length (slots_bytes (if_there (has_alpha_item i) (alpha_slots i s))) ≡ if_there_len (has_alpha_item i) (alpha_lens i)
  unfolding alpha_slots
  there_alpha = length_there (has_alpha_item i) (alpha_slots i s) (alpha_lens i) refl length_alpha

  there_gain_map : length (slots_bytes (if_there (has_gain_map_item i) (gain_map_slots i s))) ≡ if_there_len (has_gain_map_item i) (gain_map_lens i)
  unfolding gain_map_slots
  there_gain_map = length_there (has_gain_map_item i) (gain_map_slots i s) (gain_map_lens i) refl length_gain_map

  there_tmap : length (slots_bytes (if_there i.has_gain_map (tmap_slots i s))) ≡ if_there_len i.has_gain_map (tmap_lens i)
  unfolding tmap_slots
  there_tmap = length_there i.has_gain_map (tmap_slots i s) (tmap_lens i) refl length_tmap

  there_hdr : Bodies i.gain_map.tmap_hdr
      → length (slots_bytes (if_there i.has_gain_map (hdr_slots i.gain_map.tmap_hdr))) ≡ if_there_len i.has_gain_map (hdr_lens i.gain_map.tmap_hdr)
  unfolding hdr_slots
  there_hdr b =
      length_there i.has_gain_map (hdr_slots i.gain_map.tmap_hdr) (hdr_lens i.gain_map.tmap_hdr) refl (length_hdr i.gain_map.tmap_hdr b)

  length_picture : Bodies i.hdr_boxes → length (slots_bytes (picture_slots i s)) ≡ picture_len i
  unfolding picture_slots
  length_picture b =
      let h = length_hdr i.hdr_boxes b in
      simp (slots-append, length-append, length_main, there_alpha, length_orientation, h)

  length_tone_map : Bodies i.gain_map.tmap_hdr → length (slots_bytes (tone_map_slots i s)) ≡ tone_map_len i
  unfolding tone_map_slots
  length_tone_map b =
      let h = there_hdr b in
      let u = length_unused 3 in
      simp (slots-append, length-append, there_gain_map, there_tmap, h, u)

  -- ---- the boxes
  pub length_slots : Bodies i.hdr_boxes → Bodies i.gain_map.tmap_hdr → length (slots_bytes (slots i s)) ≡ picture_len i + tone_map_len i
  unfolding slots
  length_slots b t = simp (slots-append, length-append, length_picture b, length_tone_map t)

  pub length_ipco : Bodies i.hdr_boxes → Bodies i.gain_map.tmap_hdr → length (ipco i s) ≡ ipco_len i
  unfolding ipco
  length_ipco b t = length-boxed _ (slots_bytes (slots i s)) ∙ rw (length_slots b t) refl

length-row : (used : List Bool) (item : ℕ) (xs : List ℕ) → length (row used item xs) ≡ row_len used xs
unfolding row
length-row used item xs = simp (length-append, length-be)

length-row_if : (t : Bool) (used : List Bool) (item : ℕ) (xs : List ℕ) → length (row_if t used item xs) ≡ row_if_len t used xs
length-row_if true used item xs = length-row used item xs
length-row_if false used item xs = refl

pub length-ipma : (i : MinimizedImage) (s : List ℕ) → length (ipma i s) ≡ ipma_len i
unfolding ipma ipma_with ipma_body
length-ipma i s =
    rw (used_slots_lem i s) (simp (length-boxed, length-append, length-full_box_header, length-be, length-row, length-row_if))

pub length-iprp : (i : MinimizedImage) (s : List ℕ) → Sound i s → Bodies i.hdr_boxes → Bodies i.gain_map.tmap_hdr → length (iprp i s) ≡ iprp_len i
unfolding iprp
length-iprp i s o b t =
    length-boxed _ (ipco i s ++ ipma i s) ∙ simp (length-append, length_ipco i s o b t, length-ipma i s)

-- by which `grind` sees how long the body of 'iprp' is
pub ruleset iprp_lengths = (length-append, length_ipco, length-ipma)
