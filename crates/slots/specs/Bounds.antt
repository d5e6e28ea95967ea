-- The most that each length can be, where the lengths of the chunks are within their fields.
use Rattle.std.specs.Prelude.{Bool, true, false, not, cond, ◌||◌, List, [], ◌∷◌, ℕ, ◌+◌, ◌≤◌, eqb, length, Option, Some, None, is_some}
use Rattle.std.specs.Bool.{then_some}
use Rattle.std.proofs.Common.{arith, lit≤, length-append}
use Rattle.mini.specs.Cut.{sum}
use Rattle.mini.specs.Same.{chunk_len}
use Rattle.mini.specs.declared.MiniChroma.{MiniChroma}
use Rattle.mini.specs.declared.MiniHdrBoxes.{MiniHdrBoxes}
use Rattle.mini.specs.declared.MinimizedImage.{MinimizedImage}
use Rattle.octets.specs.declared.Span.{Span}
use Rattle.properties.specs.HdrBoxes.{hdr_box_len}
use Rattle.properties.specs.Lengths.{cclv_len_most}
use Rattle.properties.specs.Orientation.{turns_of}
use Rattle.properties.specs.Pixi.{Channel, channels_of, pixi_len}
use Rattle.properties.specs.declared.hdr_boxes.HdrBox.{HdrBox}
use Rattle.properties.specs.declared.hdr_boxes.HdrBox.TheVariants.{Clli, Mdcv, Cclv, Amve, Reve, Ndwt}
use Rattle.slots.specs.Associations.{is_kept, kept, main_row, alpha_row, tmap_row, gain_map_row}
use Rattle.slots.specs.Lengths.{prof_slot_len, turn_slot_len, hdr_slot_len, if_there_len, main_lens, alpha_lens, orientation_lens, hdr_lens, gain_map_lens, tmap_lens, picture_len, tone_map_len, ipco_len, row_len, ipma_body_len, iprp_len}
use Rattle.slots.specs.Used.{used_slots}
use Rattle.slots.specs.Slots.{has_alpha_item, has_gain_map_item}
use Rattle.slots.specs.Sound.{Bounded, config_most}

pub cond_most : (t : Bool) (a b m : ℕ) → a ≤ m → b ≤ m → cond t a b ≤ m
cond_most true a b m p q = p
cond_most false a b m p q = q

pub prof_most : (c : Option Span) → prof_slot_len c ≤ 12 + chunk_len c
prof_most None = lit≤ tt
prof_most (Some x) = omega arith

pub turn_most : (t : Option ℕ) → turn_slot_len t ≤ 9
turn_most None = lit≤ tt
turn_most (Some turn) = lit≤ tt

pixi_of : (t : Bool) (a b d : Channel) → pixi_len (cond t (a ∷ []) (a ∷ b ∷ d ∷ [])) ≤ 22
pixi_of true a b d = lit≤ tt
pixi_of false a b d = lit≤ tt

pub pixi_most : (c : MiniChroma) → pixi_len (channels_of c) ≤ 22
pixi_most c = pixi_of (eqb c.subsampling 0) _ _ _

held_most : (t : Bool) (held : HdrBox) (m : ℕ) → hdr_box_len held ≤ m → 8 ≤ m → hdr_slot_len (then_some t held) ≤ m
held_most true held m p q = p
held_most false held m p q = q

pub hdr_most : (h : MiniHdrBoxes) → sum (hdr_lens h) ≤ 153
hdr_most h =
    omega (
      arith,
      held_most h.has_clli (Clli h.clli) 12 (lit≤ tt) (lit≤ tt),
      held_most h.has_mdcv (Mdcv h.mdcv) 32 (lit≤ tt) (lit≤ tt),
      held_most h.has_cclv (Cclv h.cclv) 45 (cclv_len_most h.cclv) (lit≤ tt),
      held_most h.has_amve (Amve h.amve) 16 (lit≤ tt) (lit≤ tt),
      held_most h.has_reve (Reve h.reve) 32 (lit≤ tt) (lit≤ tt),
      held_most h.has_ndwt (Ndwt h.ndwt) 16 (lit≤ tt) (lit≤ tt),
    )

module _ (i : MinimizedImage) (b : Bounded i) where
  pub main_most : sum (main_lens i) ≤ 1052752
  main_most = omega (arith, pixi_most i.chroma, prof_most i.icc, b.icc_size, b.main_config_size)

  pub alpha_item_most : sum (alpha_lens i) ≤ 4175
  alpha_item_most = omega (arith, config_most i.alpha_codec_config i.main_codec_config b.alpha_config_size b.main_config_size)

  pub alpha_most : if_there_len (has_alpha_item i) (alpha_lens i) ≤ 4175
  alpha_most = cond_most (has_alpha_item i) _ _ 4175 alpha_item_most (lit≤ tt)

  pub orientation_most : sum (orientation_lens i) ≤ 18
  orientation_most = omega (arith, turn_most (turns_of i.orientation).angle, turn_most (turns_of i.orientation).axis)

  pub gain_map_item_most : sum (gain_map_lens i) ≤ 4164
  gain_map_item_most =
      omega (arith, pixi_most i.gain_map.chroma, config_most i.gain_map.codec_config i.main_codec_config b.gain_map_config_size b.main_config_size)

  pub gain_map_most : if_there_len (has_gain_map_item i) (gain_map_lens i) ≤ 4164
  gain_map_most = cond_most (has_gain_map_item i) _ _ 4164 gain_map_item_most (lit≤ tt)

  pub tmap_item_most : sum (tmap_lens i) ≤ 1048627
  tmap_item_most =
      omega (
        arith,
        cond_most (is_some i.gain_map.tmap_cicp || not (is_some i.gain_map.tmap_icc)) 19 8 19 (lit≤ tt) (lit≤ tt),
        prof_most i.gain_map.tmap_icc,
        b.tmap_icc_size,
      )

  pub tmap_most : if_there_len i.has_gain_map (tmap_lens i) ≤ 1048627
  tmap_most = cond_most i.has_gain_map _ _ 1048627 tmap_item_most (lit≤ tt)

  pub tmap_hdr_most : if_there_len i.has_gain_map (hdr_lens i.gain_map.tmap_hdr) ≤ 153
  tmap_hdr_most = cond_most i.has_gain_map _ _ 153 (hdr_most i.gain_map.tmap_hdr) (lit≤ tt)

  pub picture_most : picture_len i ≤ 1057098
  picture_most = omega (arith, main_most, alpha_most, orientation_most, hdr_most i.hdr_boxes)

  pub tone_map_most : tone_map_len i ≤ 1052968
  tone_map_most = omega (arith, gain_map_most, tmap_most, tmap_hdr_most)

  pub ipco_most : ipco_len i ≤ 2110074
  ipco_most = omega (arith, picture_most, tone_map_most)

-- ---- 'ipma'
one_most : (t : Bool) (x : ℕ) → length (cond t (x ∷ []) []) ≤ 1
one_most true x = lit≤ tt
one_most false x = lit≤ tt

pub kept_most : (used : List Bool) (xs : List ℕ) → length (kept used xs) ≤ length xs
unfolding kept
kept_most used [] = lit≤ tt
kept_most used (x ∷ xs) =
    omega (arith, length-append (cond (is_kept used x) (x ∷ []) []) (kept used xs), one_most (is_kept used x) x, kept_most used xs)

pub ipma-body_most : (i : MinimizedImage) (used : List Bool) → ipma_body_len i used ≤ 54
unfolding main_row alpha_row tmap_row gain_map_row
ipma-body_most i used =
    let a : row_len used alpha_row ≤ 9 = omega (arith, kept_most used alpha_row) in
    let t : row_len used tmap_row ≤ 12 = omega (arith, kept_most used tmap_row) in
    let g : row_len used gain_map_row ≤ 9 = omega (arith, kept_most used gain_map_row) in
    omega (
      arith,
      kept_most used main_row,
      cond_most (has_alpha_item i) (row_len used alpha_row) 0 9 a (lit≤ tt),
      cond_most i.has_gain_map (row_len used tmap_row) 0 12 t (lit≤ tt),
      cond_most (has_gain_map_item i) (row_len used gain_map_row) 0 9 g (lit≤ tt),
    )

pub iprp_most : (i : MinimizedImage) → Bounded i → iprp_len i ≤ 2110144
iprp_most i b = omega (arith, ipco_most i b, ipma-body_most i (used_slots i))
