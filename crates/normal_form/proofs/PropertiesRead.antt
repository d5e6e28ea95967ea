-- Properties read back: the fields that are read from the box of a property are those that it was made of.
use Rattle.std.specs.Prelude.{◌≡◌, refl, Bool, true, false, cond, ◌||◌, List, [], ◌∷◌, ℕ, zero, suc, ◌-◌, ◌^◌, ◌≤◌, ◌<◌, eqb, length, take, drop, get_or, replicate, Some}
use Rattle.std.proofs.Common.{◌∙◌, append-nil, arith, mod-eq_of_lt, length-take-le, take-append-drop, take_all}
use Rattle.std.proofs.Math.Seq.{take-nil}
use Rattle.octets.specs.BigEndian.{be, num}
use Rattle.octets.specs.BigEndianLaws.{num-be}
use Rattle.boxes.specs.Boxed.{box_header, boxed, full_box_header}
use Rattle.mini.specs.Cclv.{cclv_length, cclv_more}
use Rattle.mini.specs.Ranges.{Within, CicpIn, Centred, CclvEnds}
use Rattle.mini.specs.declared.Cicp.{Cicp}
use Rattle.mini.specs.declared.MiniChroma.{MiniChroma}
use Rattle.mini.specs.declared.SampleFormat.{SampleFormat}
use Rattle.mini.specs.declared.SampleFormat.TheVariants.{Integer, Float}
use Rattle.properties.specs.Orientation.{turn_table, turns_of}
use Rattle.properties.specs.Pixi.{channel, channels_of, channel_bytes, pixi_body, pixi, chroma_channel}
use Rattle.properties.specs.Property.{full_range_byte, ispe_body, ispe, nclx_body, nclx}
use Rattle.normal_form.specs.ReadProperties.{cicp_in, range_in, format_in, chroma_in, orientation_of, padded}
use Rattle.normal_form.specs.ReadRecord.{width_in, height_in}

pub be_read : (n x : ℕ) → x < 256 ^ n → num n (be n x) 0 ≡ x
be_read n x h = num-be n x ∙ mod-eq_of_lt h

-- ---- 'ispe'
module _ (w h : ℕ) where
  pub width_read : w ≤ 32768 → width_in (drop 8 (ispe w h)) ≡ w
  unfolding ispe ispe_body boxed box_header full_box_header be num
  width_read k = be_read 4 w (omega arith)

  pub height_read : h ≤ 32768 → height_in (drop 8 (ispe w h)) ≡ h
  unfolding ispe ispe_body boxed box_header full_box_header be num
  height_read k = be_read 4 h (omega arith)

-- ---- 'colr' nclx
module _ (c : Cicp) (full : Bool) where
  -- a code of 8 bits in two bytes
  low : (x : ℕ) → x ≤ 255 → get_or (be 2 x) 1 0 ≡ x
  unfolding be
  low x h = mod-eq_of_lt (omega (arith, h))

  abbrev body : List ℕ
  body = drop 8 (nclx c.primaries c.transfer c.matrix full)

  pub cicp_read : CicpIn (Some c) → cicp_in body ≡ c
  unfolding nclx nclx_body boxed box_header be num
  cicp_read h =
      let p = low c.primaries h.0 in
      let t = low c.transfer h.1 in
      let m = low c.matrix h.2 in
      λ j. record { primaries = p j; transfer = t j; matrix = m j }

  pub range_read : range_in body ≡ full
  unfolding nclx nclx_body boxed box_header be
  range_read = go full
    where
      go : (t : Bool) → eqb (full_range_byte t) 0x80 ≡ t
      go true = refl
      go false = refl

-- ---- 'pixi'
pub format_read : (f : SampleFormat) (c : MiniChroma) → format_in (drop 8 (pixi f (channels_of c))) ≡ f
unfolding pixi pixi_body boxed box_header full_box_header be channel_bytes
format_read f c = go f (eqb c.subsampling 0)
  where
    go : (f : SampleFormat) (t : Bool)
        → format_in (pixi_body f (cond t (channel 2 0 0 ∷ []) (channel 2 0 0 ∷ chroma_channel 3 c ∷ chroma_channel 4 c ∷ []))) ≡ f
    go (Integer n) true = refl
    go (Integer n) false = refl
    go (Float n) true = refl
    go (Float n) false = refl

pub chroma_read : (f : SampleFormat) (c : MiniChroma) → c.subsampling ≤ 3 → Centred c → chroma_in (drop 8 (pixi f (channels_of c))) ≡ c
unfolding pixi pixi_body boxed box_header full_box_header be channel_bytes
chroma_read f c h k = go c.subsampling c.horizontally_centered c.vertically_centered h k.horizontal_stored k.vertical_stored
  where
    go : (n : ℕ) (a b : Bool) → n ≤ 3 → ((eqb n 1 || eqb n 2) ≡ false → a ≡ false) → (eqb n 1 ≡ false → b ≡ false)
        → chroma_in (pixi_body f (channels_of (record { subsampling = n; horizontally_centered = a; vertically_centered = b })))
        ≡ record { subsampling = n; horizontally_centered = a; vertically_centered = b }
    go zero a b h p q = rw (p refl, q refl)
    go (suc zero) true true h p q = refl
    go (suc zero) true false h p q = refl
    go (suc zero) false true h p q = refl
    go (suc zero) false false h p q = refl
    go (suc (suc zero)) true b h p q = rw (q refl)
    go (suc (suc zero)) false b h p q = rw (q refl)
    go (suc (suc (suc zero))) a b h p q = rw (p refl, q refl)
    go (suc (suc (suc (suc n)))) a b h p q = absurd (omega arith)

-- ---- 'irot' and 'imir' together: the eight rows differ
pub orientation_read : (o : ℕ) → Within 1 8 o → orientation_of (turns_of o).angle (turns_of o).axis ≡ o
unfolding turns_of turn_table
orientation_read zero h = absurd (omega (arith, h.0))
orientation_read (suc zero) h = refl
orientation_read (suc (suc zero)) h = refl
orientation_read (suc (suc (suc zero))) h = refl
orientation_read (suc (suc (suc (suc zero)))) h = refl
orientation_read (suc (suc (suc (suc (suc zero))))) h = refl
orientation_read (suc (suc (suc (suc (suc (suc zero)))))) h = refl
orientation_read (suc (suc (suc (suc (suc (suc (suc zero))))))) h = refl
orientation_read (suc (suc (suc (suc (suc (suc (suc (suc zero)))))))) h = refl
orientation_read (suc (suc (suc (suc (suc (suc (suc (suc (suc o))))))))) h = absurd (omega (arith, h.1))

-- ---- HDR bodies: those of their length as they are, a 'cclv' body with zeros up to 37 bytes, and none as zeros
pub padded_all : (n : ℕ) (body : List ℕ) → length body ≡ n → padded n body ≡ body
padded_all n body l =
    let z : n - length body ≡ 0 = omega (arith, l) in
    rw (z, append-nil) (take_all n body (omega (arith, l)))

pub padded_none : (n : ℕ) → padded n [] ≡ replicate n 0
padded_none n =
    let z : n - 0 ≡ n = omega arith in
    rw (take-nil, z) refl

pub cclv_read : (held : List ℕ) → length held ≡ 37 → CclvEnds held → padded 37 (take (cclv_length held) held) ≡ held
unfolding cclv_more
cclv_read held l e =
    let n : length (take (cclv_length held) held) ≡ cclv_length held = length-take-le (cclv_length held) held (omega arith) in
    let m : cclv_length held ≤ 37 = omega arith in
    let a : take 37 (take (cclv_length held) held) ≡ take (cclv_length held) held =
    take_all 37 (take (cclv_length held) held) (omega (arith, n, m)) in
    rw (a, n, ← e) (take-append-drop (cclv_length held) held)
