-- Each box is as long as the number beside it says.
use Rattle.std.specs.Prelude.{◌≡◌, refl, Bool, List, [], ◌∷◌, map, ℕ, ◌*◌, ◌≤◌, length, take}
use Rattle.std.proofs.Common.{◌∙◌, arith, length-append, length-take-le}
use Rattle.std.proofs.lemmas.List.{length-replicate}
use Rattle.octets.specs.BigEndianLaws.{length-be}
use Rattle.boxes.specs.Boxed.{length-boxed, length-full_box_header}
use Rattle.mini.specs.Cclv.{cclv_more, cclv_length}
use Rattle.mini.specs.Cut.{joined}
use Rattle.mini.specs.declared.SampleFormat.{SampleFormat}
use Rattle.properties.specs.HdrBoxes.{clli, clli_len, mdcv, mdcv_len, cclv, cclv_len, amve, amve_len, reve, reve_len, ndwt, ndwt_len}
use Rattle.properties.specs.Pixi.{Channel, channel_bytes, pixi_body, pixi, pixi_len}
use Rattle.properties.specs.Property.{full_box, full_box_len, ispe_body, ispe, ispe_len, nclx_body, nclx, nclx_len, prof_body, prof, prof_len, codec_config, codec_config_len, AUX_URN_ALPHA, aux_c, aux_c_len, irot, imir, turn_len}

pub length-full_box : (type : ℕ) (body : List ℕ) → length (full_box type body) ≡ full_box_len (length body)
unfolding full_box
length-full_box type body = simp (length-boxed, length-append, length-full_box_header)

pub length-ispe : (width height : ℕ) → length (ispe width height) ≡ ispe_len
unfolding ispe ispe_body
length-ispe width height = simp (length-boxed, length-append, length-be, length-full_box_header)

pub length-nclx : (primaries transfer matrix : ℕ) (full : Bool) → length (nclx primaries transfer matrix full) ≡ nclx_len
unfolding nclx nclx_body
length-nclx primaries transfer matrix full = simp (length-boxed, length-append, length-be)

pub length-prof : (icc : List ℕ) → length (prof icc) ≡ prof_len (length icc)
unfolding prof prof_body
length-prof icc = simp (length-boxed, length-append, length-be)

pub length-codec_config : (type : ℕ) (config : List ℕ) → length (codec_config type config) ≡ codec_config_len (length config)
unfolding codec_config
length-codec_config type config = length-boxed type config

pub length-aux_c : length aux_c ≡ aux_c_len
unfolding aux_c AUX_URN_ALPHA
length-aux_c = simp length-full_box

pub length-irot : (angle : ℕ) → length (irot angle) ≡ turn_len
unfolding irot
length-irot angle = simp length-boxed

pub length-imir : (axis : ℕ) → length (imir axis) ≡ turn_len
unfolding imir
length-imir axis = simp length-boxed

-- ---- pixi
length-channel : (format : ℕ) (c : Channel) → length (channel_bytes format c) ≡ 2
unfolding channel_bytes
length-channel format c = refl

length_channels : (format : ℕ) (cs : List Channel) → length (joined (map (channel_bytes format) cs)) ≡ 2 * length cs
length_channels format [] = refl
length_channels format (c ∷ cs) =
    length-append (channel_bytes format c) (joined (map (channel_bytes format) cs))
    ∙ omega (arith, length-channel format c, length_channels format cs)

pub length-pixi : (f : SampleFormat) (cs : List Channel) → length (pixi f cs) ≡ pixi_len cs
unfolding pixi pixi_body
length-pixi f cs =
    simp (length-boxed, length-append, length-full_box_header, length-replicate, length_channels) (omega arith)

-- ---- the boxes for high dynamic range, with bodies of the lengths that the record's type gives them
pub length-clli : (body : List ℕ) → length body ≡ 4 → length (clli body) ≡ clli_len
unfolding clli
length-clli body e = length-boxed _ body ∙ rw e

pub length-mdcv : (body : List ℕ) → length body ≡ 24 → length (mdcv body) ≡ mdcv_len
unfolding mdcv
length-mdcv body e = length-boxed _ body ∙ rw e

cclv_most : (held : List ℕ) → cclv_length held ≤ 37
unfolding cclv_more
cclv_most held = omega arith

pub cclv_len_most : (held : List ℕ) → cclv_len held ≤ 45
cclv_len_most held = omega (arith, cclv_most held)

pub length-cclv : (held : List ℕ) → length held ≡ 37 → length (cclv held) ≡ cclv_len held
unfolding cclv
length-cclv held e =
    length-boxed _ (take (cclv_length held) held) ∙ rw (length-take-le (cclv_length held) held (omega (arith, cclv_most held)))

pub length-amve : (body : List ℕ) → length body ≡ 8 → length (amve body) ≡ amve_len
unfolding amve
length-amve body e = length-boxed _ body ∙ rw e

pub length-reve : (body : List ℕ) → length body ≡ 20 → length (reve body) ≡ reve_len
unfolding reve
length-reve body e = length-full_box _ body ∙ rw e

pub length-ndwt : (body : List ℕ) → length body ≡ 4 → length (ndwt body) ≡ ndwt_len
unfolding ndwt
length-ndwt body e = length-full_box _ body ∙ rw e
