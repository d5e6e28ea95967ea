-- The numbers that fields can hold, group by group: sample formats, colour, codec types, centring flags and HDR bodies, each stated plainly
-- and shown to be what the group's format takes. Document 01, 'The record and its order of bits' ('a number outside its field'). Assumes nothing.
use Rattle.std.specs.Prelude.{◌≡◌, refl, Bool, true, false, not, ◌||◌, ◌↔◌, ◌⊎◌, List, [], ◌∷◌, ◌++◌, ℕ, zero, suc, ◌+◌, ◌-◌, ◌^◌, ◌≤◌, ◌<◌, T, eqb, ltb, length, take, drop, replicate, Option, Some, None, is_some}
use Rattle.std.proofs.Common.{sym, ap, ◌∙◌, subst, true≢false, inl, inr, arith, ltb→lt, lt→ltb, lit≤, length-append, take-append-drop, drop_at, length-take-le, eqb-true}
use Rattle.std.proofs.lemmas.Bool.{false≢true, eqb-false}
use Rattle.std.proofs.Math.Pow.{are_bytes}
use Rattle.std.proofs.lemmas.List.{length-replicate}
use Rattle.bits.specs.Format.{◌>>=◌, BytesGood, and_split, and_join, offset, number, choose, bytes_for, view}
use Rattle.mini.specs.Syntax.{chroma, float_format, integer_format, sample_format, gain_map_format, explicit_cicp, explicit_codec_types, tmap_cicp, cclv, cclv_for, hdr_boxes}
use Rattle.mini.specs.Views.{is_float, float_code, cclv_to, cclv_from}
use Rattle.mini.specs.Blank.{blank_hdr_boxes}
use Rattle.mini.specs.Bytes.{bytes-append, bytes_take}
use Rattle.mini.specs.Cclv.{cclv_more, cclv_length}
use Rattle.mini.specs.HeaderLength.{cclv_most}
use Rattle.mini.specs.OptionalFields.{flag_good, flag_if_good, flag_if-off}
use Rattle.mini.specs.declared.SampleFormat.{SampleFormat}
use Rattle.mini.specs.declared.SampleFormat.TheVariants.{Integer, Float}
use Rattle.mini.specs.declared.CodecTypes.{CodecTypes}
use Rattle.mini.specs.declared.Cicp.{Cicp}
use Rattle.mini.specs.declared.TmapCicp.{TmapCicp}
use Rattle.mini.specs.declared.MiniChroma.{MiniChroma}
use Rattle.mini.specs.declared.MiniHdrBoxes.{MiniHdrBoxes}

-- from a to b
abbrev pub Within : ℕ → ℕ → ℕ → Type 0
Within a b n = (a ≤ n) × (n ≤ b)

-- ---- the sample format: integers of 8 to 16 bits, or floats of 16, 32 or 64
abbrev pub FormatIn : SampleFormat → Type 0
FormatIn (Integer n) = Within 8 16 n
FormatIn (Float n) = (n ≡ 16) ⊎ ((n ≡ 32) ⊎ (n ≡ 64))

integer_in : (t : Bool) (n : ℕ) → eqb n 8 ≡ t → (choose (not t) (offset 9 3) (number 8)).Good n ↔ Within 8 16 n
unfolding view
integer_in true n e =
    let z : n ≡ 8 = eqb-true n 8 e in
    (λ g. (omega arith, omega arith), λ w. z)
integer_in false n e =
    let z : n ≡ 8 → ⊥ = eqb-false n 8 e in
    (λ g. (omega (arith, g.1), omega (arith, g.0, g.1)), λ w. (omega (arith, w.0, w.1), omega (arith, z, w.0, w.1)))

float_in : (c : ℕ) → T (ltb c 3) → FormatIn (Float (2 ^ (c + 4)))
float_in zero h = inl refl
float_in (suc zero) h = inr (inl refl)
float_in (suc (suc zero)) h = inr (inr refl)
float_in (suc (suc (suc c))) h = absurd (omega (arith, ltb→lt (suc (suc (suc c))) 3 h))

in_float : (n : ℕ) → FormatIn (Float n) → float_format.Good (Float n)
unfolding float_format float_code view
in_float n (inl e) = subst (λ (k : ℕ). float_format.Good (Float k)) (sym e) ((lit≤ tt, tt), refl)
in_float n (inr (inl e)) = subst (λ (k : ℕ). float_format.Good (Float k)) (sym e) ((lit≤ tt, tt), refl)
in_float n (inr (inr e)) = subst (λ (k : ℕ). float_format.Good (Float k)) (sym e) ((lit≤ tt, tt), refl)

pub format_iff : (f : SampleFormat) → (sample_format (is_float f)).Good f ↔ FormatIn f
unfolding sample_format float_format integer_format ◌>>=◌ view
format_iff (Integer n) =
    let w = integer_in (eqb n 8) n refl in
    (λ g. w.0 g.0.1, λ h. ((flag_good (not (eqb n 8)), w.1 h), refl))
format_iff (Float n) = (λ g. subst FormatIn g.1 (float_in (float_code n) g.0.1), in_float n)

-- the gain map's, where there is one; else integers of 0 bits
pub gain_format_iff : (has : Bool) (f : SampleFormat) → (gain_map_format has (is_float f)).Good f ↔ ((has ≡ false → f ≡ Integer 0) × (has ≡ true → FormatIn f))
unfolding gain_map_format
gain_format_iff true f = (λ g. (λ e. absurd (true≢false e), λ e. (format_iff f).0 g), λ h. (format_iff f).1 (h.1 refl))
gain_format_iff false f = (λ g. (λ e. g, λ e. absurd (false≢true e)), λ h. h.0 refl)

-- ---- colour, where it is told
abbrev pub CicpIn : Option Cicp → Type 0
CicpIn None = Unit {0}
CicpIn (Some c) = (c.primaries ≤ 255) × (c.transfer ≤ 255) × (c.matrix ≤ 255)

pub cicp_iff : (c : Option Cicp) → (explicit_cicp (is_some c)).Good c ↔ CicpIn c
unfolding explicit_cicp ◌>>=◌ view
cicp_iff None = (λ g. tt, λ h. refl)
cicp_iff (Some c) = (
  λ g. (omega (arith, g.0.0), omega (arith, g.0.1.0), omega (arith, g.0.1.1)),
  λ h. ((omega (arith, h.0), (omega (arith, h.1), omega (arith, h.2))), refl),
)

-- ---- codec types, where they are told
abbrev pub TypesIn : Option CodecTypes → Type 0
TypesIn None = Unit {0}
TypesIn (Some c) = (c.infe_type ≤ 4294967295) × (c.codec_config_type ≤ 4294967295)

pub types_iff : (c : Option CodecTypes) → (explicit_codec_types (is_some c)).Good c ↔ TypesIn c
unfolding explicit_codec_types ◌>>=◌ view
types_iff None = (λ g. tt, λ h. refl)
types_iff (Some c) = (
  λ g. (omega (arith, g.0.0), omega (arith, g.0.1)),
  λ h. ((omega (arith, h.0), omega (arith, h.1)), refl),
)

-- ---- the tone-mapped picture's colour, where it is told
abbrev pub TmapIn : Option TmapCicp → Type 0
TmapIn None = Unit {0}
TmapIn (Some c) = (c.cicp.primaries ≤ 255) × (c.cicp.transfer ≤ 255) × (c.cicp.matrix ≤ 255)

pub tmap_iff : (c : Option TmapCicp) → (tmap_cicp (is_some c)).Good c ↔ TmapIn c
unfolding tmap_cicp ◌>>=◌ view
tmap_iff None = (λ g. tt, λ h. refl)
tmap_iff (Some c) = (
  λ g. (omega (arith, g.0.0), omega (arith, g.0.1.0), omega (arith, g.0.1.1.0)),
  λ h. ((omega (arith, h.0), (omega (arith, h.1), (omega (arith, h.2), flag_good c.full_range))), refl),
)

-- ---- the centring flags: one that the subsampling doesn't store is off
pub record Centred (c : MiniChroma) : Type 0 where
  pub horizontal_stored : (eqb c.subsampling 1 || eqb c.subsampling 2) ≡ false → c.horizontally_centered ≡ false
  pub vertical_stored : eqb c.subsampling 1 ≡ false → c.vertically_centered ≡ false

pub chroma_iff : (c : MiniChroma) → (chroma c.subsampling).Good c ↔ Centred c
unfolding chroma ◌>>=◌ view
chroma_iff c =
    let one = eqb c.subsampling 1 in
    let some = one || eqb c.subsampling 2 in (
      λ g. record {
        horizontal_stored = flag_if-off some c.horizontally_centered g.0.0;
        vertical_stored = flag_if-off one c.vertically_centered g.0.1;
      },
      λ h. (
        (flag_if_good some c.horizontally_centered h.horizontal_stored, flag_if_good one c.vertically_centered h.vertical_stored),
        refl,
      ),
    )

-- ---- an HDR body: n bytes, all zero where it is absent
abbrev pub Body : Bool → ℕ → List ℕ → Type 0
Body has n body = (has ≡ false → body ≡ replicate n 0) × BytesGood n body

zeros-bytes : (n : ℕ) → T (are_bytes (replicate n 0))
zeros-bytes zero = tt
zeros-bytes (suc n) = zeros-bytes n

zeros_good : (n : ℕ) (l : List ℕ) → l ≡ replicate n 0 → BytesGood n l
zeros_good n l e = subst (λ (x : List ℕ). BytesGood n x) (sym e) (length-replicate n 0, zeros-bytes n)

pub body_iff : (t : Bool) (n : ℕ) (l : List ℕ) → (bytes_for t n).Good l ↔ Body t n l
body_iff true n l = (λ g. (λ e. absurd (true≢false e), g), λ h. h.1)
body_iff false n l = (λ g. (λ e. g, zeros_good n l g), λ h. h.0 refl)

-- the bytes after a cclv's length are zero
abbrev pub CclvEnds : List ℕ → Type 0
CclvEnds body = drop (cclv_length body) body ≡ replicate (37 - cclv_length body) 0

cclv_to_lem : (x : ℕ × List ℕ) → x.0 < 256 → BytesGood (cclv_more x.0) x.1 → BytesGood 37 (cclv_to x) × CclvEnds (cclv_to x)
cclv_to_lem x h g =
    let k = cclv_more x.0 in
    let m = cclv_most x.0 in
    let r : List ℕ = replicate (36 - length x.1) 0 in
    let lr : length r ≡ 36 - length x.1 = length-replicate (36 - length x.1) 0 in
    let ll : length (x.1 ++ r) ≡ length x.1 + length r = length-append x.1 r in
    let e : 36 - length x.1 ≡ 37 - suc k = omega (arith, g.0) in (
      (omega (arith, g.0), and_join (ltb x.0 256) (are_bytes (x.1 ++ r)) (lt→ltb x.0 256 h, bytes-append x.1 r g.1 (zeros-bytes (36 - length x.1)))),
      drop_at x.1 r k g.0 ∙ ap (λ (n : ℕ). replicate n 0) e,
    )

zeros-after : (k n : ℕ) (l : List ℕ) → length (take k l) ≡ k → drop k l ≡ replicate (n - k) 0 → take k l ++ replicate (n - length (take k l)) 0 ≡ l
zeros-after k n l e h =
    ap (λ (j : ℕ). take k l ++ replicate (n - j) 0) e ∙ ap (λ (r : List ℕ). take k l ++ r) (sym h) ∙ take-append-drop k l

cclv_from_lem : (l : List ℕ) → BytesGood 37 l → CclvEnds l → cclv.Good l
unfolding cclv ◌>>=◌ view
cclv_from_lem [] g h = absurd (omega (arith, g.0))
cclv_from_lem (b ∷ l) g h =
    let k = cclv_more b in
    let w = and_split (ltb b 256) (are_bytes l) g.1 in
    let ll : length l ≡ 36 = omega (arith, g.0) in
    let lt : length (take k l) ≡ k = length-take-le k l (omega (arith, cclv_most b)) in
    let e : 37 - suc k ≡ 36 - k = omega arith in (
      (ltb→lt b 256 w.0, (lt, bytes_take k l w.1)),
      ap (λ (r : List ℕ). b ∷ r) (zeros-after k 36 l lt (subst (λ (n : ℕ). drop k l ≡ replicate n 0) e h)),
    )

pub cclv_iff : (t : Bool) (l : List ℕ) → (cclv_for t).Good l ↔ (Body t 37 l × CclvEnds l)
unfolding cclv_for cclv cclv_more ◌>>=◌ view
cclv_iff true l = (
  λ g.
      let x = subst (λ (y : List ℕ). BytesGood 37 y × CclvEnds y) g.1 (cclv_to_lem (cclv_from l) g.0.0 g.0.1) in
      ((λ e. absurd (true≢false e), x.0), x.1),
  λ h. cclv_from_lem l h.0.1 h.1,
)
cclv_iff false l = (
  λ g. ((λ e. g, zeros_good 37 l g), subst CclvEnds (sym g) refl),
  λ h. h.0.0 refl,
)

-- the HDR bodies of one picture
pub record Bodies (b : MiniHdrBoxes) : Type 0 where
  pub clli_body : Body b.has_clli 4 b.clli
  pub mdcv_body : Body b.has_mdcv 24 b.mdcv
  pub cclv_body : Body b.has_cclv 37 b.cclv
  pub cclv_ends : CclvEnds b.cclv
  pub amve_body : Body b.has_amve 8 b.amve
  pub reve_body : Body b.has_reve 20 b.reve
  pub ndwt_body : Body b.has_ndwt 4 b.ndwt

bodies : (on : Bool) (b : MiniHdrBoxes) → (hdr_boxes on).Good b → Bodies b
unfolding hdr_boxes ◌>>=◌ view
bodies on b g =
    let c = (cclv_iff b.has_cclv b.cclv).0 g.0.1.1.1.1.1.1.1.1.0 in
    record {
      clli_body = (body_iff b.has_clli 4 b.clli).0 g.0.1.1.1.1.1.1.0;
      mdcv_body = (body_iff b.has_mdcv 24 b.mdcv).0 g.0.1.1.1.1.1.1.1.0;
      cclv_body = c.0;
      cclv_ends = c.1;
      amve_body = (body_iff b.has_amve 8 b.amve).0 g.0.1.1.1.1.1.1.1.1.1.0;
      reve_body = (body_iff b.has_reve 20 b.reve).0 g.0.1.1.1.1.1.1.1.1.1.1.0;
      ndwt_body = (body_iff b.has_ndwt 4 b.ndwt).0 g.0.1.1.1.1.1.1.1.1.1.1.1;
    }

no_boxes : (on : Bool) (b : MiniHdrBoxes) → (hdr_boxes on).Good b → on ≡ false → b ≡ blank_hdr_boxes
unfolding hdr_boxes ◌>>=◌ view
no_boxes on b g e =
    let z = bodies on b g in
    let f0 = flag_if-off on b.has_clli g.0.0 e in
    let f1 = flag_if-off on b.has_mdcv g.0.1.0 e in
    let f2 = flag_if-off on b.has_cclv g.0.1.1.0 e in
    let f3 = flag_if-off on b.has_amve g.0.1.1.1.0 e in
    let f4 = flag_if-off on b.has_reve g.0.1.1.1.1.0 e in
    let f5 = flag_if-off on b.has_ndwt g.0.1.1.1.1.1.0 e in
    λ j. record {
      has_clli = f0 j;
      has_mdcv = f1 j;
      has_cclv = f2 j;
      has_amve = f3 j;
      has_reve = f4 j;
      has_ndwt = f5 j;
      clli = z.clli_body.0 f0 j;
      mdcv = z.mdcv_body.0 f1 j;
      cclv = z.cclv_body.0 f2 j;
      amve = z.amve_body.0 f3 j;
      reve = z.reve_body.0 f4 j;
      ndwt = z.ndwt_body.0 f5 j;
    }

boxes_good : (on : Bool) (b : MiniHdrBoxes) → Bodies b → (on ≡ false → b ≡ blank_hdr_boxes) → (hdr_boxes on).Good b
unfolding hdr_boxes ◌>>=◌ view
boxes_good on b z h =
    let f0 = flag_if_good on b.has_clli (λ e. ap (λ (x : MiniHdrBoxes). x.has_clli) (h e)) in
    let f1 = flag_if_good on b.has_mdcv (λ e. ap (λ (x : MiniHdrBoxes). x.has_mdcv) (h e)) in
    let f2 = flag_if_good on b.has_cclv (λ e. ap (λ (x : MiniHdrBoxes). x.has_cclv) (h e)) in
    let f3 = flag_if_good on b.has_amve (λ e. ap (λ (x : MiniHdrBoxes). x.has_amve) (h e)) in
    let f4 = flag_if_good on b.has_reve (λ e. ap (λ (x : MiniHdrBoxes). x.has_reve) (h e)) in
    let f5 = flag_if_good on b.has_ndwt (λ e. ap (λ (x : MiniHdrBoxes). x.has_ndwt) (h e)) in
    let b0 = (body_iff b.has_clli 4 b.clli).1 z.clli_body in
    let b1 = (body_iff b.has_mdcv 24 b.mdcv).1 z.mdcv_body in
    let b2 = (cclv_iff b.has_cclv b.cclv).1 (z.cclv_body, z.cclv_ends) in
    let b3 = (body_iff b.has_amve 8 b.amve).1 z.amve_body in
    let b4 = (body_iff b.has_reve 20 b.reve).1 z.reve_body in
    let b5 = (body_iff b.has_ndwt 4 b.ndwt).1 z.ndwt_body in
    ((f0, (f1, (f2, (f3, (f4, (f5, (b0, (b1, (b2, (b3, (b4, b5))))))))))), refl)

-- `on` says whether the picture can have bodies at all; else they are blank
pub boxes_iff : (on : Bool) (b : MiniHdrBoxes) → (hdr_boxes on).Good b ↔ (Bodies b × (on ≡ false → b ≡ blank_hdr_boxes))
boxes_iff on b = (λ g. (bodies on b g, no_boxes on b g), λ h. boxes_good on b h.0 h.1)
