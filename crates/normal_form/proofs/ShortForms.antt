-- What each short form of specs/NormalForm.antt leaves as it is: the value or the slot that it stands for, and that its field can hold it.
use Rattle.std.specs.Prelude.{◌≡◌, refl, Bool, true, false, not, cond, ◌&&◌, List, ◌∷◌, ℕ, T, ltb, length, Option, Some, None, is_some, unwrap_or}
use Rattle.std.proofs.Common.{eq-eqb, sym, ap, ◌∙◌, subst, true≢false, eqb-true}
use Rattle.std.proofs.lemmas.Bool.{and_parts, or_parts}
use Rattle.bits.specs.Format.{is_list, list_is}
use Rattle.mini.specs.Blank.{blank_hdr_boxes}
use Rattle.mini.specs.Ranges.{CicpIn, TmapIn, Bodies}
use Rattle.mini.specs.Same.{span_bytes}
use Rattle.mini.specs.declared.Cicp.{Cicp}
use Rattle.mini.specs.declared.CodecTypes.{CodecTypes}
use Rattle.mini.specs.declared.MiniHdrBoxes.{MiniHdrBoxes}
use Rattle.mini.specs.declared.TmapCicp.{TmapCicp}
use Rattle.octets.specs.declared.Span.{Span}
use Rattle.properties.specs.Property.{codec_config}
use Rattle.slots.specs.LengthLaws.{length_span}
use Rattle.slots.specs.Slots.{Slot, only_if, if_there, config_type, config_or, config_slot, tmap_nclx_slot}
use Rattle.slots.specs.Sound.{SpanPlaced, ChunkPlaced}
use Rattle.normal_form.specs.NormalForm.{is_cicp, short_cicp, has_body, short_config, srgb, is_srgb, short_tmap_cicp, without_config_type}

-- what holds of both holds whichever it is
pub either_way : {A : Type 0} (P : A → Type 0) (b : Bool) (x y : A) → P x → P y → P (cond b x y)
either_way P true x y p q = p
either_way P false x y p q = q

-- ---- colour
cicp_is : (c d : Cicp) → is_cicp c d ≡ true → c ≡ d
cicp_is c d e =
    let f = and_parts _ _ e in
    let g = and_parts _ _ f.1 in
    let p = eqb-true c.primaries d.primaries f.0 in
    let t = eqb-true c.transfer d.transfer g.0 in
    let m = eqb-true c.matrix d.matrix g.1 in
    λ j. record { primaries = p j; transfer = t j; matrix = m j }

pub cicp_kept : (c : Option Cicp) (inferred : Cicp) → unwrap_or (short_cicp c inferred) inferred ≡ unwrap_or c inferred
cicp_kept None inferred = refl
cicp_kept (Some c) inferred = go (is_cicp c inferred) refl
  where
    go : (b : Bool) → is_cicp c inferred ≡ b → unwrap_or (cond b None (Some c)) inferred ≡ c
    go true e = sym (cicp_is c inferred e)
    go false e = refl

-- the value alone tells the short form
pub cicp_again : (c : Option Cicp) (inferred : Cicp) → short_cicp (Some (unwrap_or c inferred)) inferred ≡ short_cicp c inferred
cicp_again None inferred = rw (eq-eqb inferred.primaries _ refl, eq-eqb inferred.transfer _ refl, eq-eqb inferred.matrix _ refl)
cicp_again (Some c) inferred = refl

pub cicp_fits : (c : Option Cicp) (inferred : Cicp) → CicpIn c → CicpIn (short_cicp c inferred)
cicp_fits None inferred h = h
cicp_fits (Some c) inferred h = either_way CicpIn (is_cicp c inferred) None (Some c) tt h

-- ---- high dynamic range
pub no_body : (h : MiniHdrBoxes) → Bodies h → has_body h ≡ false → h ≡ blank_hdr_boxes
no_body h b e =
    let f0 = or_parts h.has_clli _ e in
    let f1 = or_parts h.has_mdcv _ f0.1 in
    let f2 = or_parts h.has_cclv _ f1.1 in
    let f3 = or_parts h.has_amve _ f2.1 in
    let f4 = or_parts h.has_reve h.has_ndwt f3.1 in
    λ j. record {
      has_clli = f0.0 j;
      has_mdcv = f1.0 j;
      has_cclv = f2.0 j;
      has_amve = f3.0 j;
      has_reve = f4.0 j;
      has_ndwt = f4.1 j;
      clli = b.clli_body.0 f0.0 j;
      mdcv = b.mdcv_body.0 f1.0 j;
      cclv = b.cclv_body.0 f2.0 j;
      amve = b.amve_body.0 f3.0 j;
      reve = b.reve_body.0 f4.0 j;
      ndwt = b.ndwt_body.0 f4.1 j;
    }

-- ---- the configurations
pub lists_equal : (l m : List ℕ) → is_list l m ≡ true → l ≡ m
lists_equal l m e = (list_is m l).0 (subst T (sym e) tt)

-- a chunk with the bytes of another is as long
pub same_long : (x y : Span) (s : List ℕ) → SpanPlaced x s → SpanPlaced y s → is_list (span_bytes x s) (span_bytes y s) ≡ true → x.len ≡ y.len
same_long x y s p q e =
    let b = lists_equal (span_bytes x s) (span_bytes y s) e in
    sym (length_span x s p) ∙ ap length b ∙ length_span y s q

-- the one that it stands for is as long
pub short_len : (c : Option Span) (main : Span) (s : List ℕ) → ChunkPlaced c s → SpanPlaced main s
    → (config_or (short_config c main s) main).len ≡ (config_or c main).len
short_len None main s p q = refl
short_len (Some x) main s p q = go (is_list (span_bytes x s) (span_bytes main s)) refl
  where
    go : (b : Bool) → is_list (span_bytes x s) (span_bytes main s) ≡ b → (config_or (cond b None (Some x)) main).len ≡ x.len
    go true e = sym (same_long x main s p q e)
    go false e = refl

abbrev slot_of : (type : ℕ) (x : Span) (s : List ℕ) → Slot
slot_of type x s = only_if (ltb 0 x.len) (codec_config type (span_bytes x s))

short_kept : (type : ℕ) (c : Option Span) (main : Span) (s : List ℕ) → ChunkPlaced c s → SpanPlaced main s
    → slot_of type (config_or (short_config c main s) main) s ≡ slot_of type (config_or c main) s
short_kept type None main s p q = refl
short_kept type (Some x) main s p q = go (is_list (span_bytes x s) (span_bytes main s)) refl
  where
    go : (b : Bool) → is_list (span_bytes x s) (span_bytes main s) ≡ b → slot_of type (config_or (cond b None (Some x)) main) s ≡ slot_of type x s
    go true e =
        let n = same_long x main s p q e in
        let l = lists_equal (span_bytes x s) (span_bytes main s) e in
        λ j. only_if (ltb 0 (sym n j)) (codec_config type (sym l j))
    go false e = refl

only_off : (b : Bool) (x y : List ℕ) → b ≡ false → only_if b x ≡ only_if b y
only_off true x y e = absurd (true≢false e)
only_off false x y e = refl

-- whatever the type is where nothing is written
pub type_kept : (w : Bool) (types : Option CodecTypes) (x : Span) (s : List ℕ) → (w ≡ false → ltb 0 x.len ≡ false)
    → config_slot (cond w types (without_config_type types)) x s ≡ config_slot types x s
type_kept true types x s h = refl
type_kept false types x s h = only_off (ltb 0 x.len) _ _ (h refl)

pub config_kept : (w : Bool) (types : Option CodecTypes) (c : Option Span) (main : Span) (s : List ℕ) → ChunkPlaced c s → SpanPlaced main s
    → (w ≡ false → ltb 0 (config_or c main).len ≡ false)
    → config_slot (cond w types (without_config_type types)) (config_or (short_config c main s) main) s ≡ config_slot types (config_or c main) s
config_kept w types c main s p q h =
    short_kept (config_type (cond w types (without_config_type types))) c main s p q ∙ type_kept w types (config_or c main) s h

-- the first slot of an item's group, where the item is there
pub first_kept : (b : Bool) (x y : Slot) (rest : List Slot) → (b ≡ true → x ≡ y) → if_there b (x ∷ rest) ≡ if_there b (y ∷ rest)
first_kept true x y rest h = ap (λ (z : Slot). z ∷ rest) (h refl)
first_kept false x y rest h = refl

-- ---- the tone map's colours
pub srgb_is : (c : TmapCicp) → is_srgb c ≡ true → c ≡ srgb
srgb_is c e =
    let f = and_parts _ _ e in
    let k = cicp_is c.cicp srgb.cicp f.0 in
    λ j. record { cicp = k j; full_range = f.1 j }

pub tone_kept : (c : Option TmapCicp) (icc : Option Span) → tmap_nclx_slot (short_tmap_cicp c icc) icc ≡ tmap_nclx_slot c icc
tone_kept None icc = refl
tone_kept (Some c) (Some x) = refl
tone_kept (Some c) None = go (is_srgb c) refl
  where
    go : (b : Bool) → is_srgb c ≡ b → tmap_nclx_slot (cond b None (Some c)) None ≡ tmap_nclx_slot (Some c) None
    go true e = ap (λ (d : TmapCicp). tmap_nclx_slot (Some d) None) (sym (srgb_is c e))
    go false e = refl

pub tone_fits : (c : Option TmapCicp) (icc : Option Span) → TmapIn c → TmapIn (short_tmap_cicp c icc)
tone_fits None icc h = h
tone_fits (Some c) icc h = either_way TmapIn (not (is_some icc) && is_srgb c) None (Some c) tt h
