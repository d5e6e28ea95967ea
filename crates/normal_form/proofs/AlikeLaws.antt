-- The other items of `Alike`, one by one: two short forms are equal exactly if what they are made from is as the item says.
use Rattle.std.specs.Prelude.{◌≡◌, refl, Bool, true, false, not, cond, ◌&&◌, ◌⊎◌, Option, Some, None, is_some, unwrap_or}
use Rattle.std.proofs.Common.{sym, ap, ap₂, ◌∙◌, true≢false, inl, inr}
use Rattle.std.proofs.lemmas.Bool.{and_right}
use Rattle.slots.specs.SlotLaws.{and-true}
use Rattle.mini.specs.declared.Cicp.{Cicp}
use Rattle.mini.specs.declared.CodecTypes.{CodecTypes}
use Rattle.mini.specs.declared.TmapCicp.{TmapCicp}
use Rattle.octets.specs.declared.Span.{Span}
use Rattle.normal_form.specs.Alike.{PlainTone}
use Rattle.normal_form.specs.NormalForm.{short_cicp, srgb, is_srgb, short_tmap_cicp, without_config_type}
use Rattle.normal_form.proofs.ShortForms.{cicp_kept, cicp_again, srgb_is}

-- ---- the colour triple, beside one table
module _ (c d : Option Cicp) (a b : Cicp) (table : a ≡ b) where
  pub triple_forth : unwrap_or c a ≡ unwrap_or d b → short_cicp c a ≡ short_cicp d b
  triple_forth e = sym (cicp_again c a) ∙ (λ j. short_cicp (Some (e j)) (table j)) ∙ cicp_again d b

  pub triple_back : short_cicp c a ≡ short_cicp d b → unwrap_or c a ≡ unwrap_or d b
  triple_back e = sym (cicp_kept c a) ∙ ap₂ unwrap_or e table ∙ cicp_kept d b

-- ---- the hdr flag
module _ (a b l m : Bool) (need : l ≡ m) where
  pub hdr_forth : (a ≡ b) ⊎ ((l ≡ false) × (m ≡ false)) → (a && l) ≡ (b && m)
  hdr_forth (inl e) = ap₂ (λ (x y : Bool). x && y) e need
  hdr_forth (inr e) = and_right a l e.0 ∙ sym (and_right b m e.1)

pub hdr_back : (a b l m : Bool) → l ≡ m → (a && l) ≡ (b && m) → (a ≡ b) ⊎ ((l ≡ false) × (m ≡ false))
hdr_back a b false m q e = inr (refl, sym q)
hdr_back a b true false q e = absurd (true≢false q)
hdr_back a b true true q e = inl (sym (and-true a) ∙ e ∙ and-true b)

-- ---- the tone map's colours
-- only whether there is a profile matters
tone_beside : (c : Option TmapCicp) (x y : Option Span) → is_some x ≡ is_some y → short_tmap_cicp c x ≡ short_tmap_cicp c y
tone_beside None x y e = refl
tone_beside (Some c) x y e = ap (λ (b : Bool). cond (not b && is_srgb c) None (Some c)) e

plain_short : (c : Option TmapCicp) (icc : Option Span) → PlainTone c icc → short_tmap_cicp c icc ≡ None
plain_short c icc (e, inl q) = ap (λ (x : Option TmapCicp). short_tmap_cicp x icc) q
plain_short c icc (e, inr q) = ap (λ (x : Option TmapCicp). short_tmap_cicp x icc) q ∙ tone_beside (Some srgb) icc None e

tone_which : (c : Option TmapCicp) (icc : Option Span) → ((short_tmap_cicp c icc ≡ None) × PlainTone c icc) ⊎ (short_tmap_cicp c icc ≡ c)
tone_which None icc = inr refl
tone_which (Some c) (Some x) = inr refl
tone_which (Some c) None = go (is_srgb c) refl
  where
    go : (b : Bool) → is_srgb c ≡ b → ((cond b None (Some c) ≡ None) × PlainTone (Some c) None) ⊎ (cond b None (Some c) ≡ Some c)
    go true e = inl (refl, (refl, inr (ap Some (srgb_is c e))))
    go false e = inr refl

module _ (c d : Option TmapCicp) (x y : Option Span) (beside : is_some x ≡ is_some y) where
  pub tone_forth : (c ≡ d) ⊎ (PlainTone c x × PlainTone d y) → short_tmap_cicp c x ≡ short_tmap_cicp d y
  tone_forth (inl e) = tone_beside c x y beside ∙ ap (λ (z : Option TmapCicp). short_tmap_cicp z y) e
  tone_forth (inr h) = plain_short c x h.0 ∙ sym (plain_short d y h.1)

  pub tone_back : short_tmap_cicp c x ≡ short_tmap_cicp d y → (c ≡ d) ⊎ (PlainTone c x × PlainTone d y)
  tone_back e = go (tone_which c x) (tone_which d y)
    where
      go : ((short_tmap_cicp c x ≡ None) × PlainTone c x) ⊎ (short_tmap_cicp c x ≡ c) → ((short_tmap_cicp d y ≡ None) × PlainTone d y) ⊎ (short_tmap_cicp d y ≡ d)
          → (c ≡ d) ⊎ (PlainTone c x × PlainTone d y)
      go (inl a) (inl b) = inr (a.1, b.1)
      go (inl a) (inr b) = inr (a.1, (sym beside ∙ a.1.0, inl (sym b ∙ sym e ∙ a.0)))
      go (inr a) (inl b) = inr ((beside ∙ b.1.0, inl (sym a ∙ e ∙ b.0)), b.1)
      go (inr a) (inr b) = inl (sym a ∙ e ∙ b)

-- ---- the configurations' codec type
module _ (v w : Bool) (c d : Option CodecTypes) (written : v ≡ w) where
  pub types_forth : without_config_type c ≡ without_config_type d → (c ≡ d) ⊎ ((v ≡ false) × (w ≡ false))
      → cond v c (without_config_type c) ≡ cond w d (without_config_type d)
  types_forth n (inl e) = λ j. cond (written j) (e j) (without_config_type (e j))
  types_forth n (inr e) = (λ j. cond (e.0 j) c (without_config_type c)) ∙ n ∙ (λ j. cond (sym e.1 j) d (without_config_type d))

pub types_back : (v w : Bool) (c d : Option CodecTypes) → v ≡ w → cond v c (without_config_type c) ≡ cond w d (without_config_type d)
    → (c ≡ d) ⊎ ((v ≡ false) × (w ≡ false))
types_back false w c d q e = inr (refl, sym q)
types_back true true c d q e = inl e
types_back true false c d q e = absurd (true≢false q)
