-- Records that expand are alike exactly if their normal forms are the same, positions aside.
use Rattle.std.specs.Prelude.{◌≡◌, refl, Bool, true, false, not, cond, ◌&&◌, ◌||◌, ◌⊎◌, ◌↔◌, List, ℕ, ltb, Option}
use Rattle.std.proofs.Common.{sym, ap, ◌∙◌, inl, inr, arith, ltb-false, le-ltb}
use Rattle.std.proofs.lemmas.Bool.{false≢true, not-true}
use Rattle.mini.specs.Blank.{blank_gain_map}
use Rattle.mini.specs.NoPayloadGives.{lawful}
use Rattle.mini.specs.Same.{unplaced_chunk, unplaced, Same}
use Rattle.mini.specs.declared.MiniGainMap.{MiniGainMap}
use Rattle.mini.specs.declared.MinimizedImage.{MinimizedImage}
use Rattle.octets.specs.declared.Span.{Span}
use Rattle.slots.specs.Slots.{config_or, has_alpha_item, has_gain_map_item}
use Rattle.slots.specs.Sound.{sound}
use Rattle.expander.specs.Expands.{Expands}
use Rattle.normal_form.specs.Alike.{rest_of, SameChunk, own_fields, Alike}
use Rattle.normal_form.specs.NormalForm.{needs_hdr, short_config, plain_own, lacks_data, writes_config, normal}
use Rattle.normal_form.proofs.AlikeConfigs.{config_forth, config_back}
use Rattle.normal_form.proofs.AlikeLaws.{triple_forth, triple_back, hdr_forth, hdr_back, tone_forth, tone_back, types_forth, types_back}
use Rattle.normal_form.proofs.Parts.{named_of, rest_same, same_of, rest_kept, same_table, same_need, same_profile, same_lack, same_plain, same_types, same_main_len, same_main}
use Rattle.normal_form.proofs.SameLaws.{or_len}
use Rattle.normal_form.proofs.ShortForms.{short_len}

-- ---- a gain map's own numbers
own_cond : (b : Bool) (p g : MiniGainMap) → own_fields (cond b p g) ≡ cond b (own_fields p) (own_fields g)
own_cond true p g = refl
own_cond false p g = refl

empty_data : (has : Bool) (n : ℕ) → (has && not (ltb 0 n)) ≡ true → n ≡ 0
empty_data true n e = let f = ltb-false 0 n (not-true (ltb 0 n) e) in omega arith
empty_data false n e = absurd (false≢true e)

-- without data they are those taken for them, or blank
own_empty : (has : Bool) (n : ℕ) (p g : MiniGainMap) → n ≡ 0 → (has ≡ false → own_fields g ≡ blank_gain_map)
    → own_fields (cond (has && not (ltb 0 n)) p g) ≡ cond has (own_fields p) blank_gain_map
own_empty true n p g e h = ap (λ (b : Bool). own_fields (cond (not b) p g)) (le-ltb 0 n (omega arith))
own_empty false n p g e h = h refl

own_which : (a b : Bool) (p q g m : MiniGainMap) → a ≡ b → own_fields (cond a p g) ≡ own_fields (cond b q m) → (own_fields g ≡ own_fields m) ⊎ ((a ≡ true) × (b ≡ true))
own_which true b p q g m e f = inr (refl, sym e)
own_which false true p q g m e f = absurd (false≢true e)
own_which false false p q g m e f = inl f

own_back : (has has' : Bool) (n n' : ℕ) (p q g m : MiniGainMap)
    → (has && not (ltb 0 n)) ≡ (has' && not (ltb 0 n')) → own_fields (cond (has && not (ltb 0 n)) p g) ≡ own_fields (cond (has' && not (ltb 0 n')) q m)
    → (own_fields g ≡ own_fields m) ⊎ ((n ≡ 0) × (n' ≡ 0))
own_back has has' n n' p q g m e f = go (own_which (has && not (ltb 0 n)) (has' && not (ltb 0 n')) p q g m e f)
  where
    go : (own_fields g ≡ own_fields m) ⊎ (((has && not (ltb 0 n)) ≡ true) × ((has' && not (ltb 0 n')) ≡ true))
        → (own_fields g ≡ own_fields m) ⊎ ((n ≡ 0) × (n' ≡ 0))
    go (inl e) = inl e
    go (inr e) = inr (empty_data has n e.0, empty_data has' n' e.1)

module _ (i : MinimizedImage) (s : List ℕ) (k : MinimizedImage) (t brands : List ℕ) (x : Expands i s brands) (y : Expands k t brands) where
  module _ (h : Same (rest_of i) s (rest_of k) t) where
    same_len : (c d : Option Span) (m n : Span) → unplaced_chunk c ≡ unplaced_chunk d → m.len ≡ n.len → (config_or c m).len ≡ (config_or d n).len
    same_len c d m n e f = sym (or_len c m) ∙ (λ j. (config_or (e j) (record { at = 0; len = f j })).len) ∙ or_len d n

    -- whether a configuration is written
    same_writes : SameChunk (short_config i.alpha_codec_config i.main_codec_config s) s (short_config k.alpha_codec_config k.main_codec_config t) t
        → SameChunk (short_config i.gain_map.codec_config i.main_codec_config s) s (short_config k.gain_map.codec_config k.main_codec_config t) t
        → writes_config i ≡ writes_config k
    unfolding unplaced
    same_writes a g =
        let p = sound i s x.placed x.can_write in
        let q = sound k t y.placed y.can_write in
        let n = same_main_len i s k t h in
        let al =
        sym (short_len i.alpha_codec_config i.main_codec_config s p.alpha_config p.main_config) ∙ same_len _ _ i.main_codec_config k.main_codec_config a.field n
        ∙ short_len k.alpha_codec_config k.main_codec_config t q.alpha_config q.main_config in
        let gl =
        sym (short_len i.gain_map.codec_config i.main_codec_config s p.gain_map_config p.main_config) ∙ same_len _ _ i.main_codec_config k.main_codec_config g.field n
        ∙ short_len k.gain_map.codec_config k.main_codec_config t q.gain_map_config q.main_config in
        λ j. ltb 0 (n j) || ((has_alpha_item (h.fields j) && ltb 0 (al j)) || (has_gain_map_item (h.fields j) && ltb 0 (gl j)))

    own_forth : (own_fields i.gain_map ≡ own_fields k.gain_map) ⊎ ((i.gain_map.«data».len ≡ 0) × (k.gain_map.«data».len ≡ 0))
        → own_fields (cond (lacks_data i) (plain_own i.width i.height) i.gain_map) ≡ own_fields (cond (lacks_data k) (plain_own k.width k.height) k.gain_map)
    unfolding unplaced
    own_forth (inl e) =
        own_cond (lacks_data i) (plain_own i.width i.height) i.gain_map ∙ (λ j. cond (same_lack i s k t h j) (own_fields (same_plain i s k t h j)) (e j))
        ∙ sym (own_cond (lacks_data k) (plain_own k.width k.height) k.gain_map)
    own_forth (inr e) =
        own_empty i.has_gain_map _ (plain_own i.width i.height) i.gain_map e.0 (λ f. ap own_fields ((lawful i x.can_write).gain_blank f))
        ∙ (λ j. cond ((h.fields j).has_gain_map) (own_fields (same_plain i s k t h j)) blank_gain_map)
        ∙ sym (own_empty k.has_gain_map _ (plain_own k.width k.height) k.gain_map e.1 (λ f. ap own_fields ((lawful k y.can_write).gain_blank f)))

  alike_same : Alike i s k t → Same (normal i s) s (normal k t) t
  unfolding normal
  alike_same h =
      let r = h.rest in
      let main = same_main i s k t r in
      let a = config_forth i.alpha_codec_config i.main_codec_config s k.alpha_codec_config k.main_codec_config t main h.alpha_config in
      let g = config_forth i.gain_map.codec_config i.main_codec_config s k.gain_map.codec_config k.main_codec_config t main h.gain_map_config in
      let rest : Same (rest_of (normal i s)) s (rest_of (normal k t)) t = rw (rest_kept i s, rest_kept k t) r in
      same_of (normal i s) s (normal k t) t rest
      (record {
        cicp = triple_forth i.explicit_cicp k.explicit_cicp _ _ (same_table i s k t r) h.triple;
        hdr = hdr_forth i.hdr k.hdr (needs_hdr i) (needs_hdr k) (same_need i s k t r) h.hdr;
        alpha_config = a;
        gain_map_config = g;
        tone = tone_forth i.gain_map.tmap_cicp k.gain_map.tmap_cicp i.gain_map.tmap_icc k.gain_map.tmap_icc (same_profile i s k t r) h.tone;
        gain_map = own_forth r h.gain_map;
        types = types_forth (writes_config i) (writes_config k) i.explicit_codec_types k.explicit_codec_types (same_writes r a g) (same_types i s k t r) h.types;
      })

  same_alike : Same (normal i s) s (normal k t) t → Alike i s k t
  unfolding normal
  same_alike h =
      let n = named_of (normal i s) s (normal k t) t h in
      let rest : Same (rest_of (normal i s)) s (rest_of (normal k t)) t = rest_same (normal i s) s (normal k t) t h in
      let r : Same (rest_of i) s (rest_of k) t = rw (← rest_kept i s, ← rest_kept k t) rest in
      let l = lawful i x.can_write in
      let m = lawful k y.can_write in
      let p = sound i s x.placed x.can_write in
      let q = sound k t y.placed y.can_write in
      let main = same_main i s k t r in
      let len = same_main_len i s k t r in
      record {
        rest = r;
        triple = triple_back i.explicit_cicp k.explicit_cicp _ _ (same_table i s k t r) n.cicp;
        hdr = hdr_back i.hdr k.hdr (needs_hdr i) (needs_hdr k) (same_need i s k t r) n.hdr;
        alpha_config =
            config_back i.alpha_codec_config i.main_codec_config s k.alpha_codec_config k.main_codec_config t main
            l.alpha_config_empty p.alpha_config p.main_config m.alpha_config_empty q.alpha_config q.main_config len n.alpha_config;
        gain_map_config =
            config_back i.gain_map.codec_config i.main_codec_config s k.gain_map.codec_config k.main_codec_config t main
            l.gain_config_empty p.gain_map_config p.main_config m.gain_config_empty q.gain_map_config q.main_config len n.gain_map_config;
        tone = tone_back i.gain_map.tmap_cicp k.gain_map.tmap_cicp i.gain_map.tmap_icc k.gain_map.tmap_icc (same_profile i s k t r) n.tone;
        gain_map =
            own_back i.has_gain_map k.has_gain_map i.gain_map.«data».len k.gain_map.«data».len (plain_own i.width i.height) (plain_own k.width k.height)
            i.gain_map k.gain_map (same_lack i s k t r) n.gain_map;
        types = types_back (writes_config i) (writes_config k) i.explicit_codec_types k.explicit_codec_types (same_writes r n.alpha_config n.gain_map_config) n.types;
      }

  pub alike_iff : Same (normal i s) s (normal k t) t ↔ Alike i s k t
  alike_iff = (same_alike, alike_same)
