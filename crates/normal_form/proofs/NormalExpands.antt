-- The normal form of a record that expands does too, under the same file type.
use Rattle.std.specs.Prelude.{◌≡◌, refl, Bool, true, false, not, cond, ◌||◌, List, ℕ, T, eqb, length, Option, Some, None, is_some}
use Rattle.std.proofs.lemmas.Bool.{or_parts, or_from}
use Rattle.bits.specs.Format.{and_split, and_join}
use Rattle.boxes.specs.Header.{UUID}
use Rattle.mini.specs.NoPayloadGives.{lawful}
use Rattle.mini.specs.Same.{chunk_in, span_in, gain_in, well_placed}
use Rattle.mini.specs.declared.CodecTypes.{CodecTypes}
use Rattle.mini.specs.declared.MiniGainMap.{MiniGainMap}
use Rattle.mini.specs.declared.MinimizedImage.{MinimizedImage}
use Rattle.mini.proofs.ListIsExact.{lawful_writable}
use Rattle.octets.specs.declared.Span.{Span}
use Rattle.expander.specs.Expands.{Expands}
use Rattle.expander.specs.Outcome.{is_uuid}
use Rattle.normal_form.specs.NormalForm.{short_config, writes_config, without_config_type, normal}
use Rattle.normal_form.proofs.NormalLawful.{short_held, lawful_normal}

no_uuid : (w : Bool) (c : Option CodecTypes) → is_uuid c ≡ false → is_uuid (cond w c (without_config_type c)) ≡ false
no_uuid true c e = e
no_uuid false None e = e
no_uuid false (Some c) e = or_from (eqb c.infe_type UUID) _ (or_parts (eqb c.infe_type UUID) (eqb c.codec_config_type UUID) e).0 refl

typed : (w : Bool) (c : Option CodecTypes) → T (is_some c) → T (is_some (cond w c (without_config_type c)))
typed true c h = h
typed false None h = h
typed false (Some c) h = tt

module _ (i : MinimizedImage) (s : List ℕ) where
  abbrev g : MiniGainMap
  g = i.gain_map

  gain_in_again : (has : Bool) → T (not has || gain_in i (length s)) → T (not has || gain_in (normal i s) (length s))
  unfolding normal
  gain_in_again true h =
      let w = and_split (chunk_in g.codec_config (length s)) _ h in
      and_join (chunk_in (short_config g.codec_config i.main_codec_config s) (length s)) _ (
        short_held (λ (c : Option Span). T (chunk_in c (length s))) g.codec_config i.main_codec_config s tt w.0,
        w.1,
      )
  gain_in_again false h = tt

  placed_again : T (well_placed i s) → T (well_placed (normal i s) s)
  unfolding well_placed normal
  placed_again h =
      let n = length s in
      let p = and_split (span_in i.main_codec_config n) _ h in
      let q = and_split (chunk_in i.alpha_codec_config n) _ p.1 in
      let r = and_split (not i.has_gain_map || gain_in i n) _ q.1 in
      let alpha = short_held (λ (c : Option Span). T (chunk_in c n)) i.alpha_codec_config i.main_codec_config s tt q.0 in
      and_join (span_in i.main_codec_config n) _ (
        p.0,
        and_join (chunk_in (short_config i.alpha_codec_config i.main_codec_config s) n) _ (
          alpha,
          and_join (not i.has_gain_map || gain_in (normal i s) n) _ (gain_in_again i.has_gain_map r.0, r.1),
        ),
      )

  pub normal_expands : (brands : List ℕ) → Expands i s brands → Expands (normal i s) s brands
  unfolding normal
  normal_expands brands x =
      record {
        placed = placed_again x.placed;
        can_write = lawful_writable (normal i s) (lawful_normal i s (lawful i x.can_write));
        no_native_alpha = x.no_native_alpha;
        no_uuid = no_uuid (writes_config i) i.explicit_codec_types x.no_uuid;
        typed = typed (writes_config i) i.explicit_codec_types x.typed;
        brands_allowed = x.brands_allowed;
      }
