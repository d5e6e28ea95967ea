-- A record found has the defaults: it is its own normal form.
use Rattle.std.specs.Prelude.{◌≡◌, refl, Bool, true, false, cond, List, ℕ, Option, Some, None}
use Rattle.std.proofs.Common.{ap, ◌∙◌}
use Rattle.std.proofs.lemmas.Bool.{and_right}
use Rattle.mini.specs.Blank.{blank_gain_map}
use Rattle.mini.specs.Same.{unplaced, Same}
use Rattle.mini.specs.declared.CodecTypes.{CodecTypes}
use Rattle.mini.specs.declared.MiniGainMap.{MiniGainMap}
use Rattle.mini.specs.declared.MinimizedImage.{MinimizedImage}
use Rattle.mini.specs.declared.SampleFormat.TheVariants.{Integer}
use Rattle.slots.specs.Slots.{config_type}
use Rattle.normal_form.specs.NormalForm.{needs_hdr, with_own, plain_own, lacks_data, writes_config, without_config_type, normal}
use Rattle.normal_form.specs.ReadProperties.{monochrome}
use Rattle.normal_form.specs.ReadRecord.{record_in}
use Rattle.found.specs.Expansion.{is_expansion}
use Rattle.found.specs.Found.{found_record}
use Rattle.found.proofs.Expansions.{found_is_normal}
use Rattle.find_mini.specs.Defaults.{Defaults}

-- ---- of a record that is its own normal form
no_type : (c : Option CodecTypes) → config_type (without_config_type c) ≡ 0
no_type None = refl
no_type (Some types) = refl

module _ (i : MinimizedImage) (s : List ℕ) (same : Same i s (normal i s) s) where
  -- a gain map's own fields alone
  abbrev own : MiniGainMap → MiniGainMap
  own g = with_own blank_gain_map g

  plain : i.has_gain_map ≡ true → i.gain_map.«data».len ≡ 0
      → i.gain_map
      ≡ record (i.gain_map) {
        width = i.width;
        height = i.height;
        matrix_coefficients = 0;
        full_range = false;
        chroma = monochrome;
        format = Integer 8;
      }
  unfolding normal unplaced
  plain has none =
      let lacks : lacks_data i ≡ true = rw (has, none) refl in
      let e : own i.gain_map ≡ own (plain_own i.width i.height) =
      ap (λ (u : MinimizedImage). own u.gain_map) same.fields ∙ ap (λ (t : Bool). own (cond t (plain_own i.width i.height) i.gain_map)) lacks in
      λ j. with_own i.gain_map (e j)

  no_hdr : needs_hdr i ≡ false → i.hdr ≡ false
  unfolding normal unplaced
  no_hdr h = ap (λ (u : MinimizedImage). u.hdr) same.fields ∙ and_right i.hdr (needs_hdr i) h

  no_config_type : writes_config i ≡ false → config_type i.explicit_codec_types ≡ 0
  unfolding normal unplaced
  no_config_type h =
      let c = i.explicit_codec_types in
      ap (λ (u : MinimizedImage). config_type u.explicit_codec_types) same.fields
      ∙ ap (λ (t : Bool). config_type (cond t c (without_config_type c))) h
      ∙ no_type c

-- ---- of the record found
module _ (f : List ℕ) where
  absent : (found_record f).has_gain_map ≡ false → (found_record f).gain_map ≡ blank_gain_map
  unfolding found_record record_in
  absent e = rw e refl

  pub defaults : (major minor : ℕ) (brands : List ℕ) → is_expansion f major minor brands ≡ true → Defaults (found_record f)
  defaults major minor brands h =
      let same = found_is_normal f major minor brands h in
      record {
        absent = absent;
        without_data = plain (found_record f) f same;
        hdr = no_hdr (found_record f) f same;
        config_type = no_config_type (found_record f) f same;
      }
