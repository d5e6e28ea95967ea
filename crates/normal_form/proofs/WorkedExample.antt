-- Some records, in numbers: two that are alike, some that are not, and the normal form of a gain map without data.
use Rattle.std.specs.Prelude.{◌≡◌, refl, true, [], ◌∷◌, ℕ, get_or, Some}
use Rattle.std.proofs.Common.{inl, inr, arith}
use Rattle.mini.specs.Blank.{blank_image, blank_gain_map}
use Rattle.mini.specs.declared.CodecTypes.{CodecTypes}
use Rattle.mini.specs.Same.{unplaced, chunks_of}
use Rattle.mini.specs.declared.MiniGainMap.{MiniGainMap}
use Rattle.mini.specs.declared.MinimizedImage.{MinimizedImage}
use Rattle.mini.specs.declared.SampleFormat.TheVariants.{Integer}
use Rattle.normal_form.specs.Alike.{Alike}
use Rattle.normal_form.specs.NormalForm.{normal}

abbrev types : ℕ → CodecTypes
types config = record { infe_type = 0x61763031; codec_config_type = config }

-- 1 by 1, 4:0:0, 8 bits, one byte of main data
abbrev picture : MinimizedImage
picture =
    record blank_image {
      explicit_codec_types = Some (types 0x61763143);
      format = Integer 8;
      orientation = 1;
      width = 1;
      height = 1;
      main_data = record { at = 0; len = 1 };
    }

-- ---- alike: the inferred colours are given, hdr is set, the configuration's type is another, and the main data lies elsewhere
abbrev told : MinimizedImage
told =
    record picture {
      explicit_codec_types = Some (types 0x68766343);
      explicit_cicp = Some (record { primaries = 1; transfer = 13; matrix = 2 });
      hdr = true;
      main_data = record { at = 2; len = 1 };
    }

pub example_alike : Alike picture (0xAA ∷ []) told (0x11 ∷ 0x22 ∷ 0xAA ∷ [])
unfolding unplaced chunks_of
example_alike =
    record {
      rest = record { fields = refl; chunks = refl };
      triple = refl;
      hdr = inr (refl, refl);
      alpha_config = inl (record { field = refl; bytes = refl });
      gain_map_config = inl (record { field = refl; bytes = refl });
      tone = inl refl;
      gain_map = inl refl;
      types = inr (refl, refl);
    }

-- ---- not alike: other colours, or another byte of main data
pub example_other_colours : Alike picture (0xAA ∷ []) (record picture { explicit_cicp = Some (record { primaries = 1; transfer = 13; matrix = 6 }) }) (0xAA ∷ []) → ⊥
example_other_colours h = let e : 2 ≡ 6 = λ j. (h.triple j).matrix in absurd (omega (arith, e))

pub example_other_data : Alike picture (0xAA ∷ []) picture (0xAB ∷ []) → ⊥
unfolding chunks_of
example_other_data h = let e : 0xAA ≡ 0xAB = λ j. get_or (get_or (h.rest.chunks j) 8 []) 0 0 in absurd (omega (arith, e))

-- ---- a gain map without data has no item: its own fields are those that are taken for it, and no configuration is written
abbrev with_gain_map : CodecTypes → MiniGainMap → MinimizedImage
with_gain_map c g = record picture { explicit_codec_types = Some c; width = 3; height = 2; hdr = true; has_gain_map = true; gain_map = g }

abbrev ten_bits : MiniGainMap
ten_bits = record blank_gain_map { width = 7; height = 9; matrix_coefficients = 5; full_range = true; format = Integer 10 }

pub example_normal : normal (with_gain_map (types 0x61763143) ten_bits) (0xAA ∷ [])
    ≡ with_gain_map (types 0) (record blank_gain_map { width = 3; height = 2; format = Integer 8 })
unfolding normal
example_normal = refl
