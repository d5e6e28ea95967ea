-- The chunks that follow the header: ISO/IEC 23008-12 Amd 2, Annex O.3.2; document 01, 'The record and its order of bits'. Their sizes are
-- given in one order, and they lie in another.
use Rattle.std.specs.Prelude.{◌≡◌, refl, Bool, true, false, cond, ◌&&◌, List, [], ◌∷◌, ℕ, ◌+◌, leb, Option, Some, None}
use Rattle.mini.specs.Views.{SizeParts, sizes_from}
use Rattle.octets.specs.declared.Span.{Span}
use Rattle.mini.specs.declared.ChunkSpans.{ChunkSpans}
use Rattle.mini.specs.declared.ChunkSizes.{ChunkSizes}

-- the sizes as the header gives them
unfoldable pub given_sizes : ChunkSizes → List ℕ
given_sizes z =
    z.icc
    ∷ z.tmap_icc
    ∷ z.gain_map_metadata
    ∷ z.gain_map_data
    ∷ z.gain_map_codec_config
    ∷ z.main_codec_config
    ∷ z.main_data
    ∷ z.alpha_data
    ∷ z.alpha_codec_config
    ∷ z.exif
    ∷ z.xmp
    ∷ []

-- the sizes as the chunks lie
unfoldable pub stored_sizes : ChunkSizes → List ℕ
stored_sizes z =
    z.main_codec_config
    ∷ z.alpha_codec_config
    ∷ z.gain_map_codec_config
    ∷ z.icc
    ∷ z.tmap_icc
    ∷ z.gain_map_metadata
    ∷ z.alpha_data
    ∷ z.gain_map_data
    ∷ z.main_data
    ∷ z.exif
    ∷ z.xmp
    ∷ []

-- the part of len bytes behind another
abbrev pub span_behind : Span → ℕ → Span
span_behind x len = record { at = x.at + x.len; len = len }

-- where the chunks lie: the first at a place, each other behind the one before
unfoldable pub stored_spans : ChunkSizes → ℕ → ChunkSpans
stored_spans z at =
    let main_config : Span = record { at = at; len = z.main_codec_config } in
    let alpha_config = span_behind main_config z.alpha_codec_config in
    let gain_map_config = span_behind alpha_config z.gain_map_codec_config in
    let icc = span_behind gain_map_config z.icc in
    let tmap_icc = span_behind icc z.tmap_icc in
    let gain_map_metadata = span_behind tmap_icc z.gain_map_metadata in
    let alpha_data = span_behind gain_map_metadata z.alpha_data in
    let gain_map_data = span_behind alpha_data z.gain_map_data in
    let main_data = span_behind gain_map_data z.main_data in
    let exif = span_behind main_data z.exif in
    let xmp = span_behind exif z.xmp in
    record {
      main_codec_config = main_config;
      alpha_codec_config = alpha_config;
      gain_map_codec_config = gain_map_config;
      icc = icc;
      tmap_icc = tmap_icc;
      gain_map_metadata = gain_map_metadata;
      alpha_data = alpha_data;
      gain_map_data = gain_map_data;
      main_data = main_data;
      exif = exif;
      xmp = xmp;
    }

-- each of the chunks, laid one after another from a place on, ends within n bytes
unfoldable pub end_within : ℕ → ℕ → List ℕ → Bool
end_within n at [] = true
end_within n at (size ∷ sizes) = leb (at + size) n && end_within n (at + size) sizes

-- where the first of them begins that does not; where all do, their end
unfoldable pub first_past : ℕ → ℕ → List ℕ → ℕ
first_past n at [] = at
first_past n at (size ∷ sizes) = cond (leb (at + size) n) (first_past n (at + size) sizes) at

-- ---- a chunk of the record
abbrev pub chunk_if : Bool → Span → Option Span
chunk_if true x = Some x
chunk_if false x = None

-- one that is always there: at 0 where its owner is absent
abbrev pub span_if : Bool → Span → Span
span_if true x = x
span_if false x = record { at = 0; len = x.len }

-- ---- the order given is that of the header's fields
sizes_in : SizeParts → List ℕ
sizes_in (metadata, (config, (item, (a, (b, (c, (d, (e, (f, (g, (h, (i, (compressed, (j, k)))))))))))))) =
    a ∷ b ∷ c ∷ d ∷ e ∷ f ∷ g ∷ h ∷ i ∷ j ∷ k ∷ []

given_order_lem : (z : ChunkSizes) → sizes_in (sizes_from z) ≡ given_sizes z
unfolding sizes_in given_sizes
given_order_lem z = refl
