-- What the writers of a file need of a record and its source; every record that is well placed and can be written has it. Assumes nothing.
use Rattle.std.specs.Prelude.{◌≡◌, refl, Bool, true, false, not, ◌&&◌, ◌||◌, List, [], ◌∷◌, ◌++◌, ℕ, ◌+◌, ◌≤◌, T, length, Option, Some, None}
use Rattle.std.proofs.lemmas.Bool.{false≢true}
use Rattle.std.proofs.Common.{sym, subst, arith, leb→le, length-append}
use Rattle.bits.specs.Format.{and_split}
use Rattle.items.specs.ItemBytes.{lengths_of}
use Rattle.items.specs.ItemGroup.{grpl_most}
use Rattle.items.specs.ItemInfo.{iinf_most}
use Rattle.items.specs.ItemLocations.{data_len, iloc_most}
use Rattle.items.specs.ItemReferences.{iref_most}
use Rattle.items.specs.Optional.{bytes_if, len_if, if_most}
use Rattle.mini.specs.NoPayloadGives.{lawful}
use Rattle.mini.specs.Same.{chunk_len, chunk_bytes, span_bytes, chunk_in, span_in, gain_in, well_placed}
use Rattle.mini.specs.Write.{writable}
use Rattle.mini.specs.declared.MinimizedImage.{MinimizedImage}
use Rattle.octets.specs.declared.Span.{Span}
use Rattle.slots.specs.Bounds.{iprp_most}
use Rattle.slots.specs.LengthLaws.{length_span}
use Rattle.slots.specs.Sound.{SpanPlaced, ChunkPlaced, Bounded, Sound, placed_of, sound}
use Rattle.expander.specs.EquivalentFile.{item_set, item_bytes, data_lengths, meta_body_len}

abbrev pub PlacedIf : Bool → Span → List ℕ → Type 0
PlacedIf on x s = on ≡ true → SpanPlaced x s

-- the items' bytes lie in the source
pub record DataPlaced (i : MinimizedImage) (s : List ℕ) : Type 0 where
  pub alpha : SpanPlaced i.alpha_data s
  pub metadata : PlacedIf i.has_gain_map i.gain_map.metadata s
  pub gain_map : PlacedIf i.has_gain_map i.gain_map.«data» s
  pub main : SpanPlaced i.main_data s
  pub exif : ChunkPlaced i.exif s
  pub xmp : ChunkPlaced i.xmp s

-- they are no more than their long fields can tell
pub record DataBounded (i : MinimizedImage) : Type 0 where
  pub alpha : i.alpha_data.len ≤ 268435455
  pub metadata : i.gain_map.metadata.len ≤ 1048575
  pub gain_map : i.gain_map.«data».len ≤ 268435455
  pub main : i.main_data.len ≤ 268435456
  pub exif : chunk_len i.exif ≤ 1048576
  pub xmp : chunk_len i.xmp ≤ 1048576

pub record Fit (i : MinimizedImage) (s : List ℕ) : Type 0 where
  pub properties : Sound i s
  pub placed : DataPlaced i s
  pub bounded : DataBounded i

-- ---- where it comes from
gain_placed : (has : Bool) (i : MinimizedImage) (s : List ℕ) → T (not has || gain_in i (length s))
    → PlacedIf has i.gain_map.metadata s × PlacedIf has i.gain_map.«data» s
gain_placed true i s h =
    let n = length s in
    let g = i.gain_map in
    let w = and_split (chunk_in g.codec_config n) (chunk_in g.tmap_icc n && (span_in g.metadata n && span_in g.«data» n)) h in
    let v = and_split (chunk_in g.tmap_icc n) (span_in g.metadata n && span_in g.«data» n) w.1 in
    let u = and_split (span_in g.metadata n) (span_in g.«data» n) v.1 in
    (λ e. leb→le _ n u.0, λ e. leb→le _ n u.1)
gain_placed false i s h = (λ e. absurd (false≢true e), λ e. absurd (false≢true e))

pub data_placed : (i : MinimizedImage) (s : List ℕ) → T (well_placed i s) → DataPlaced i s
unfolding well_placed
data_placed i s p =
    let n = length s in
    let a = and_split (span_in i.main_codec_config n) _ p in
    let b = and_split (chunk_in i.alpha_codec_config n) _ a.1 in
    let c = and_split (not i.has_gain_map || gain_in i n) _ b.1 in
    let d = and_split (chunk_in i.icc n) _ c.1 in
    let e = and_split (span_in i.alpha_data n) _ d.1 in
    let f = and_split (span_in i.main_data n) _ e.1 in
    let h = and_split (chunk_in i.exif n) (chunk_in i.xmp n) f.1 in
    let g = gain_placed i.has_gain_map i s c.0 in
    record {
      alpha = leb→le _ n e.0;
      metadata = g.0;
      gain_map = g.1;
      main = leb→le _ n f.0;
      exif = placed_of i.exif s h.0;
      xmp = placed_of i.xmp s h.1;
    }

pub fit : (i : MinimizedImage) (s : List ℕ) → T (well_placed i s) → T (writable i) → Fit i s
fit i s p w =
    let l = lawful i w in
    record {
      properties = sound i s p w;
      placed = data_placed i s p;
      bounded =
          record {
            alpha = l.alpha_size;
            metadata = l.metadata_size;
            gain_map = l.gain_size;
            main = l.main_size;
            exif = l.exif_size;
            xmp = l.xmp_size;
          };
    }

pub fit_of : (i : MinimizedImage) (s : List ℕ) → well_placed i s ≡ true → writable i ≡ true → Fit i s
fit_of i s p w = fit i s (subst T (sym p) tt) (subst T (sym w) tt)

-- mdat's content is at most 808,452,094 bytes
pub content_most : (i : MinimizedImage) → DataBounded i → data_len (data_lengths i) ≤ 808452094
unfolding data_lengths
content_most i b =
    omega (
      arith,
      b.alpha,
      b.metadata,
      b.gain_map,
      b.main,
      b.exif,
      b.xmp,
      if_most i.has_gain_map (1 + i.gain_map.metadata.len),
      if_most i.has_gain_map i.gain_map.«data».len,
    )

-- ---- the items' bytes are as many as the record says
length_chunk : (c : Option Span) (s : List ℕ) → ChunkPlaced c s → length (chunk_bytes c s) ≡ chunk_len c
length_chunk None s h = refl
length_chunk (Some x) s h = length_span x s h

length_tone_map : (on : Bool) (x : Span) (s : List ℕ) → PlacedIf on x s → length (bytes_if on ((0 ∷ []) ++ span_bytes x s)) ≡ len_if on (1 + x.len)
length_tone_map true x s h = simp length-append (omega (arith, length_span x s (h refl)))
length_tone_map false x s h = refl

length_span_if : (on : Bool) (x : Span) (s : List ℕ) → PlacedIf on x s → length (bytes_if on (span_bytes x s)) ≡ len_if on x.len
length_span_if true x s h = length_span x s (h refl)
length_span_if false x s h = refl

pub lengths_are : (i : MinimizedImage) (s : List ℕ) → DataPlaced i s → lengths_of (item_bytes i s) ≡ data_lengths i
unfolding item_bytes data_lengths
lengths_are i s p =
    let a = length_span i.alpha_data s p.alpha in
    let t = length_tone_map i.has_gain_map i.gain_map.metadata s p.metadata in
    let g = length_span_if i.has_gain_map i.gain_map.«data» s p.gain_map in
    let m = length_span i.main_data s p.main in
    let e = length_chunk i.exif s p.exif in
    let x = length_chunk i.xmp s p.xmp in
    λ j. record { alpha = a j; tone_map = t j; gain_map = g j; main = m j; exif = e j; xmp = x j }

-- ---- meta's length is bounded
pub meta_most : (i : MinimizedImage) → Bounded i → meta_body_len i ≤ 2110595
meta_most i b =
    let t = item_set i in
    omega (arith, iinf_most t, iref_most t, iprp_most i b, grpl_most t, iloc_most (data_lengths i))
