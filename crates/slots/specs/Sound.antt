-- What the writers of 'iprp' need of a record and its source: a number in its field, chunks that lie in the source, and lengths within
-- the long fields' limits (document 01, 'src/mini.rs, writing'). Every record that is well placed and can be written has it.
use Rattle.std.specs.Prelude.{◌≡◌, refl, Bool, true, false, not, ◌&&◌, ◌||◌, List, ℕ, ◌+◌, ◌≤◌, T, length, Option, Some, None, is_some}
use Rattle.std.proofs.Common.{ap, true≢false, leb→le}
use Rattle.bits.specs.Format.{and_split}
use Rattle.mini.specs.Blank.{blank_gain_map}
use Rattle.mini.specs.NoPayloadGives.{Lawful, lawful}
use Rattle.mini.specs.Same.{chunk_len, chunk_in, span_in, gain_in, unplaced_chunk, unplaced, well_placed}
use Rattle.mini.specs.Write.{writable}
use Rattle.mini.specs.declared.MiniGainMap.{MiniGainMap}
use Rattle.mini.specs.declared.MinimizedImage.{MinimizedImage}
use Rattle.octets.specs.declared.Span.{Span}
use Rattle.slots.specs.Slots.{config_or}

abbrev pub SpanPlaced : Span → List ℕ → Type 0
SpanPlaced x s = x.at + x.len ≤ length s

abbrev pub ChunkPlaced : Option Span → List ℕ → Type 0
ChunkPlaced None s = Unit
ChunkPlaced (Some x) s = SpanPlaced x s

-- the numbers
pub record Bounded (i : MinimizedImage) : Type 0 where
  pub oriented : (1 ≤ i.orientation) × (i.orientation ≤ 8)
  pub main_config_size : i.main_codec_config.len ≤ 4095
  pub alpha_config_size : chunk_len i.alpha_codec_config ≤ 4095
  pub gain_map_config_size : chunk_len i.gain_map.codec_config ≤ 4095
  pub icc_size : chunk_len i.icc ≤ 1048576
  pub tmap_icc_size : chunk_len i.gain_map.tmap_icc ≤ 1048576

pub record Sound (i : MinimizedImage) (s : List ℕ) : Type 0 where
  pub bounded : Bounded i
  pub main_config : SpanPlaced i.main_codec_config s
  pub alpha_config : ChunkPlaced i.alpha_codec_config s
  pub gain_map_config : ChunkPlaced i.gain_map.codec_config s
  pub icc_placed : ChunkPlaced i.icc s
  pub tmap_icc_placed : ChunkPlaced i.gain_map.tmap_icc s

-- ---- where it comes from
pub bounded_of : (i : MinimizedImage) → Lawful i → Bounded i
bounded_of i l =
    record {
      oriented = l.orientation;
      main_config_size = l.config_size.0;
      alpha_config_size = l.config_size.1;
      gain_map_config_size = l.config_size.2;
      icc_size = l.icc_size;
      tmap_icc_size = l.tmap_icc_size;
    }

pub placed_of : (c : Option Span) (s : List ℕ) → T (chunk_in c (length s)) → ChunkPlaced c s
placed_of None s h = tt
placed_of (Some x) s h = leb→le (x.at + x.len) (length s) h

-- a blank gain map has no chunk
absent_placed : (c : Option Span) (s : List ℕ) → unplaced_chunk c ≡ None → ChunkPlaced c s
absent_placed None s e = tt
absent_placed (Some x) s e = absurd (true≢false (ap is_some e))

gain_placed : (has : Bool) (i : MinimizedImage) (s : List ℕ) → (has ≡ false → (unplaced i).gain_map ≡ blank_gain_map) → T (not has || gain_in i (length s))
    → ChunkPlaced i.gain_map.codec_config s × ChunkPlaced i.gain_map.tmap_icc s
unfolding unplaced
gain_placed true i s b h =
    let n = length s in
    let g = i.gain_map in
    let w = and_split (chunk_in g.codec_config n) (chunk_in g.tmap_icc n && (span_in g.metadata n && span_in g.«data» n)) h in
    let v = and_split (chunk_in g.tmap_icc n) (span_in g.metadata n && span_in g.«data» n) w.1 in
    (placed_of g.codec_config s w.0, placed_of g.tmap_icc s v.0)
gain_placed false i s b h =
    let e = b refl in (
      absent_placed i.gain_map.codec_config s (ap (λ (g : MiniGainMap). g.codec_config) e),
      absent_placed i.gain_map.tmap_icc s (ap (λ (g : MiniGainMap). g.tmap_icc) e),
    )

pub sound : (i : MinimizedImage) (s : List ℕ) → T (well_placed i s) → T (writable i) → Sound i s
unfolding well_placed
sound i s p w =
    let n = length s in
    let l = lawful i w in
    let a = and_split (span_in i.main_codec_config n) _ p in
    let b = and_split (chunk_in i.alpha_codec_config n) _ a.1 in
    let c = and_split (not i.has_gain_map || gain_in i n) _ b.1 in
    let d = and_split (chunk_in i.icc n) _ c.1 in
    let g = gain_placed i.has_gain_map i s l.gain_blank c.0 in
    record {
      bounded = bounded_of i l;
      main_config = leb→le _ n a.0;
      alpha_config = placed_of i.alpha_codec_config s b.0;
      gain_map_config = g.0;
      icc_placed = placed_of i.icc s d.0;
      tmap_icc_placed = g.1;
    }

-- ---- the configuration of alpha or gain map
pub config_placed : (c : Option Span) (main : Span) (s : List ℕ) → ChunkPlaced c s → SpanPlaced main s → SpanPlaced (config_or c main) s
config_placed None main s p q = q
config_placed (Some own) main s p q = p

pub config_most : (c : Option Span) (main : Span) → chunk_len c ≤ 4095 → main.len ≤ 4095 → (config_or c main).len ≤ 4095
config_most None main p q = q
config_most (Some own) main p q = p
