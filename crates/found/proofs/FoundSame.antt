-- The record found in the file of a record that expands is that record's normal form, positions aside, with the same chunks.
use Rattle.std.specs.Prelude.{◌≡◌, refl, Bool, true, false, cond, List, [], ◌∷◌, ◌+◌, ℕ, eqb, length, take, drop, get_or, Option, Some, None}
use Rattle.std.proofs.Common.{eqb-true}
use Rattle.octets.specs.declared.Span.{Span}
use Rattle.mini.specs.ItemKind.{MAIN, ALPHA, TMAP, GAIN_MAP, EXIF, XMP}
use Rattle.mini.specs.NoPayloadGives.{lawful}
use Rattle.mini.specs.Same.{chunk_bytes, span_bytes, unplaced_chunk, unplaced_span, unplaced, chunks_of, Same}
use Rattle.mini.specs.declared.MinimizedImage.{MinimizedImage}
use Rattle.slots.specs.LengthLaws.{length_span}
use Rattle.slots.specs.Sound.{ChunkPlaced, sound}
use Rattle.expander.specs.EquivalentFile.{file}
use Rattle.expander.specs.Expands.{Expands, not_refused}
use Rattle.expander.specs.Placed.{PlacedIf, data_placed}
use Rattle.carried.specs.ReadFile.{ipco_in, slots_in, item_bytes_in, carried_in}
use Rattle.normal_form.specs.NormalForm.{normal}
use Rattle.normal_form.specs.ReadProperties.{slot_at, body_at, is_own_config, config_bytes}
use Rattle.normal_form.specs.ReadRecord.{chunks_in, record_in}
use Rattle.normal_form.proofs.NormalExpands.{normal_expands}
use Rattle.normal_form.proofs.OneFile.{record_found, chunks_found}
use Rattle.found.specs.Found.{placed_span, placed_chunk, found_record}
use Rattle.found.specs.Places.{slot_place, item_place}
use Rattle.found.proofs.Held.{Held, held_none, held_drop}
use Rattle.found.proofs.HeldInFile.{slot_held, item_held}

-- ---- the fields
moved : (at : ℕ) (c : Option Span) → unplaced_chunk (placed_chunk at (unplaced_chunk c)) ≡ unplaced_chunk c
moved at None = refl
moved at (Some x) = refl

found_fields : (f : List ℕ) (n : MinimizedImage) → record_in (carried_in f) ≡ unplaced n → unplaced (found_record f) ≡ unplaced n
unfolding found_record unplaced
found_fields f n e = rw e (simp moved)

-- ---- the file holds each chunk, in stored order
record ChunksHeld (f : List ℕ) (chunks : List (List ℕ)) : Type 0 where
  main_config : Held f (slot_place f 1) (get_or chunks 0 [])
  alpha_config : Held f (slot_place f 6) (get_or chunks 1 [])
  gain_map_config : Held f (slot_place f 17) (get_or chunks 2 [])
  icc : Held f (slot_place f 5 + 4) (get_or chunks 3 [])
  tmap_icc : Held f (slot_place f 23 + 4) (get_or chunks 4 [])
  metadata : Held f (item_place f TMAP + 1) (get_or chunks 5 [])
  alpha : Held f (item_place f ALPHA) (get_or chunks 6 [])
  gain_map : Held f (item_place f GAIN_MAP) (get_or chunks 7 [])
  main : Held f (item_place f MAIN) (get_or chunks 8 [])
  exif : Held f (item_place f EXIF) (get_or chunks 9 [])
  xmp : Held f (item_place f XMP) (get_or chunks 10 [])

module _ (f : List ℕ) where
  abbrev body : ℕ → List ℕ
  body k = body_at k (slots_in (ipco_in f))

  config_held : (k : ℕ) → Held f (slot_place f k) (config_bytes (slot_at k (slots_in (ipco_in f))) (body 1))
  config_held k = go (is_own_config (slot_at k (slots_in (ipco_in f))) (body 1))
    where
      go : (own : Bool) → Held f (slot_place f k) (cond own (body k) [])
      go true = slot_held f k
      go false = held_none

  chunks_held : ChunksHeld f (chunks_in (carried_in f))
  unfolding chunks_in carried_in item_bytes_in
  chunks_held =
      record {
        main_config = slot_held f 1;
        alpha_config = config_held 6;
        gain_map_config = config_held 17;
        icc = held_drop 4 (slot_held f 5);
        tmap_icc = held_drop 4 (slot_held f 23);
        metadata = held_drop 1 (item_held f TMAP);
        alpha = item_held f ALPHA;
        gain_map = item_held f GAIN_MAP;
        main = item_held f MAIN;
        exif = item_held f EXIF;
        xmp = item_held f XMP;
      }

-- ---- a chunk where the file holds its bytes
module _ (f s : List ℕ) {at : ℕ} where
  span_there : (x : Span) → length (span_bytes x s) ≡ x.len → Held f at (span_bytes x s) → span_bytes (placed_span at (unplaced_span x)) f ≡ span_bytes x s
  span_there x n h = go (eqb x.len 0) refl
    where
      go : (t : Bool) → eqb x.len 0 ≡ t → take x.len (drop (cond t 0 at) f) ≡ span_bytes x s
      go true e = let z = eqb-true x.len 0 e in rw z
      go false e = rw n at h.bytes

  chunk_there : (c : Option Span) → ChunkPlaced c s → Held f at (chunk_bytes c s) → chunk_bytes (placed_chunk at (unplaced_chunk c)) f ≡ chunk_bytes c s
  chunk_there None p h = refl
  chunk_there (Some x) p h = span_there x (length_span x s p) h

-- a chunk of a gain map, which is blank where it is absent
gain_length : (has : Bool) (x : Span) (s : List ℕ) → PlacedIf has x s → (has ≡ false → x.len ≡ 0) → length (span_bytes x s) ≡ x.len
gain_length true x s h e = length_span x s (h refl)
gain_length false x s h e = let z = e refl in rw z

module _ (i : MinimizedImage) (s : List ℕ) (major minor : ℕ) (brands : List ℕ) (x : Expands i s brands) where
  abbrev f : List ℕ
  f = file i s major minor brands

  abbrev n : MinimizedImage
  n = normal i s

  held : ChunksHeld f (chunks_of n s)
  held = rw (chunks_found i s brands (not_refused i s brands x) major minor) at (chunks_held f)

  found_chunks : chunks_of (found_record f) f ≡ chunks_of n s
  unfolding found_record chunks_of unplaced
  found_chunks =
      let z = normal_expands i s brands x in
      let l = lawful n z.can_write in
      let p = sound n s z.placed z.can_write in
      let d = data_placed n s z.placed in
      let g = n.gain_map in
      rw (record_found i s brands (not_refused i s brands x) major minor)
      (λ j.
      span_there f s n.main_codec_config (length_span n.main_codec_config s p.main_config) held.main_config j
      ∷ chunk_there f s n.alpha_codec_config p.alpha_config held.alpha_config j
      ∷ chunk_there f s g.codec_config p.gain_map_config held.gain_map_config j
      ∷ chunk_there f s n.icc p.icc_placed held.icc j
      ∷ chunk_there f s g.tmap_icc p.tmap_icc_placed held.tmap_icc j
      ∷ span_there f s g.metadata (gain_length n.has_gain_map g.metadata s d.metadata (λ e k. (l.gain_blank e k).metadata.len)) held.metadata j
      ∷ span_there f s n.alpha_data (length_span n.alpha_data s d.alpha) held.alpha j
      ∷ span_there f s g.«data» (gain_length n.has_gain_map g.«data» s d.gain_map (λ e k. (l.gain_blank e k).«data».len)) held.gain_map j
      ∷ span_there f s n.main_data (length_span n.main_data s d.main) held.main j
      ∷ chunk_there f s n.exif d.exif held.exif j
      ∷ chunk_there f s n.xmp d.xmp held.xmp j
      ∷ [])

  pub found_same : Same (found_record f) f n s
  found_same = record { fields = found_fields f n (record_found i s brands (not_refused i s brands x) major minor); chunks = found_chunks }
