-- The chunks of the record found lie in their places, whatever the bytes it is found in. So it is well placed in them.
use Rattle.std.specs.Prelude.{◌≡◌, refl, Bool, true, false, not, cond, ◌||◌, List, [], ◌∷◌, ℕ, ◌+◌, length, Option, Some, None}
use Rattle.std.proofs.Common.{arith, le-leb, length-drop, ne_eqb}
use Rattle.octets.specs.declared.Span.{Span}
use Rattle.boxes.specs.BoxesIn.{body_of}
use Rattle.mini.specs.Blank.{blank_gain_map}
use Rattle.mini.specs.Chunks.{chunk_if}
use Rattle.mini.specs.ItemKind.{MAIN, ALPHA, TMAP, GAIN_MAP, EXIF, XMP}
use Rattle.mini.specs.Same.{chunk_in, span_in, gain_in, well_placed}
use Rattle.mini.specs.declared.MiniGainMap.{MiniGainMap}
use Rattle.mini.specs.declared.MinimizedImage.{MinimizedImage}
use Rattle.expander.specs.LocationsInFile.{meta_in}
use Rattle.carried.specs.ReadFile.{IINF, IREF, item_bytes_in, carried_in}
use Rattle.carried.specs.ReadItems.{items_in}
use Rattle.normal_form.specs.ReadProperties.{span_of}
use Rattle.normal_form.specs.ReadRecord.{gain_map_in, record_in}
use Rattle.found.specs.ChunkPlaces.{SpanAt, ChunkAt, GainMapPlaces, ChunkPlaces}
use Rattle.found.specs.Found.{placed_span, placed_chunk, found_record}
use Rattle.found.specs.Places.{slot_place, item_place}
use Rattle.found.proofs.Held.{Held, held_none, held_drop, held_placed}
use Rattle.found.proofs.HeldInFile.{slot_held, item_held}

-- ---- those of the record found in any bytes do
module _ (f : List ℕ) where
  span_there : {at : ℕ} (b : List ℕ) → Held f at b → SpanAt at (placed_span at (span_of (length b))) f
  span_there [] h = (refl, omega arith)
  span_there (x ∷ b) h = (refl, rw (ne_eqb (length (x ∷ b)) 0 (λ e. omega arith)) (held_placed h (omega arith)))

  chunk_there : {at : ℕ} (t : Bool) (b : List ℕ) → Held f at b → ChunkAt at (placed_chunk at (chunk_if t (span_of (length b)))) f
  chunk_there true b h = span_there b h
  chunk_there false b h = tt

  abbrev placed_gain : MiniGainMap → MiniGainMap
  placed_gain g =
      record g {
        codec_config = placed_chunk (slot_place f 17) g.codec_config;
        tmap_icc = placed_chunk (slot_place f 23 + 4) g.tmap_icc;
        metadata = placed_span (item_place f TMAP + 1) g.metadata;
        «data» = placed_span (item_place f GAIN_MAP) g.«data»;
      }

  gain_map_there : (t : Bool) → GainMapPlaces (placed_gain (cond t (gain_map_in (carried_in f)) blank_gain_map)) f
  unfolding gain_map_in carried_in item_bytes_in
  gain_map_there true =
      record {
        codec_config = chunk_there _ _ (slot_held f 17);
        tmap_icc = chunk_there _ _ (held_drop 4 (slot_held f 23));
        metadata = rw length-drop at (span_there _ (held_drop 1 (item_held f TMAP)));
        «data» = span_there _ (item_held f GAIN_MAP);
      }
  gain_map_there false =
      record {
        codec_config = tt;
        tmap_icc = tt;
        metadata = span_there {at = item_place f TMAP + 1} [] held_none;
        «data» = span_there {at = item_place f GAIN_MAP} [] held_none;
      }

  pub found_places : ChunkPlaces (found_record f) f
  unfolding found_record record_in carried_in item_bytes_in
  found_places =
      record {
        main_codec_config = span_there _ (slot_held f 1);
        alpha_codec_config = chunk_there _ _ (slot_held f 6);
        gain_map = gain_map_there (items_in (body_of IINF (meta_in f) 4) (body_of IREF (meta_in f) 4)).tone_map;
        icc = chunk_there _ _ (held_drop 4 (slot_held f 5));
        alpha_data = span_there _ (item_held f ALPHA);
        main_data = span_there _ (item_held f MAIN);
        exif = chunk_there _ _ (item_held f EXIF);
        xmp = chunk_there _ _ (item_held f XMP);
      }

-- ---- so it is well placed
span_fits : (at : ℕ) (x : Span) (s : List ℕ) → SpanAt at x s → span_in x (length s) ≡ true
span_fits at x s h = le-leb (x.at + x.len) (length s) h.1

chunk_fits : (at : ℕ) (c : Option Span) (s : List ℕ) → ChunkAt at c s → chunk_in c (length s) ≡ true
chunk_fits at None s h = refl
chunk_fits at (Some x) s h = span_fits at x s h

gain_fits : (has : Bool) (i : MinimizedImage) (s : List ℕ) → GainMapPlaces i.gain_map s → (not has || gain_in i (length s)) ≡ true
gain_fits true i s h =
    let g = i.gain_map in
    rw (chunk_fits _ g.codec_config s h.codec_config, chunk_fits _ g.tmap_icc s h.tmap_icc, span_fits _ g.metadata s h.metadata, span_fits _ g.«data» s h.«data»)
gain_fits false i s h = refl

there_placed : (i : MinimizedImage) (s : List ℕ) → ChunkPlaces i s → well_placed i s ≡ true
unfolding well_placed
there_placed i s h =
    rw (
      span_fits _ i.main_codec_config s h.main_codec_config,
      chunk_fits _ i.alpha_codec_config s h.alpha_codec_config,
      gain_fits i.has_gain_map i s h.gain_map,
      chunk_fits _ i.icc s h.icc,
      span_fits _ i.alpha_data s h.alpha_data,
      span_fits _ i.main_data s h.main_data,
      chunk_fits _ i.exif s h.exif,
      chunk_fits _ i.xmp s h.xmp,
    )

pub found_placed : (f : List ℕ) → well_placed (found_record f) f ≡ true
found_placed f = there_placed (found_record f) f (found_places f)
