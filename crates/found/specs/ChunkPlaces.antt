-- Where the chunks of a record lie in a file that is its source (document 02, 3): each within it, where the file holds its bytes, that is in the body
-- of its slot or at its item's location, and empty ones at 0. A profile follows the four bytes of its type 'prof', the gain map's metadata the
-- first byte of the tone map's item.
use Rattle.std.specs.Prelude.{◌≡◌, cond, List, ℕ, ◌+◌, ◌≤◌, eqb, length, Option, Some, None}
use Rattle.mini.specs.ItemKind.{MAIN, ALPHA, TMAP, GAIN_MAP, EXIF, XMP}
use Rattle.mini.specs.declared.MiniGainMap.{MiniGainMap}
use Rattle.mini.specs.declared.MinimizedImage.{MinimizedImage}
use Rattle.octets.specs.declared.Span.{Span}
use Rattle.found.specs.Places.{slot_place, item_place}

abbrev pub SpanAt : ℕ → Span → List ℕ → Type 0
SpanAt place x f = (x.at ≡ cond (eqb x.len 0) 0 place) × (x.at + x.len ≤ length f)

abbrev pub ChunkAt : ℕ → Option Span → List ℕ → Type 0
ChunkAt place None f = Unit
ChunkAt place (Some x) f = SpanAt place x f

pub record GainMapPlaces (g : MiniGainMap) (f : List ℕ) : Type 0 where
  pub codec_config : ChunkAt (slot_place f 17) g.codec_config f
  pub tmap_icc : ChunkAt (slot_place f 23 + 4) g.tmap_icc f
  pub metadata : SpanAt (item_place f TMAP + 1) g.metadata f
  pub «data» : SpanAt (item_place f GAIN_MAP) g.«data» f

pub record ChunkPlaces (i : MinimizedImage) (f : List ℕ) : Type 0 where
  pub main_codec_config : SpanAt (slot_place f 1) i.main_codec_config f
  pub alpha_codec_config : ChunkAt (slot_place f 6) i.alpha_codec_config f
  pub gain_map : GainMapPlaces i.gain_map f
  pub icc : ChunkAt (slot_place f 5 + 4) i.icc f
  pub alpha_data : SpanAt (item_place f ALPHA) i.alpha_data f
  pub main_data : SpanAt (item_place f MAIN) i.main_data f
  pub exif : ChunkAt (item_place f EXIF) i.exif f
  pub xmp : ChunkAt (item_place f XMP) i.xmp f
