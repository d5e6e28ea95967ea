-- Where a file holds what its record is read from: which items it has, the body of 'ipco', and the bytes of the items.
use Rattle.std.specs.Prelude.{◌≡◌, List, ℕ, ◌+◌, ◌≤◌, ◌<◌, ◌^◌, length}
use Rattle.mini.specs.ItemKind.{MAIN, ALPHA, TMAP, GAIN_MAP, EXIF, XMP}
use Rattle.octets.specs.Part.{part_of}
use Rattle.octets.specs.declared.Span.{Span}
use Rattle.carried.specs.ReadFile.{ipco_in, located, carried_in}
use Rattle.found.specs.Places.{ipco_place, item_place}
use Rattle.find_record.specs.declared.held.Held.{Held}

pub record HoldsItem (f : List ℕ) (id : ℕ) (x : Span) : Type 0 where
  pub place : x.at ≡ item_place f id
  pub len : x.len ≡ length (located f id)
  pub ends : x.at + x.len < 2 ^ 64

pub record HoldsIpco (f : List ℕ) (x : Span) : Type 0 where
  pub place : x.at ≡ ipco_place f
  pub bytes : part_of f x.at x.len ≡ ipco_in f
  pub within : x.at + x.len ≤ length f

pub record Holds (f : List ℕ) (h : Held) : Type 0 where
  pub items : h.items ≡ (carried_in f).items
  pub ipco : HoldsIpco f h.ipco
  pub alpha : HoldsItem f ALPHA h.alpha
  pub tone_map : HoldsItem f TMAP h.tone_map
  pub gain_map : HoldsItem f GAIN_MAP h.gain_map
  pub main : HoldsItem f MAIN h.main
  pub exif : HoldsItem f EXIF h.exif
  pub xmp : HoldsItem f XMP h.xmp
