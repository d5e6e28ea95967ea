-- What a file carries, read from any bytes by walking their boxes: nothing of the record is known.
use Rattle.std.specs.Prelude.{cond, List, [], ◌∷◌, map, ℕ, eqb, length}
use Rattle.boxes.specs.BoxesIn.{boxes_in, body_of}
use Rattle.boxes.specs.Walk.{Box, bytes_of}
use Rattle.octets.specs.declared.Span.{Span}
use Rattle.mini.specs.Same.{span_bytes}
use Rattle.items.specs.ItemBytes.{ItemBytes}
use Rattle.items.specs.ItemLocations.{Location}
use Rattle.items.specs.OneLocation.{locations_of}
use Rattle.mini.specs.ItemKind.{MAIN, ALPHA, TMAP, GAIN_MAP, EXIF, XMP}
use Rattle.slots.specs.Slots.{Slot, none, some}
use Rattle.expander.specs.LocationsInFile.{meta_in, locations_in}
use Rattle.carried.specs.Carried.{Carried}
use Rattle.carried.specs.ReadItems.{items_in}

-- ---- the boxes of 'meta' and of 'iprp'
abbrev pub IINF : ℕ
IINF = 0x69696E66

abbrev pub IREF : ℕ
IREF = 0x69726566

abbrev pub IPRP : ℕ
IPRP = 0x69707270

abbrev pub IPCO : ℕ
IPCO = 0x6970636F

-- those of 'meta' follow the four bytes of its version and flags
abbrev pub iprp_in : List ℕ → List ℕ
iprp_in f = body_of IPRP (meta_in f) 4

unfoldable pub ipco_in : List ℕ → List ℕ
ipco_in f = body_of IPCO (iprp_in f) 0

-- ---- the slots: one is unused if its box is empty, whatever its type, since a codec configuration may have the type 'free'
abbrev pub slot_in : Box → Slot
slot_in b = cond (eqb (length b.body) 0) none (some (bytes_of b))

unfoldable pub slots_in : List ℕ → List Slot
slots_in body = map slot_in (boxes_in body 0)

-- ---- the items' bytes: those at the first location of the item's number, none where it has none
abbrev pub first_span : List Location → Span
first_span [] = record { at = 0; len = 0 }
first_span (l ∷ ls) = record { at = l.off; len = l.len }

abbrev pub located : List ℕ → ℕ → List ℕ
located f id = span_bytes (first_span (locations_of id (locations_in f))) f

unfoldable pub item_bytes_in : List ℕ → ItemBytes
item_bytes_in f =
    record {
      alpha = located f ALPHA;
      tone_map = located f TMAP;
      gain_map = located f GAIN_MAP;
      main = located f MAIN;
      exif = located f EXIF;
      xmp = located f XMP;
    }

-- ---- all of it
unfoldable pub carried_in : List ℕ → Carried
carried_in f =
    let m = meta_in f in
    record { items = items_in (body_of IINF m 4) (body_of IREF m 4); slots = slots_in (ipco_in f); bytes = item_bytes_in f }
