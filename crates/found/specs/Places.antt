-- Where the bodies of properties and the bytes of items lie in a file, an equivalent file or not: places are counted from its first byte.
use Rattle.std.specs.Prelude.{List, ℕ, ◌+◌, ◌-◌, get_or}
use Rattle.boxes.specs.Header.{blank}
use Rattle.boxes.specs.Walk.{find, walk}
use Rattle.boxes.specs.declared.BoxHeader.{BoxHeader}
use Rattle.items.specs.OneLocation.{locations_of}
use Rattle.expander.specs.LocationsInFile.{META, meta_in, locations_in}
use Rattle.carried.specs.ReadFile.{IPRP, IPCO, iprp_in, ipco_in, first_span}

-- where the body of the first box of a type begins, of those from `at` on; 0 where there is none
abbrev pub place_of : ℕ → List ℕ → ℕ → ℕ
place_of type s at = (find type (walk s at)).payload_start

-- 'ipco' lies in 'iprp', and this in 'meta', whose boxes follow the four bytes of its version and flags
abbrev pub ipco_place : List ℕ → ℕ
ipco_place f = place_of META f 0 + (place_of IPRP (meta_in f) 4 + place_of IPCO (iprp_in f) 0)

-- the header of the slot numbered k, from 1 on, in the body of 'ipco'
abbrev pub slot_header : List ℕ → ℕ → BoxHeader
slot_header body k = get_or (walk body 0) (k - 1) blank

-- a slot's body
unfoldable pub slot_place : List ℕ → ℕ → ℕ
slot_place f k = ipco_place f + (slot_header (ipco_in f) k).payload_start

-- an item's bytes: its first location
unfoldable pub item_place : List ℕ → ℕ → ℕ
item_place f id = (first_span (locations_of id (locations_in f))).at
