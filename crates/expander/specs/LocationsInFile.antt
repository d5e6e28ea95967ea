-- Where the items' bytes lie, read from a file's bytes alone (document 01, 'The equivalent file': 'An item's location is its iloc offset,
-- counted from the file's first byte, and its length'; ISO/IEC 14496-12, 8.11.1 and 8.11.3). The boxes are walked as the box layer reads
-- them, 'meta' is found among those of the file and 'iloc' among those of 'meta', and its entries are read.
use Rattle.std.specs.Prelude.{◌≡◌, Bool, cond, ◌&&◌, List, [], ◌∷◌, ℕ, ◌+◌, eqb, leb, ltb, length}
use Rattle.boxes.specs.declared.BoxHeader.{BoxHeader}
use Rattle.items.specs.ItemBytes.{ItemBytes, item_data, own, Leads}
use Rattle.items.specs.ItemLocations.{Location, Every, iloc_body}
use Rattle.items.specs.OneLocation.{locations_of}
use Rattle.items.specs.ReadLocations.{read_locations}
use Rattle.slots.specs.Associations.{one}
use Rattle.boxes.specs.Walk.{walk, find, payload}

abbrev pub META : ℕ
META = 0x6D657461

abbrev pub ILOC : ℕ
ILOC = 0x696C6F63

abbrev pub MDAT : ℕ
MDAT = 0x6D646174

unfoldable pub meta_in : List ℕ → List ℕ
meta_in f = payload f (find META (walk f 0))

-- its boxes follow the four bytes of its version and flags
unfoldable pub iloc_in : List ℕ → List ℕ
iloc_in f =
    let m = meta_in f in
    payload m (find ILOC (walk m 4))

unfoldable pub locations_in : List ℕ → List Location
locations_in f = read_locations (iloc_in f)

-- 'mdat', whose payload is the content
unfoldable pub content_in : List ℕ → BoxHeader
content_in f = find MDAT (walk f 0)

-- ---- which locations hold a byte
-- byte p is one of the `len` bytes from `at` on
abbrev pub lies : (p at len : ℕ) → Bool
lies p at len = leb at p && ltb p (at + len)

-- how many locations of a list hold byte p
abbrev pub holders : ℕ → List Location → ℕ
holders p [] = 0
holders p (l ∷ ls) = one (lies p l.off l.len) + holders p ls

-- ---- demand 3: 'In the expanded file each item's location leads to exactly its own bytes, each byte of mdat's content lies in exactly
-- one location, and no location holds a byte outside that content'
pub record EveryByte (b : ItemBytes) (f : List ℕ) : Type 0 where
  -- 'iloc' holds these locations and nothing else: version 1, one extent of the file for each, offset and length of four bytes
  pub entries : iloc_in f ≡ iloc_body (locations_in f)
  -- each location leads to exactly its item's own bytes
  pub leads : Every (Leads b f) (locations_in f)
  -- a number has one location if it is that of an item with bytes of its own, else none
  pub once : (id : ℕ) → length (locations_of id (locations_in f)) ≡ cond (eqb (length (own b id)) 0) 0 1
  -- a byte of the content is in exactly one location, any other in none
  pub held : (p : ℕ) → holders p (locations_in f) ≡ one (lies p (content_in f).payload_start (content_in f).payload_len)
  -- the content is the items' bytes, one item after another
  pub content : payload f (content_in f) ≡ item_data b
  -- and ends the file
  pub ends : (content_in f).payload_start + (content_in f).payload_len ≡ length f
