-- A file holds the bodies of its slots and the bytes of its items at their places: of any bytes.
use Rattle.std.specs.Prelude.{◌≡◌, refl, Bool, true, false, cond, List, [], ◌∷◌, map, ℕ, zero, suc, ◌-◌, leb, length, take, drop, get_or}
use Rattle.std.proofs.Common.{arith, ne_eqb}
use Rattle.octets.specs.Part.{part_of}
use Rattle.octets.specs.BigEndian.{be}
use Rattle.boxes.specs.Boxed.{box_header, boxed}
use Rattle.boxes.specs.BoxesIn.{box_at, boxes_in, body_of}
use Rattle.boxes.specs.Header.{blank}
use Rattle.boxes.specs.Walk.{find, payload, walk}
use Rattle.boxes.specs.declared.BoxHeader.{BoxHeader}
use Rattle.items.specs.OneLocation.{locations_of}
use Rattle.slots.specs.Slots.{none}
use Rattle.expander.specs.LocationsInFile.{META, meta_in, locations_in}
use Rattle.carried.specs.ReadFile.{IPRP, IPCO, ipco_in, slot_in, slots_in, first_span, located}
use Rattle.normal_form.specs.ReadProperties.{body_in, body_at}
use Rattle.found.specs.Places.{place_of, slot_header, slot_place, item_place}
use Rattle.found.proofs.Held.{Held, held_take, held_part, held_in}

-- ---- slots
slot_body : (type : ℕ) (body : List ℕ) → body_in (slot_in (record { type = type; body = body })) ≡ body
unfolding boxed box_header be
slot_body type [] = refl
slot_body type (x ∷ body) = rw (ne_eqb (length (x ∷ body)) 0 (λ e. omega arith))

nth_body : (s : List ℕ) (hs : List BoxHeader) (n : ℕ) → body_in (get_or (map slot_in (map (box_at s) hs)) n none) ≡ payload s (get_or hs n blank)
unfolding part_of
nth_body s [] n = nothing (leb 0 (length s))
  where
    nothing : (t : Bool) → [] ≡ cond t (take 0 (drop 0 s)) []
    nothing true = refl
    nothing false = refl
nth_body s (h ∷ hs) zero = slot_body h.box_type (payload s h)
nth_body s (h ∷ hs) (suc n) = nth_body s hs n

body_held : (type : ℕ) (s : List ℕ) (at : ℕ) → Held s (place_of type s at) (body_of type s at)
body_held type s at = held_part s (place_of type s at) (find type (walk s at)).payload_len

nth_held : (s : List ℕ) (k : ℕ) → Held s (slot_header s k).payload_start (body_at k (slots_in s))
unfolding slots_in boxes_in
nth_held s k =
    let h = slot_header s k in
    rw (nth_body s (walk s 0) (k - 1)) (held_part s h.payload_start h.payload_len)

pub slot_held : (f : List ℕ) (k : ℕ) → Held f (slot_place f k) (body_at k (slots_in (ipco_in f)))
unfolding slot_place meta_in ipco_in
slot_held f k =
    let m = meta_in f in
    held_in (held_in (body_held META f 0) (held_in (body_held IPRP m 4) (body_held IPCO (body_of IPRP m 4) 0))) (nth_held (ipco_in f) k)

-- ---- items
pub item_held : (f : List ℕ) (id : ℕ) → Held f (item_place f id) (located f id)
unfolding item_place
item_held f id = let x = first_span (locations_of id (locations_in f)) in held_take f x.at x.len
