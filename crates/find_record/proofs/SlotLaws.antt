-- What the slots of 'ipco' say, by the headers of its boxes: a slot's body is its box's payload, it is used where that is not empty, and its
-- type is then the box's.
use Rattle.std.proofs.Common.{◌≡◌, refl, sym, ◌∙◌, Bool, true, false, not, cond, List, [], ◌∷◌, map, ℕ, zero, suc, ◌+◌, ◌-◌, ◌<◌, ◌^◌, eqb, length, get_or, append_assoc, drop_at, eqb-true}
use Rattle.std.proofs.lemmas.List.{nil_from_length}
use Rattle.octets.specs.BigEndian.{be}
use Rattle.octets.specs.BigEndianLaws.{length-be, field_at}
use Rattle.boxes.specs.Boxed.{boxed, box_header, length-box_header}
use Rattle.boxes.specs.BoxesIn.{box_at, boxes_in}
use Rattle.boxes.specs.Header.{blank}
use Rattle.boxes.specs.Walk.{Box, payload, walk}
use Rattle.boxes.specs.declared.BoxHeader.{BoxHeader}
use Rattle.slots.specs.Slots.{none, some, is_used}
use Rattle.carried.specs.ReadFile.{slot_in, slots_in}
use Rattle.normal_form.specs.ReadProperties.{slot_at, body_in, type_in, body_at}
use Rattle.found.specs.Places.{slot_header}
use Rattle.find_record.proofs.Within.{empty_payload, length_payload, numbered_within}

-- ---- one box
body_of_box : (b : Box) → body_in (slot_in b) ≡ b.body
unfolding boxed
body_of_box b = go (eqb (length b.body) 0) refl
  where
    go : (t : Bool) → eqb (length b.body) 0 ≡ t → body_in (cond t none (some (boxed b.type b.body))) ≡ b.body
    go true e = sym (nil_from_length b.body (eqb-true _ 0 e))
    go false e = drop_at (box_header b.type (length b.body)) b.body 8 (length-box_header b.type (length b.body))

type_of_box : (b : Box) → b.type < 256 ^ 4 → type_in (slot_in b) ≡ cond (eqb (length b.body) 0) 0 b.type
unfolding boxed box_header
type_of_box b h = go (eqb (length b.body) 0)
  where
    go : (t : Bool) → type_in (cond t none (some (boxed b.type b.body))) ≡ cond t 0 b.type
    go true = refl
    go false = simp append_assoc (field_at 4 b.type (be 4 (8 + length b.body)) b.body 4 (length-be 4 (8 + length b.body)) h)

used_of_box : (b : Box) → is_used (slot_in b) ≡ not (eqb (length b.body) 0)
used_of_box b = go (eqb (length b.body) 0)
  where
    go : (t : Bool) → is_used (cond t none (some (boxed b.type b.body))) ≡ not t
    go true = refl
    go false = refl

-- ---- the box numbered n; past the last one there is the blank header, and no slot
nth_slot : (s : List ℕ) (hs : List BoxHeader) (n : ℕ) → get_or (map slot_in (map (box_at s) hs)) n none ≡ slot_in (box_at s (get_or hs n blank))
nth_slot s [] n = sym (rw (empty_payload s) refl)
nth_slot s (h ∷ hs) zero = refl
nth_slot s (h ∷ hs) (suc n) = nth_slot s hs n

slot_of_header : (body : List ℕ) (k : ℕ) → slot_at k (slots_in body) ≡ slot_in (box_at body (slot_header body k))
unfolding slots_in boxes_in
slot_of_header body k = nth_slot body (walk body 0) (k - 1)

module _ (body : List ℕ) (k : ℕ) where
  pub slot_body : body_at k (slots_in body) ≡ payload body (slot_header body k)
  slot_body = rw (slot_of_header body k) (body_of_box _)

  slot_len : length (payload body (slot_header body k)) ≡ (slot_header body k).payload_len
  slot_len = length_payload body (slot_header body k) (numbered_within body 0 (k - 1))

  pub slot_body_len : length (body_at k (slots_in body)) ≡ (slot_header body k).payload_len
  slot_body_len = rw slot_body slot_len

  pub slot_used : is_used (slot_at k (slots_in body)) ≡ not (eqb (slot_header body k).payload_len 0)
  slot_used = rw (slot_of_header body k, used_of_box, slot_len)

  pub slot_type : (slot_header body k).box_type < 2 ^ 32 → type_in (slot_at k (slots_in body)) ≡ cond (eqb (slot_header body k).payload_len 0) 0 (slot_header body k).box_type
  slot_type h = rw (slot_of_header body k) (type_of_box _ h ∙ rw slot_len)
