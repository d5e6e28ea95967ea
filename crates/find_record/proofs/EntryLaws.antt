-- The entries of 'iinf', one box at a time.
use Rattle.std.proofs.Common.{◌≡◌, refl, sym, Bool, true, false, cond, ◌||◌, List, [], ◌∷◌, map, ℕ, eqb, get_or, Ok, Err}
use Rattle.octets.specs.BigEndian.{num}
use Rattle.boxes.specs.BoxesIn.{box_at, boxes_in, has_box}
use Rattle.boxes.specs.Header.{blank, header_at}
use Rattle.boxes.specs.Walk.{after, payload, walk, find}
use Rattle.boxes.specs.declared.BoxHeader.{BoxHeader}
use Rattle.boxes.specs.declared.HeaderError.{HeaderError}
use Rattle.carried.specs.ReadItems.{entry_of, entries_in, first_type}
use Rattle.find_record.proofs.WalkLaws.{one_on, no_more}
use Rattle.find_record.proofs.Within.{empty_payload}

module _ (s : List ℕ) (at : ℕ) where
  pub box_on : {h : BoxHeader} → Ok h ≡ header_at s at → boxes_in s at ≡ box_at s h ∷ boxes_in s (after h)
  unfolding boxes_in
  box_on read = rw (one_on s at read)

  pub no_box : {e : HeaderError} → Err e ≡ header_at s at → boxes_in s at ≡ []
  unfolding boxes_in
  no_box read = rw (no_more s at read)

pub first : (info : List ℕ) → first_type (entries_in info) ≡ num 4 (payload info (get_or (walk info 6) 0 blank)) 8
unfolding entries_in boxes_in num
first info = go (walk info 6)
  where
    go : (hs : List BoxHeader) → first_type (map entry_of (map (box_at info) hs)) ≡ num 4 (payload info (get_or hs 0 blank)) 8
    go [] = sym (rw (empty_payload info))
    go (h ∷ hs) = refl

-- 0 is the blank header's type
pub has : (type : ℕ) (s : List ℕ) (at : ℕ) → eqb 0 type ≡ false → has_box type (boxes_in s at) ≡ eqb (find type (walk s at)).box_type type
unfolding boxes_in
has type s at not_blank = go (walk s at)
  where
    this : (t : Bool) (h : BoxHeader) (hs : List BoxHeader) → eqb h.box_type type ≡ t → has_box type (map (box_at s) hs) ≡ eqb (find type hs).box_type type
        → (t || has_box type (map (box_at s) hs)) ≡ eqb (cond t h (find type hs)).box_type type
    this true h hs e more = sym e
    this false h hs e more = more

    go : (hs : List BoxHeader) → has_box type (map (box_at s) hs) ≡ eqb (find type hs).box_type type
    go [] = sym not_blank
    go (h ∷ hs) = this (eqb h.box_type type) h hs refl (go hs)
