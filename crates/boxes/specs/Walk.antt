-- The boxes of a file or of a box's payload, one after another (ISO/IEC 14496-12, 4.2), as the box layer reads their headers; and that boxes
-- which are written are found again. Nothing here knows of pictures.
use Rattle.std.specs.Prelude.{◌≡◌, refl, Bool, true, false, not, cond, ◌&&◌, List, [], ◌∷◌, ◌++◌, ℕ, zero, suc, ◌+◌, ◌-◌, ◌≤◌, ◌<◌, eqb, ltb, length, None, Ok}
use Rattle.std.proofs.Common.{sym, ◌∙◌, true≢false, append-nil, append_assoc, arith, length-append, eq-eqb, ltb-true}
use Rattle.std.proofs.lemmas.Bool.{lt-leb, eqb-false, not-true}
use Rattle.octets.specs.Part.{part_of}
use Rattle.boxes.specs.Boxed.{boxed, length-boxed}
use Rattle.boxes.specs.Header.{UUID, blank, header_refusal, header_or_blank, header_at}
use Rattle.boxes.specs.ReadBack.{header_read, payload_read}
use Rattle.boxes.specs.declared.BoxHeader.{BoxHeader}

-- ---- reading
-- where the next box begins
abbrev pub after : BoxHeader → ℕ
after h = h.payload_start + h.payload_len

-- the headers of at most n boxes from `at` on, until one is refused: at the end of the bytes for want of a header
abbrev pub walk_up_to : ℕ → List ℕ → ℕ → List BoxHeader
walk_up_to zero s at = []
walk_up_to (suc n) s at =
    let r = header_at s at in
    cond (eqb (header_refusal r) 0) (header_or_blank r ∷ walk_up_to n s (after (header_or_blank r))) []

-- all of them: there are no more boxes than bytes (`walk_whole`)
unfoldable pub walk : List ℕ → ℕ → List BoxHeader
walk s at = walk_up_to (length s) s at

-- the first of a type; where there is none, the blank header, whose payload is empty
abbrev pub find : ℕ → List BoxHeader → BoxHeader
find type [] = blank
find type (h ∷ hs) = cond (eqb h.box_type type) h (find type hs)

-- the payload that a header spans
abbrev pub payload : List ℕ → BoxHeader → List ℕ
payload s h = part_of s h.payload_start h.payload_len

-- ---- written boxes
pub record Box : Type 0 where
  pub type : ℕ
  pub body : List ℕ

abbrev pub bytes_of : Box → List ℕ
bytes_of b = boxed b.type b.body

abbrev pub joined : List Box → List ℕ
joined [] = []
joined (b ∷ bs) = bytes_of b ++ joined bs

-- a type of four bytes that isn't 'uuid', and a size of four bytes
abbrev pub Plain : Box → Type 0
Plain b = (b.type < 4294967296) × (8 + length b.body < 4294967296) × (b.type ≡ UUID → ⊥)

pub data All (P : Box → Type 0) : List Box → Type 0 where
  none : All P []
  next : {b : Box} {bs : List Box} → P b → All P bs → All P (b ∷ bs)

-- the headers of boxes that are written from `at` on
abbrev pub header_of : Box → ℕ → BoxHeader
header_of b at =
    record { box_type = b.type; user_type = None; start = at; payload_start = at + 8; payload_len = length b.body }

abbrev pub headers : ℕ → List Box → List BoxHeader
headers at [] = []
headers at (b ∷ bs) = header_of b at ∷ headers (at + (8 + length b.body)) bs

-- ---- walking finds exactly the boxes that were written, in order
header-found : (pre : List ℕ) (b : Box) (post : List ℕ) → Plain b
    → header_at (pre ++ (bytes_of b ++ post)) (length pre) ≡ Ok (header_of b (length pre))
header-found pre b post p =
    let n : 8 + length b.body - 8 ≡ length b.body = omega arith in
    header_read pre b.type b.body post p.0 p.1 p.2 ∙ rw n

pub at_end : (n : ℕ) (s : List ℕ) (at : ℕ) → length s ≤ at → walk_up_to n s at ≡ []
unfolding header_at
at_end zero s at h = refl
at_end (suc n) s at h =
    let k : length s < at + 8 = omega arith in
    rw (lt-leb (at + 8) (length s) k)

walked_up_to : (n : ℕ) (bs : List Box) (pre : List ℕ) → length bs ≤ n → All Plain bs → walk_up_to n (pre ++ joined bs) (length pre) ≡ headers (length pre) bs
walked_up_to n [] pre h none = at_end n (pre ++ []) (length pre) (omega (arith, length-append pre []))
walked_up_to zero (b ∷ bs) pre h (next p ps) = absurd (omega arith)
walked_up_to (suc n) (b ∷ bs) pre h (next p ps) =
    let l : length (pre ++ bytes_of b) ≡ length pre + (8 + length b.body) = length-append pre (bytes_of b) ∙ rw (length-boxed b.type b.body) in
    let e : length pre + 8 + length b.body ≡ length (pre ++ bytes_of b) = omega (arith, l) in
    let ih : walk_up_to n ((pre ++ bytes_of b) ++ joined bs) (length (pre ++ bytes_of b)) ≡ headers (length (pre ++ bytes_of b)) bs =
    walked_up_to n bs (pre ++ bytes_of b) (omega arith) ps in
    rw (header-found pre b (joined bs) p, e, ← (append_assoc pre (bytes_of b) (joined bs)), ih, l)

fewer : (bs : List Box) → length bs ≤ length (joined bs)
fewer [] = omega arith
fewer (b ∷ bs) = omega (arith, length-append (bytes_of b) (joined bs), length-boxed b.type b.body, fewer bs)

pub walked : (pre : List ℕ) (bs : List Box) → All Plain bs → walk (pre ++ joined bs) (length pre) ≡ headers (length pre) bs
unfolding walk
walked pre bs ps = walked_up_to (length (pre ++ joined bs)) bs pre (omega (arith, length-append pre (joined bs), fewer bs)) ps

-- ---- and the first box of a type is found, with its body
pub all_append : {P : Box → Type 0} {xs ys : List Box} → All P xs → All P ys → All P (xs ++ ys)
all_append none k = k
all_append (next p h) k = next p (all_append h k)

-- a box that is written or not
abbrev pub box_if : Bool → Box → List Box
box_if on b = cond on (b ∷ []) []

pub all_if : {P : Box → Type 0} (on : Bool) (b : Box) → P b → All P (box_if on b)
all_if true b p = next p none
all_if false b p = none

pub joined-append : (xs ys : List Box) → joined (xs ++ ys) ≡ joined xs ++ joined ys
joined-append [] ys = refl
joined-append (x ∷ xs) ys = rw (joined-append xs ys, append_assoc)

pub joined_if : (on : Bool) (b : Box) → joined (box_if on b) ≡ cond on (bytes_of b) []
joined_if true b = append-nil (bytes_of b)
joined_if false b = refl

-- a box of another type
abbrev pub Other : ℕ → Box → Type 0
Other type b = eqb b.type type ≡ false

find_first : (before : List Box) (b : Box) (rest : List Box) (at : ℕ) → All (Other b.type) before
    → find b.type (headers at (before ++ (b ∷ rest))) ≡ header_of b (at + length (joined before))
find_first [] b rest at none =
    let z : at + length (joined []) ≡ at = omega arith in
    rw (eq-eqb b.type b.type refl, z)
find_first (x ∷ before) b rest at (next o os) =
    let l : at + (8 + length x.body) + length (joined before) ≡ at + length (bytes_of x ++ joined before) =
    omega (arith, length-append (bytes_of x) (joined before), length-boxed x.type x.body) in
    rw o (find_first before b rest (at + (8 + length x.body)) os ∙ rw l)

module _ (pre : List ℕ) (at : ℕ) (place : length pre ≡ at) (before : List Box) (b : Box) (rest : List Box)
    (plain : All Plain (before ++ (b ∷ rest))) (first : All (Other b.type) before) where
  abbrev bytes : List ℕ
  bytes = pre ++ joined (before ++ (b ∷ rest))

  pub box_found : find b.type (walk bytes at) ≡ header_of b (at + length (joined before))
  box_found = rw (← place, walked pre (before ++ (b ∷ rest)) plain) (find_first before b rest (length pre) first)

  this_plain : (bs : List Box) → All Plain (bs ++ (b ∷ rest)) → Plain b
  this_plain [] (next p ps) = p
  this_plain (x ∷ bs) (next p ps) = this_plain bs ps

  pub body_found : payload bytes (find b.type (walk bytes at)) ≡ b.body
  body_found =
      let p = this_plain before plain in
      let e : bytes ≡ (pre ++ joined before) ++ (bytes_of b ++ joined rest) = rw (joined-append before (b ∷ rest), append_assoc) in
      let l : at + length (joined before) ≡ length (pre ++ joined before) = omega (arith, length-append pre (joined before), place) in
      rw (box_found, e, l) (payload_read (pre ++ joined before) b.type b.body (joined rest) p.0 p.1 p.2)

-- ---- boxes that fit together fit each
abbrev pub typed : Box → Bool
typed b = ltb b.type 4294967296 && not (eqb b.type UUID)

both : (t u : Bool) → (t && u) ≡ true → (t ≡ true) × (u ≡ true)
both true u e = (refl, e)
both false u e = absurd (true≢false (sym e))

pub all_plain : (bs : List Box) → All (λ (b : Box). typed b ≡ true) bs → length (joined bs) < 4294967296 → All Plain bs
all_plain [] none h = none
all_plain (b ∷ bs) (next t ts) h =
    let n = length-boxed b.type b.body in
    let l = length-append (bytes_of b) (joined bs) in
    let w = both (ltb b.type 4294967296) (not (eqb b.type UUID)) t in
    let p : Plain b = (ltb-true _ _ w.0, omega (arith, n, l), eqb-false _ _ (not-true _ w.1)) in
    next p (all_plain bs ts (omega (arith, l)))
