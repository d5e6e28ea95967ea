-- Boxes one after another, read as types and bodies; what was written is what is read.
use Rattle.std.specs.Prelude.{◌≡◌, refl, Bool, true, false, cond, List, [], ◌∷◌, ◌++◌, map, ℕ, ◌+◌, ◌<◌, eqb, leb, length}
use Rattle.std.specs.List.{list_any}
use Rattle.std.proofs.Common.{sym, ap, ap₂, ◌∙◌, append_assoc, arith, length-append}
use Rattle.octets.specs.Part.{part_of}
use Rattle.boxes.specs.Boxed.{length-boxed}
use Rattle.boxes.specs.ReadBack.{payload_read}
use Rattle.boxes.specs.Walk.{Box, bytes_of, joined, All, none, next, Plain, typed, headers, find, payload, walk, walked, all_plain}
use Rattle.boxes.specs.declared.BoxHeader.{BoxHeader}

-- ---- reading
abbrev pub box_at : List ℕ → BoxHeader → Box
box_at s h = record { type = h.box_type; body = payload s h }

-- the boxes from `at` on
unfoldable pub boxes_in : List ℕ → ℕ → List Box
boxes_in s at = map (box_at s) (walk s at)

abbrev pub has_box : ℕ → List Box → Bool
has_box type bs = list_any (λ b. eqb b.type type) bs

-- the body of the first box of a type from `at` on, none where there is none
abbrev pub body_of : ℕ → List ℕ → ℕ → List ℕ
body_of type s at = payload s (find type (walk s at))

-- ---- it is that of the first of the boxes
abbrev pub first_body : ℕ → List Box → List ℕ
first_body type [] = []
first_body type (b ∷ bs) = cond (eqb b.type type) b.body (first_body type bs)

pub body_first : (type : ℕ) (s : List ℕ) (at : ℕ) → body_of type s at ≡ first_body type (boxes_in s at)
unfolding boxes_in part_of
body_first type s at = go (walk s at)
  where
    nothing : (t : Bool) (l : List ℕ) → cond t l l ≡ l
    nothing true l = refl
    nothing false l = refl

    this : (t : Bool) (h : BoxHeader) (hs : List BoxHeader) → payload s (find type hs) ≡ first_body type (map (box_at s) hs)
        → payload s (cond t h (find type hs)) ≡ cond t (payload s h) (first_body type (map (box_at s) hs))
    this true h hs e = refl
    this false h hs e = e

    go : (hs : List BoxHeader) → payload s (find type hs) ≡ first_body type (map (box_at s) hs)
    go [] = nothing (leb 0 (length s)) []
    go (h ∷ hs) = this (eqb h.box_type type) h hs (go hs)

-- ---- boxes that were written behind some bytes
each_read : (s pre : List ℕ) (bs : List Box) (at : ℕ) → s ≡ pre ++ joined bs → length pre ≡ at → All Plain bs → map (box_at s) (headers at bs) ≡ bs
each_read s pre [] at e l none = refl
each_read s pre (b ∷ bs) at e l (next p ps) =
    let head : part_of s (at + 8) (length b.body) ≡ b.body = rw (e, ← l) (payload_read pre b.type b.body (joined bs) p.0 p.1 p.2) in
    let place : length (pre ++ bytes_of b) ≡ at + (8 + length b.body) = omega (arith, length-append pre (bytes_of b), length-boxed b.type b.body) in
    let split : s ≡ (pre ++ bytes_of b) ++ joined bs = e ∙ sym (append_assoc pre (bytes_of b) (joined bs)) in
    ap₂ (λ (x : List ℕ) (l : List Box). record { type = b.type; body = x } ∷ l) head (each_read s (pre ++ bytes_of b) bs _ split place ps)

pub boxes_read : (pre : List ℕ) (bs : List Box) (at : ℕ) → length pre ≡ at → All Plain bs → boxes_in (pre ++ joined bs) at ≡ bs
unfolding boxes_in
boxes_read pre bs at l ps = rw (← l, walked pre bs ps) (each_read (pre ++ joined bs) pre bs (length pre) refl refl ps)

-- the same of all bytes that they are, if these are not too many
pub boxes_again : {whole : List ℕ} (pre : List ℕ) (bs : List Box) (at : ℕ) → whole ≡ pre ++ joined bs → length pre ≡ at → length whole < 4294967296
    → All (λ (b : Box). typed b ≡ true) bs → boxes_in whole at ≡ bs
boxes_again pre bs at e l n ts =
    rw e (boxes_read pre bs at l (all_plain bs ts (omega (arith, n, ap length e, length-append pre (joined bs)))))
