-- A box as bytes (ISO/IEC 14496-12, 4.2), and the laws of a body that is written before its header.
use Rattle.std.specs.Prelude.{◌≡◌, refl, List, [], ◌∷◌, ◌++◌, ℕ, ◌+◌, length}
use Rattle.std.proofs.Common.{◌∙◌, append-nil, arith, length-append}
use Rattle.octets.specs.BigEndian.{be}
use Rattle.octets.specs.BigEndianLaws.{length-be}
use Rattle.octets.specs.Overwrite.{overwrite, Wrote}
use Rattle.octets.specs.OverwriteLaws.{overwrite_before, lent, returned, in_part}

-- size and type, before a body of n bytes
unfoldable pub box_header : ℕ → ℕ → List ℕ
box_header type n = be 4 (8 + n) ++ be 4 type

-- a box
unfoldable pub boxed : ℕ → List ℕ → List ℕ
boxed type body = box_header type (length body) ++ body

-- version and flags, with which the body of a full box begins
unfoldable pub full_box_header : ℕ → ℕ → List ℕ
full_box_header version flags = (version ∷ []) ++ be 3 flags

-- the header of a body of n bytes was put at `at`, before the body, and the position after the body returned
pub record HeaderPut (out : List ℕ) (at n type : ℕ) (out' : List ℕ) (r : ℕ) : Type 0 where
  pub next : r ≡ at + (8 + n)
  pub left : out' ≡ overwrite out at (box_header type n)

-- ---- lengths
pub length-box_header : (type n : ℕ) → length (box_header type n) ≡ 8
unfolding box_header
length-box_header type n = simp (length-append, length-be)

pub length-boxed : (type : ℕ) (body : List ℕ) → length (boxed type body) ≡ 8 + length body
unfolding boxed
length-boxed type body = simp (length-append, length-box_header)

pub length-full_box_header : (version flags : ℕ) → length (full_box_header version flags) ≡ 4
unfolding full_box_header
length-full_box_header version flags = simp length-be

-- ---- a body written into the part after the eight bytes of its header, and then the header, is the box
pub in_box : (o : List ℕ) (at : ℕ) {n m r type : ℕ} {bs p o' : List ℕ}
    → Wrote (lent o (at + 8)) 0 n bs p m → HeaderPut (returned o (at + 8) p) at m type o' r → Wrote o at (8 + n) (boxed type bs) o' r
unfolding boxed
in_box o at {n} {m} {r} {type} {bs} {p} {o'} w h =
    let same : m ≡ length bs = omega (arith, w.next, w.size) in
    record {
      next = omega (arith, h.next, w.next);
      size = length-boxed type bs ∙ rw w.size;
      left = h.left ∙ (rw (in_part o (at + 8) w, ← length-box_header type m, overwrite_before, same));
    }

-- a header before no body is an empty box
pub empty_box : {o : List ℕ} {at r type : ℕ} {o' : List ℕ} → HeaderPut o at 0 type o' r → Wrote o at 8 (boxed type []) o' r
unfolding boxed
empty_box {o} {at} {r} {type} {o'} h = record { next = h.next; size = length-boxed type []; left = h.left ∙ rw append-nil }

-- by which `grind` sees that a body and then its header are one write of the box
pub overwrite_box : (o : List ℕ) (at type m : ℕ) (bs : List ℕ) → m ≡ length bs
    → overwrite (returned o (at + 8) (overwrite (lent o (at + 8)) 0 bs)) at (box_header type m) ≡ overwrite o at (boxed type bs)
overwrite_box o at type m bs e =
    let w : Wrote (lent o (at + 8)) 0 (length bs) bs (overwrite (lent o (at + 8)) 0 bs) m = record { next = omega arith; size = refl; left = refl } in
    let h : HeaderPut (returned o (at + 8) (overwrite (lent o (at + 8)) 0 bs)) at m type (overwrite (returned o (at + 8) (overwrite (lent o (at + 8)) 0 bs)) at (box_header type m)) (at + (8 + m)) =
    record { next = refl; left = refl } in
    (in_box o at w h).left

pub ruleset boxes = (overwrite_box, length-boxed)
