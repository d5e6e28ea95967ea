-- A header that walking finds, or the blank one, has its payload within the bytes: so the payload is as long as the header says.
use Rattle.std.proofs.Common.{◌≡◌, refl, Bool, true, false, cond, List, [], ◌∷◌, ℕ, zero, suc, ◌≤◌, eqb, leb, length, drop, get_or, arith, length-drop, length-take-le, eqb-true, le-leb}
use Rattle.octets.specs.Part.{part_of}
use Rattle.boxes.specs.Header.{blank, header_refusal, header_or_blank, header_at}
use Rattle.boxes.specs.Walk.{after, walk_up_to, walk, payload}
use Rattle.boxes.specs.WalkEnds.{advances}
use Rattle.boxes.specs.declared.BoxHeader.{BoxHeader}

pub length_payload : (s : List ℕ) (h : BoxHeader) → after h ≤ length s → length (payload s h) ≡ h.payload_len
unfolding part_of
length_payload s h k =
    let n : h.payload_len ≤ length (drop h.payload_start s) = simp length-drop (omega arith) in
    rw (le-leb _ _ k) (length-take-le h.payload_len (drop h.payload_start s) n)

pub empty_payload : (s : List ℕ) → payload s blank ≡ []
unfolding part_of
empty_payload s = go (leb 0 (length s))
  where
    go : (t : Bool) → ◌≡◌ {A = List ℕ} (cond t [] []) []
    go true = refl
    go false = refl

-- every header that is walked ends within
data AllWithin (s : List ℕ) : List BoxHeader → Type 0 where
  none : AllWithin s []
  next : {h : BoxHeader} {hs : List BoxHeader} → after h ≤ length s → AllWithin s hs → AllWithin s (h ∷ hs)

walked_within : (n : ℕ) (s : List ℕ) (at : ℕ) → AllWithin s (walk_up_to n s at)
walked_within zero s at = none
walked_within (suc n) s at = go (eqb (header_refusal (header_at s at)) 0) refl (walked_within n s (after (header_or_blank (header_at s at))))
  where
    go : (t : Bool) → eqb (header_refusal (header_at s at)) 0 ≡ t → {hs : List BoxHeader} → AllWithin s hs → AllWithin s (cond t (header_or_blank (header_at s at) ∷ hs) [])
    go true e more = next (advances s at (eqb-true _ 0 e)).1 more
    go false e more = none

nth_within : {s : List ℕ} {hs : List BoxHeader} → AllWithin s hs → (n : ℕ) → after (get_or hs n blank) ≤ length s
nth_within none n = omega arith
nth_within (next k more) zero = k
nth_within (next k more) (suc n) = nth_within more n

pub numbered_within : (s : List ℕ) (at n : ℕ) → after (get_or (walk s at) n blank) ≤ length s
unfolding walk
numbered_within s at n = nth_within (walked_within (length s) s at) n
