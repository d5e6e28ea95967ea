-- Slots are found again by walking their bytes, if each is a box of its own that is empty exactly where the slot is unused.
use Rattle.std.specs.Prelude.{◌≡◌, refl, Bool, true, false, List, [], ◌∷◌, ◌++◌, map, ℕ, zero, suc, ◌<◌, length, replicate}
use Rattle.std.proofs.Common.{arith, ne_eqb}
use Rattle.std.proofs.lemmas.List.{map-append}
use Rattle.boxes.specs.Boxed.{boxed, length-boxed}
use Rattle.boxes.specs.BoxesIn.{boxes_again}
use Rattle.boxes.specs.Walk.{Box, joined, typed, All, next, all_append, joined-append}
use Rattle.boxes.specs.Walk as walk
use Rattle.slots.specs.SlotLaws.{slots-append}
use Rattle.slots.specs.Slots.{Slot, none, some, free, only_if, if_there, slots_bytes}
use Rattle.expander.specs.EveryByte.{box}
use Rattle.carried.specs.ReadFile.{slot_in, slots_in}

-- ---- slots whose bytes are boxes, from which they are read again
pub record Again (xs : List Slot) : Type 0 where
  pub boxes : List Box
  pub bytes : slots_bytes xs ≡ joined boxes
  pub same : map slot_in boxes ≡ xs
  pub kinds : All (λ (b : Box). typed b ≡ true) boxes

pub slots_again : {xs : List Slot} → Again xs → length (slots_bytes xs) < 4294967296 → slots_in (slots_bytes xs) ≡ xs
unfolding slots_in
slots_again a n = rw (boxes_again [] a.boxes 0 a.bytes refl n a.kinds) a.same

infixl 20 ◌also◌
pub ◌also◌ : {xs ys : List Slot} → Again xs → Again ys → Again (xs ++ ys)
◌also◌ {xs} {ys} a b =
    record {
      boxes = a.boxes ++ b.boxes;
      bytes = rw (slots-append, joined-append, a.bytes, b.bytes);
      same = rw (map-append, a.same, b.same);
      kinds = all_append a.kinds b.kinds;
    }

infixr 30 ◌then◌
pub ◌then◌ : {x : Slot} {xs : List Slot} → Again (x ∷ []) → Again xs → Again (x ∷ xs)
◌then◌ a b = a also b

-- ---- one slot
pub no_slot : Again (none ∷ [])
unfolding slots_bytes free
no_slot = record { boxes = box 0x66726565 [] ∷ []; bytes = refl; same = refl; kinds = next refl walk.none }

pub slot : (type : ℕ) (body : List ℕ) → typed (box type body) ≡ true → 8 < length (boxed type body) → Again (some (boxed type body) ∷ [])
unfolding slots_bytes
slot type body t n =
    record {
      boxes = box type body ∷ [];
      bytes = refl;
      same = rw (ne_eqb (length body) 0 (λ e. omega (arith, length-boxed type body)));
      kinds = next t walk.none;
    }

pub slot_if : (t : Bool) (box : List ℕ) → (t ≡ true → Again (some box ∷ [])) → Again (only_if t box ∷ [])
slot_if true box h = h refl
slot_if false box h = no_slot

-- ---- unused ones
pub unused_again : (n : ℕ) → Again (replicate (suc n) none)
unused_again zero = no_slot
unused_again (suc n) = no_slot then unused_again n

pub there_again : (t : Bool) (x : Slot) (xs : List Slot) → Again (x ∷ xs) → Again (if_there t (x ∷ xs))
there_again true x xs a = a
there_again false x xs a = unused_again (length xs)
