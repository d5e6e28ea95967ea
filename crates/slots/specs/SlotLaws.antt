-- Laws of the slots: how they are joined, how many there are, and which are used.
use Rattle.std.specs.Prelude.{◌≡◌, refl, Bool, true, false, cond, ◌&&◌, List, [], ◌∷◌, ◌++◌, map, ℕ, zero, suc, ◌+◌, length, replicate, Option, Some, None, is_some}
use Rattle.std.specs.Bool.{then_some}
use Rattle.std.proofs.Common.{sym, ap, ◌∙◌, append-nil, append_assoc, add-zero, length-append}
use Rattle.std.proofs.lemmas.List.{length-replicate}
use Rattle.octets.specs.Overwrite.{Wrote}
use Rattle.octets.specs.OverwriteLaws.{then, recast}
use Rattle.mini.specs.declared.MiniHdrBoxes.{MiniHdrBoxes}
use Rattle.mini.specs.declared.MinimizedImage.{MinimizedImage}
use Rattle.properties.specs.declared.hdr_boxes.HdrBox.{HdrBox}
use Rattle.slots.specs.Associations.{used_by}
use Rattle.slots.specs.Used.{used_if, main_used, alpha_used, orientation_used, hdr_used, gain_map_used, tmap_used, used_slots}
use Rattle.slots.specs.Slots.{Slot, none, is_used, free, slot_bytes, only_if, if_there, has_alpha_item, has_gain_map_item, turn_slot, hdr_slot, main_slots, alpha_slots, orientation_slots, hdr_slots, gain_map_slots, tmap_slots, picture_slots, tone_map_slots, slots, slots_bytes}

-- ---- joined
pub slots-append : (xs ys : List Slot) → slots_bytes (xs ++ ys) ≡ slots_bytes xs ++ slots_bytes ys
unfolding slots_bytes
slots-append [] ys = refl
slots-append (x ∷ xs) ys = ap (λ (l : List ℕ). slot_bytes x ++ l) (slots-append xs ys) ∙ sym (append_assoc (slot_bytes x) (slots_bytes xs) (slots_bytes ys))

-- slots written one after another
pub then_slots : {o o₁ o₂ : List ℕ} {a a₁ a₂ n m : ℕ} (xs ys : List Slot) → Wrote o a n (slots_bytes xs) o₁ a₁ → Wrote o₁ a₁ m (slots_bytes ys) o₂ a₂
    → Wrote o a (n + m) (slots_bytes (xs ++ ys)) o₂ a₂
then_slots xs ys p q = recast (then p q) (sym (slots-append xs ys))

-- the last slot of a list
pub ended : {o o' : List ℕ} {a n r : ℕ} {bs : List ℕ} → Wrote o a n bs o' r → Wrote o a (n + 0) (bs ++ []) o' r
ended {o} {o'} {a} {n} {r} {bs} w = rw add-zero (recast w (sym (append-nil bs)))

-- the same count under another name
pub recount : {o o' : List ℕ} {a n m r : ℕ} {bs : List ℕ} → Wrote o a n bs o' r → n ≡ m → Wrote o a m bs o' r
recount w e = rw e at w

-- one more unused slot
pub unused_more : (n : ℕ) → slots_bytes (replicate n none) ++ free ≡ slots_bytes (replicate (suc n) none)
unfolding slots_bytes
unused_more zero = sym (append-nil free)
unused_more (suc n) = append_assoc free (slots_bytes (replicate n none)) free ∙ ap (λ (l : List ℕ). free ++ l) (unused_more n)

pub and-true : (t : Bool) → (t && true) ≡ t
and-true true = refl
and-true false = refl

-- ---- there are 32
length_there : (t : Bool) (l : List Slot) → length (if_there t l) ≡ length l
length_there true l = refl
length_there false l = length-replicate (length l) none

pub length-slots : (i : MinimizedImage) (s : List ℕ) → length (slots i s) ≡ 32
unfolding slots picture_slots tone_map_slots main_slots alpha_slots orientation_slots hdr_slots gain_map_slots tmap_slots
length-slots i s = simp (length-append, length_there)

-- ---- as one list
-- a slot that is unused where its item is missing
abbrev pub gate : Bool → Slot → Slot
gate there x = cond there x none

there_is : (t : Bool) (l : List Slot) → if_there t l ≡ map (gate t) l
there_is true [] = refl
there_is true (x ∷ l) = ap (λ (m : List Slot). x ∷ m) (there_is true l)
there_is false [] = refl
there_is false (x ∷ l) = ap (λ (m : List Slot). none ∷ m) (there_is false l)

-- whatever the record's flags are: slot k is found in it by computing
abbrev pub flat_slots : MinimizedImage → List ℕ → List Slot
flat_slots i s =
    (main_slots i s ++ map (gate (has_alpha_item i)) (alpha_slots i s) ++ orientation_slots i ++ hdr_slots i.hdr_boxes)
    ++ (map (gate (has_gain_map_item i)) (gain_map_slots i s) ++ map (gate i.has_gain_map) (tmap_slots i s)
    ++ map (gate i.has_gain_map) (hdr_slots i.gain_map.tmap_hdr) ++ replicate 3 none)

pub slots_flat : (i : MinimizedImage) (s : List ℕ) → slots i s ≡ flat_slots i s
unfolding slots picture_slots tone_map_slots
slots_flat i s = simp there_is

-- ---- which are used
pub used_only : (t : Bool) (box : List ℕ) → is_used (only_if t box) ≡ t
used_only true box = refl
used_only false box = refl

used_turn : (box : ℕ → List ℕ) (t : Option ℕ) → is_used (turn_slot box t) ≡ is_some t
used_turn box None = refl
used_turn box (Some turn) = refl

map-append : (xs ys : List Slot) → map is_used (xs ++ ys) ≡ map is_used xs ++ map is_used ys
map-append [] ys = refl
map-append (x ∷ xs) ys = ap (λ (l : List Bool). is_used x ∷ l) (map-append xs ys)

used_there : (t : Bool) (l : List Slot) → map is_used (if_there t l) ≡ used_if t (map is_used l)
used_there true [] = refl
used_there true (x ∷ l) = ap (λ (m : List Bool). is_used x ∷ m) (used_there true l)
used_there false [] = refl
used_there false (x ∷ l) = ap (λ (m : List Bool). false ∷ m) (used_there false l)

pub used_held : (t : Bool) (held : HdrBox) → is_used (hdr_slot (then_some t held)) ≡ t
used_held true held = refl
used_held false held = refl

used_hdr : (h : MiniHdrBoxes) → map is_used (hdr_slots h) ≡ hdr_used h
unfolding hdr_slots
used_hdr h = simp used_held

used_main : (i : MinimizedImage) (s : List ℕ) → map is_used (main_slots i s) ≡ main_used i
unfolding main_slots
used_main i s = simp used_only

used_alpha : (i : MinimizedImage) (s : List ℕ) → map is_used (alpha_slots i s) ≡ alpha_used i
unfolding alpha_slots
used_alpha i s = simp used_only

used_orientation : (i : MinimizedImage) → map is_used (orientation_slots i) ≡ orientation_used i
unfolding orientation_slots
used_orientation i = simp used_turn

used_gain_map : (i : MinimizedImage) (s : List ℕ) → map is_used (gain_map_slots i s) ≡ gain_map_used i
unfolding gain_map_slots
used_gain_map i s = simp used_only

used_tmap : (i : MinimizedImage) (s : List ℕ) → map is_used (tmap_slots i s) ≡ tmap_used i
unfolding tmap_slots
used_tmap i s = simp used_only

pub used_slots_lem : (i : MinimizedImage) (s : List ℕ) → used_by (slots i s) ≡ used_slots i
unfolding slots picture_slots tone_map_slots used_slots
used_slots_lem i s =
    simp (map-append, used_there, used_main, used_alpha, used_orientation, used_hdr, used_gain_map, used_tmap)
