-- Laws that several proofs cite.
use Rattle.std.specs.Prelude.{◌≡◌, refl, Bool, cond, List, [], ◌∷◌, ◌++◌, map, ℕ, ◌+◌, ◌≤◌, ◌<◌, length, take, get_or, replicate, Option, None}
use Rattle.std.specs.List.{sum_by}
use Rattle.std.proofs.Common.{sym, append-nil, add-one, length-append}
use Rattle.std.proofs.lemmas.Simd.{map-map}
use Rattle.std.proofs.lemmas.List.Sums.{sum_by-cons, sum_by_more, sum_by_more_le}
use Rattle.octets.specs.OverwriteLaws.{nothing, overwrite_cons, overwrite-append}
use Rattle.boxes.specs.Boxed.{length-box_header}
use Rattle.mini.specs.Cut.{sum, joined_more}
use Rattle.properties.specs.declared.hdr_boxes.HdrBox.{HdrBox}
use Rattle.slots.specs.declared.associations.TheConstants.{MAIN_ROW, ALPHA_ROW, TMAP_ROW, GAIN_MAP_ROW}
use Rattle.slots.specs.Associations.{is_kept, kept, main_row, alpha_row, tmap_row, gain_map_row}
use Rattle.slots.specs.AssociationLaws.{kept_more, kept_room, length-kept}
use Rattle.slots.specs.Bounds.{kept_most, ipma-body_most}
use Rattle.slots.specs.Lengths.{hdr_slot_len}
use Rattle.slots.specs.SlotLaws.{slots-append, unused_more, and-true, used_slots_lem}
use Rattle.slots.specs.Slots.{none, free, slot_bytes, hdr_slot, slots_bytes}

-- slots written one after another
pub ruleset slot_writes = (overwrite_cons, overwrite-append, length-append, append-nil, slots-append)

pub no_slots : slots_bytes [] ≡ []
unfolding slots_bytes
no_slots = refl

-- a box without a body
pub ruleset empty = (append-nil, length-box_header)

-- one more unused slot
pub unused_step : (n : ℕ) → slots_bytes (replicate (n + 1) none) ≡ slots_bytes (replicate n none) ++ free
unused_step n = rw add-one (sym (unused_more n))

pub ruleset unused_writes = (nothing, overwrite-append, length-append, no_slots, unused_step)

-- one more HDR box
pub boxes_more : (boxes : List (Option HdrBox)) (i : ℕ) → i < length boxes
    → slots_bytes (map hdr_slot (take (i + 1) boxes)) ≡ slots_bytes (map hdr_slot (take i boxes)) ++ slot_bytes (hdr_slot (get_or boxes i None))
unfolding slots_bytes
boxes_more boxes i h = simp map-map (joined_more (λ held. slot_bytes (hdr_slot held)) boxes i None h)

pub len_more : (boxes : List (Option HdrBox)) (i : ℕ) → i < length boxes
    → sum_by hdr_slot_len (take (i + 1) boxes) ≡ sum_by hdr_slot_len (take i boxes) + hdr_slot_len (get_or boxes i None)
len_more boxes i h = sum_by_more hdr_slot_len boxes i None h

pub room : (boxes : List (Option HdrBox)) (i : ℕ) → i < length boxes
    → sum_by hdr_slot_len (take i boxes) + hdr_slot_len (get_or boxes i None) ≤ sum_by hdr_slot_len boxes
room boxes i h = sum_by_more_le hdr_slot_len boxes i None h

-- the two ways to add them up
pub lens_summed : (boxes : List (Option HdrBox)) → sum (map hdr_slot_len boxes) ≡ sum_by hdr_slot_len boxes
lens_summed [] = refl
lens_summed (held ∷ boxes) = rw (lens_summed boxes, sum_by-cons) refl

pub ruleset hdr_writes = (nothing, overwrite-append, length-append, no_slots, boxes_more, len_more, room)

-- one more association, kept or not
pub no_kept : (used : List Bool) → kept used [] ≡ []
unfolding kept
no_kept used = refl

pub kept_step : (used : List Bool) (xs : List ℕ) (i : ℕ) → i < length xs
    → kept used (take (i + 1) xs) ≡ kept used (take i xs) ++ cond (is_kept used (get_or xs i 0)) (get_or xs i 0 ∷ []) []
kept_step used xs i h = rw add-one (sym (kept_more used xs i h))

pub ruleset kept_writes = (nothing, overwrite-append, length-append, no_kept, kept_step, kept_room)

pub ruleset kept_counts = (length-kept, kept_most)

pub ruleset ipma_bounds = (ipma-body_most)

-- the code's rows
pub main_row_is : main_row ≡ MAIN_ROW.associations
unfolding main_row
main_row_is = refl

pub alpha_row_is : alpha_row ≡ ALPHA_ROW.associations
unfolding alpha_row
alpha_row_is = refl

pub tmap_row_is : tmap_row ≡ TMAP_ROW.associations
unfolding tmap_row
tmap_row_is = refl

pub gain_map_row_is : gain_map_row ≡ GAIN_MAP_ROW.associations
unfolding gain_map_row
gain_map_row_is = refl

pub ruleset rows = (overwrite-append, length-append, main_row_is, alpha_row_is, tmap_row_is, gain_map_row_is)

-- which slots are used
pub ruleset used_laws = (overwrite-append, length-append, used_slots_lem, and-true)
