-- Laws that several proofs cite.
use Rattle.std.specs.Prelude.{◌≡◌, refl, List, [], ℕ, ◌+◌, ◌≤◌, ◌<◌, length, drop, get_or, Option, None}
use Rattle.std.proofs.Common.{add-one, drop-cons, drop_of_length-le, lit≤}
use Rattle.matching.specs.Matched.{matched}
use Rattle.matching.specs.MatchedLaws.{matched_none, matched_nil, matched_within, matched-append}
use Rattle.properties.specs.HdrBoxes.{hdr_box_len}
use Rattle.properties.specs.Lengths.{cclv_len_most}
use Rattle.properties.specs.declared.hdr_boxes.HdrBox.{HdrBox}
use Rattle.properties.specs.declared.hdr_boxes.HdrBox.TheVariants.{Clli, Mdcv, Cclv, Amve, Reve, Ndwt}
use Rattle.slots.specs.Slots.{slot_bytes, slots_bytes}
use Rattle.file_match.specs.SlotOf.{slot_of, slots_of}
use Rattle.file_match.specs.declared.slot_table.Property.{Property}

pub hdr_box_most : (held : HdrBox) → hdr_box_len held ≤ 45
hdr_box_most (Clli body) = lit≤ tt
hdr_box_most (Mdcv body) = lit≤ tt
hdr_box_most (Cclv held) = cclv_len_most held
hdr_box_most (Amve body) = lit≤ tt
hdr_box_most (Reve body) = lit≤ tt
hdr_box_most (Ndwt body) = lit≤ tt

-- the slots from the i-th on: none
pub no_slots : (f : List ℕ) (held : List (Option Property)) (i : ℕ) → length held ≤ i → slots_bytes (slots_of f (drop i held)) ≡ []
unfolding slots_bytes slots_of
no_slots f held i h = rw (drop_of_length-le held h) refl

-- or that one, and then the others
pub next_slot : (f : List ℕ) (c : Option ℕ) (held : List (Option Property)) (i : ℕ) → i < length held
    → matched f c (slots_bytes (slots_of f (drop i held))) ≡ matched f (matched f c (slot_bytes (slot_of f (get_or held i None)))) (slots_bytes (slots_of f (drop (i + 1) held)))
unfolding slots_bytes slots_of
next_slot f c held i h = rw (add-one, drop-cons held i None h) (matched-append f c _ _)

pub ruleset slots_matched = (matched_none, matched_nil, matched_within, no_slots, next_slot)
