-- The references are found again in 'iref', and none where it is not there.
use Rattle.std.specs.Prelude.{◌≡◌, refl, Bool, true, false, not, cond, ◌&&◌, List, [], ◌∷◌, ◌++◌, ℕ, eqb, length}
use Rattle.std.proofs.Common.{sym, ap, ◌∙◌, append_assoc, arith, length-append, eqb-true}
use Rattle.octets.specs.BigEndian.{be}
use Rattle.carried.specs.ReadItems.{PREM}
use Rattle.boxes.specs.Boxed.{full_box_header, length-boxed, length-full_box_header}
use Rattle.boxes.specs.BoxesIn.{boxes_in, boxes_again}
use Rattle.boxes.specs.Walk.{Box, bytes_of, joined, box_if, all_append, all_if, joined-append, joined_if, walk}
use Rattle.items.specs.ItemReferences.{item_ids, reference, references, iref_body, length-references, references_most}
use Rattle.items.specs.Optional.{bytes_if}
use Rattle.items.specs.declared.ItemSet.{ItemSet}
use Rattle.mini.specs.ItemKind.{MAIN, ALPHA, TMAP, GAIN_MAP, EXIF, XMP}
use Rattle.expander.specs.EveryByte.{box, has_references}

-- ---- the references as boxes
abbrev pub ref_box : (type «from» : ℕ) (to : List ℕ) → Box
ref_box type «from» to = box type (be 2 «from» ++ be 2 (length to) ++ item_ids to)

abbrev pub reference_boxes : ItemSet → List Box
reference_boxes t =
    box_if t.alpha (ref_box 0x6175786C ALPHA (MAIN ∷ []))
    ++ (box_if (t.alpha && t.premultiplied) (ref_box PREM MAIN (ALPHA ∷ []))
    ++ (box_if t.tone_map (ref_box 0x64696D67 TMAP (MAIN ∷ cond t.gain_map (GAIN_MAP ∷ []) []))
    ++ (box_if t.exif (ref_box 0x63647363 EXIF (MAIN ∷ [])) ++ box_if t.xmp (ref_box 0x63647363 XMP (MAIN ∷ [])))))

two_if : (a p : Bool) (x y : List ℕ) → bytes_if a (x ++ bytes_if p y) ≡ bytes_if a x ++ bytes_if (a && p) y
two_if true p x y = refl
two_if false p x y = refl

refs_are : (t : ItemSet) → references t ≡ joined (reference_boxes t)
unfolding references reference
refs_are t = simp (joined-append, joined_if, two_if, append_assoc)

-- ---- they are read again
abbrev pub iref_if : ItemSet → List ℕ
iref_if t = cond (has_references t) (iref_body t) []

no_boxes : (bs : List Box) → length (joined bs) ≡ 0 → boxes_in [] 4 ≡ bs
unfolding boxes_in walk
no_boxes [] e = refl
no_boxes (b ∷ bs) e = absurd (omega (arith, length-append (bytes_of b) (joined bs), length-boxed b.type b.body))

pub refs_read : (t : ItemSet) → boxes_in (iref_if t) 4 ≡ reference_boxes t
unfolding iref_body
refs_read t = go (eqb (length (references t)) 0) refl
  where
    go : (z : Bool) → eqb (length (references t)) 0 ≡ z → boxes_in (cond (not z) (iref_body t) []) 4 ≡ reference_boxes t
    go true e = no_boxes (reference_boxes t) (sym (ap length (refs_are t)) ∙ eqb-true _ 0 e)
    go false e =
        let h = full_box_header 0 0 in
        boxes_again h (reference_boxes t) 4 (ap (λ (r : List ℕ). h ++ r) (refs_are t)) (length-full_box_header 0 0)
        (omega (arith, length-append h (references t), length-full_box_header 0 0, length-references t, references_most t)) (search (all_append, all_if))
