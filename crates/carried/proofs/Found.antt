-- What a file carries is found again by walking its boxes.
use Rattle.std.specs.Prelude.{◌≡◌, refl, Bool, true, false, cond, ◌&&◌, List, [], ◌∷◌, ◌++◌, ℕ, ◌<◌, eqb, ltb, length, Option, Some, None}
use Rattle.std.proofs.Common.{sym, ◌∙◌, append-nil, arith, lit<, lt-ltb, le-ltb, length-append}
use Rattle.std.proofs.lemmas.Bool.{eqb-false}
use Rattle.boxes.specs.Boxed.{full_box_header, length-full_box_header, length-boxed}
use Rattle.boxes.specs.BoxesIn.{boxes_in, body_of, first_body, body_first, boxes_read, boxes_again}
use Rattle.boxes.specs.Walk.{Box, joined, none, next, box_if}
use Rattle.items.specs.ItemInfo.{iinf_body}
use Rattle.items.specs.ItemReferences.{iref_body}
use Rattle.mini.specs.NoPayloadGives.{lawful}
use Rattle.mini.specs.Ranges.{TypesIn}
use Rattle.mini.specs.declared.CodecTypes.{CodecTypes}
use Rattle.mini.specs.declared.MinimizedImage.{MinimizedImage}
use Rattle.slots.specs.Associations.{ipma_body, ipma_with, ipma, used_by, iprp}
use Rattle.slots.specs.Bounds.{iprp_most}
use Rattle.slots.specs.Slots.{has_alpha_item, slots, slots_bytes, ipco}
use Rattle.slots.specs.Sound.{sound}
use Rattle.expander.specs.EquivalentFile.{item_type, item_set, item_bytes, content_start, file}
use Rattle.expander.specs.EveryByte.{box, has_references, meta_boxes, meta_is, meta_found, meta_plain, every_byte}
use Rattle.expander.specs.Expands.{Expands, not_refused}
use Rattle.expander.specs.FileLength.{iprp_long}
use Rattle.expander.specs.LocationsInFile.{ILOC, meta_in}
use Rattle.carried.specs.Carried.{carried}
use Rattle.carried.specs.ReadFile.{IINF, IREF, IPRP, IPCO, ipco_in, slots_in, carried_in}
use Rattle.carried.specs.ReadItems.{items_in}
use Rattle.carried.proofs.Bytes.{bytes_found}
use Rattle.carried.proofs.Items.{items_again}
use Rattle.carried.proofs.References.{iref_if}
use Rattle.carried.proofs.Slots.{slots_found}

-- of the boxes of 'meta' from 'iref' on, where it is there
later_found : (r g : Bool) (refs properties group places : List ℕ)
    → let bs = box_if r (box IREF refs) ++ (box IPRP properties ∷ []) ++ box_if g (box 0x6772706C group) ++ (box ILOC places ∷ []) in
    (first_body IREF bs ≡ cond r refs []) × (first_body IPRP bs ≡ properties)
later_found true true refs properties group places = (refl, refl)
later_found true false refs properties group places = (refl, refl)
later_found false true refs properties group places = (refl, refl)
later_found false false refs properties group places = (refl, refl)

type_small : (c : Option CodecTypes) → TypesIn c → item_type c < 4294967296
type_small None h = lit< tt
type_small (Some c) h = omega (arith, h.0)

-- alpha has an item where there is alpha, since none that expands is without data
pub alpha_item : (i : MinimizedImage) (s brands : List ℕ) → Expands i s brands → has_alpha_item i ≡ i.alpha
alpha_item i s brands x = go i.alpha i.alpha_data.len x.no_native_alpha (lawful i x.can_write).alpha_bytes
  where
    go : (alpha : Bool) (n : ℕ) → (alpha && eqb n 0) ≡ false → (alpha ≡ false → n ≡ 0) → ltb 0 n ≡ alpha
    go true n e h = let z = eqb-false n 0 e in lt-ltb 0 n (omega (arith, z))
    go false n e h = le-ltb 0 n (omega (arith, h refl))

module _ (i : MinimizedImage) (s : List ℕ) (major minor : ℕ) (brands : List ℕ) (x : Expands i s brands) where
  abbrev f : List ℕ
  f = file i s major minor brands

  meta_boxes_found : boxes_in (meta_in f) 4 ≡ meta_boxes i s (content_start i major minor brands)
  meta_boxes_found =
      rw (meta_found i s major minor brands x, meta_is i s (content_start i major minor brands))
      (boxes_read (full_box_header 0 0) (meta_boxes i s _) 4 (length-full_box_header 0 0) (meta_plain i s major minor brands x))

  iinf_found : body_of IINF (meta_in f) 4 ≡ iinf_body (item_set i)
  iinf_found = body_first IINF (meta_in f) 4 ∙ rw meta_boxes_found

  iref_found : body_of IREF (meta_in f) 4 ≡ iref_if (item_set i)
  iref_found = body_first IREF (meta_in f) 4 ∙ rw meta_boxes_found (later_found (has_references (item_set i)) (item_set i).tone_map _ _ _ _).0

  iprp_found : body_of IPRP (meta_in f) 4 ≡ ipco i s ++ ipma i s
  iprp_found = body_first IPRP (meta_in f) 4 ∙ rw meta_boxes_found (later_found (has_references (item_set i)) (item_set i).tone_map (iref_body (item_set i)) _ _ _).1

  -- ---- the slots
  abbrev two_boxes : List Box
  two_boxes = box IPCO (slots_bytes (slots i s)) ∷ box 0x69706D61 (ipma_body i (used_by (slots i s))) ∷ []

  two_are : ipco i s ++ ipma i s ≡ joined two_boxes
  unfolding ipco ipma ipma_with
  two_are = rw append-nil

  two_long : length (ipco i s ++ ipma i s) < 4294967296
  unfolding iprp
  two_long =
      omega (arith, iprp_long i s brands x, length-boxed IPRP (ipco i s ++ ipma i s), iprp_most i (sound i s x.placed x.can_write).bounded)

  ipco_found : ipco_in f ≡ slots_bytes (slots i s)
  unfolding ipco_in
  ipco_found = rw (iprp_found, body_first IPCO (ipco i s ++ ipma i s) 0, boxes_again [] two_boxes 0 two_are refl two_long (next refl (next refl none)))

  all_slots_found : slots_in (ipco_in f) ≡ slots i s
  unfolding ipco
  all_slots_found =
      rw ipco_found
      (slots_found i s brands x (omega (arith, two_long, length-append (ipco i s) (ipma i s), length-boxed IPCO (slots_bytes (slots i s)))))

  -- ---- the items
  items_found : items_in (body_of IINF (meta_in f) 4) (body_of IREF (meta_in f) 4) ≡ item_set i
  unfolding item_set
  items_found =
      let l = lawful i x.can_write in
      rw (iinf_found, iref_found)
      (items_again (item_set i) (type_small i.explicit_codec_types l.codec_types)
      (λ e. l.premultiplied (sym (alpha_item i s brands x) ∙ e)) l.compressed)

  -- ---- all of it
  pub carried_found : carried_in f ≡ carried i s
  unfolding carried_in carried
  carried_found =
      let b = bytes_found (item_bytes i s) f (every_byte i s major minor brands (not_refused i s brands x)) in
      λ j. record { items = items_found j; slots = all_slots_found j; bytes = b j }
