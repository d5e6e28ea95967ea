-- The items' bytes are found again at their locations.
use Rattle.std.specs.Prelude.{◌≡◌, refl, Bool, true, false, cond, List, [], ◌∷◌, ◌++◌, ℕ, eqb, length}
use Rattle.std.proofs.Common.{sym, ap, ◌∙◌, arith, eqb-true, ne_eqb}
use Rattle.items.specs.ItemBytes.{ItemBytes, own, Leads}
use Rattle.items.specs.ItemLocations.{Location, Every, none, next}
use Rattle.items.specs.OneLocation.{locations_of}
use Rattle.mini.specs.Same.{span_bytes}
use Rattle.mini.specs.ItemKind.{MAIN, ALPHA, TMAP, GAIN_MAP, EXIF, XMP}
use Rattle.expander.specs.LocationsInFile.{locations_in, EveryByte}
use Rattle.carried.specs.ReadFile.{first_span, located, item_bytes_in}

-- an item's first location leads to its bytes; without bytes it has none
no_bytes : (v : List ℕ) → length {A = Location} [] ≡ cond (eqb (length v) 0) 0 1 → [] ≡ v
no_bytes [] e = refl
no_bytes (x ∷ v) e = absurd (omega (arith, rw (ne_eqb (length (x ∷ v)) 0 (λ q. omega arith)) at e))

first_leads : (b : ItemBytes) (f : List ℕ) (id : ℕ) (ls : List Location) → Every (Leads b f) ls
    → length (locations_of id ls) ≡ cond (eqb (length (own b id)) 0) 0 1 → span_bytes (first_span (locations_of id ls)) f ≡ own b id
first_leads b f id [] none e = no_bytes (own b id) e
first_leads b f id (l ∷ ls) (next p ps) e = go (eqb id l.id) refl e (first_leads b f id ls ps)
  where
    go : (t : Bool) → eqb id l.id ≡ t → length (cond t (l ∷ []) [] ++ locations_of id ls) ≡ cond (eqb (length (own b id)) 0) 0 1
        → (length (locations_of id ls) ≡ cond (eqb (length (own b id)) 0) 0 1 → span_bytes (first_span (locations_of id ls)) f ≡ own b id)
        → span_bytes (first_span (cond t (l ∷ []) [] ++ locations_of id ls)) f ≡ own b id
    go true h e later = p ∙ ap (own b) (sym (eqb-true id l.id h))
    go false h e later = later e

module _ (b : ItemBytes) (f : List ℕ) (h : EveryByte b f) where
  own_found : (id : ℕ) → located f id ≡ own b id
  own_found id = first_leads b f id (locations_in f) h.leads (h.once id)

  pub bytes_found : item_bytes_in f ≡ b
  unfolding item_bytes_in own
  bytes_found =
      λ j. record {
        alpha = own_found ALPHA j;
        tone_map = own_found TMAP j;
        gain_map = own_found GAIN_MAP j;
        main = own_found MAIN j;
        exif = own_found EXIF j;
        xmp = own_found XMP j;
      }
