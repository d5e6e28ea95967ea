-- An item has one location where it has bytes, and none where it has not (document 01, 'The equivalent file').
use Rattle.std.specs.Prelude.{◌≡◌, refl, Bool, true, false, cond, List, [], ◌∷◌, ◌++◌, ℕ, ◌+◌, eqb}
use Rattle.std.proofs.Common.{append-nil, append_assoc}
use Rattle.mini.specs.ItemKind.{MAIN, ALPHA, TMAP, GAIN_MAP, EXIF, XMP}
use Rattle.items.specs.declared.DataLengths.{DataLengths}
use Rattle.items.specs.ItemLocations.{Location, located, locations}

-- the locations of a list that are an item's
abbrev pub locations_of : ℕ → List Location → List Location
locations_of id [] = []
locations_of id (l ∷ ls) = cond (eqb id l.id) (l ∷ []) [] ++ locations_of id ls

of_append : (id : ℕ) (xs ys : List Location) → locations_of id (xs ++ ys) ≡ locations_of id xs ++ locations_of id ys
of_append id [] ys = refl
of_append id (x ∷ xs) ys = rw (of_append id xs ys, append_assoc)

none_of : (mine : Bool) → ◌≡◌ {A = List Location} (cond mine [] []) []
none_of true = refl
none_of false = refl

of_if : (id : ℕ) (empty : Bool) (l : Location) → locations_of id (cond empty [] (l ∷ [])) ≡ cond (eqb id l.id) (cond empty [] (l ∷ [])) []
of_if id true l = rw none_of
of_if id false l = rw append-nil

of_located : (id k off len : ℕ) → locations_of id (located k off len) ≡ cond (eqb id k) (located k off len) []
of_located id k off len = of_if id (eqb len 0) _

module _ (base : ℕ) (l : DataLengths) where
  pub main_once : locations_of MAIN (locations base l) ≡ located MAIN (base + l.alpha + l.tone_map + l.gain_map) l.main
  unfolding locations
  main_once = simp (of_append, of_located, append-nil)

  pub alpha_once : locations_of ALPHA (locations base l) ≡ located ALPHA base l.alpha
  unfolding locations
  alpha_once = simp (of_append, of_located, append-nil)

  pub tone_map_once : locations_of TMAP (locations base l) ≡ located TMAP (base + l.alpha) l.tone_map
  unfolding locations
  tone_map_once = simp (of_append, of_located, append-nil)

  pub gain_map_once : locations_of GAIN_MAP (locations base l) ≡ located GAIN_MAP (base + l.alpha + l.tone_map) l.gain_map
  unfolding locations
  gain_map_once = simp (of_append, of_located, append-nil)

  pub exif_once : locations_of EXIF (locations base l) ≡ located EXIF (base + l.alpha + l.tone_map + l.gain_map + l.main) l.exif
  unfolding locations
  exif_once = simp (of_append, of_located, append-nil)

  pub xmp_once : locations_of XMP (locations base l) ≡ located XMP (base + l.alpha + l.tone_map + l.gain_map + l.main + l.exif) l.xmp
  unfolding locations
  xmp_once = simp (of_append, of_located)
