-- Where the items' bytes lie one after another, each location leads to its item's own bytes (ISO/IEC 23008-12, O.4.10; document 01, 'The equivalent
-- file').
use Rattle.std.specs.Prelude.{◌≡◌, cond, List, [], ◌++◌, ℕ, ◌+◌, eqb, take, drop}
use Rattle.std.proofs.Math.Path.{refl}
use Rattle.std.proofs.Common.{append_assoc, length-append, take_at, drop_at}
use Rattle.std.proofs.Math.ListN.{length}
use Rattle.mini.specs.ItemKind.{MAIN, ALPHA, TMAP, GAIN_MAP, EXIF, XMP}
use Rattle.items.specs.declared.DataLengths.{DataLengths}
use Rattle.items.specs.ItemLocations.{Location, Every, located, locations, every_append, every_located}

-- each item's bytes, none for an item that is absent
pub record ItemBytes : Type 0 where
  pub alpha : List ℕ
  pub tone_map : List ℕ
  pub gain_map : List ℕ
  pub main : List ℕ
  pub exif : List ℕ
  pub xmp : List ℕ

abbrev pub lengths_of : ItemBytes → DataLengths
lengths_of b =
    record {
      alpha = length b.alpha;
      tone_map = length b.tone_map;
      gain_map = length b.gain_map;
      main = length b.main;
      exif = length b.exif;
      xmp = length b.xmp;
    }

-- mdat's content
unfoldable pub item_data : ItemBytes → List ℕ
item_data b = b.alpha ++ b.tone_map ++ b.gain_map ++ b.main ++ b.exif ++ b.xmp

-- an item's own bytes, by its number
unfoldable pub own : ItemBytes → ℕ → List ℕ
own b id =
    cond (eqb id MAIN) b.main
    (cond (eqb id ALPHA) b.alpha
    (cond (eqb id TMAP) b.tone_map
    (cond (eqb id GAIN_MAP) b.gain_map (cond (eqb id EXIF) b.exif (cond (eqb id XMP) b.xmp [])))))

-- the bytes at a location of a file
abbrev pub bytes_at : List ℕ → Location → List ℕ
bytes_at file l = take l.len (drop l.off file)

-- a location of a file leads to its item's own bytes
abbrev pub Leads : ItemBytes → List ℕ → Location → Type 0
Leads b file l = bytes_at file l ≡ own b l.id

-- a run of bytes in the middle of a file
leads_middle : (b : ItemBytes) (file pre mid post : List ℕ) (id off : ℕ) → file ≡ pre ++ (mid ++ post) → length pre ≡ off → mid ≡ own b id
    → Every (Leads b file) (located id off (length mid))
leads_middle b file pre mid post id off e n o =
    every_located id off (length mid) (rw (e, drop_at pre (mid ++ post) off n, take_at mid post (length mid) refl) o)

module _ (b : ItemBytes) (pre post : List ℕ) where
  abbrev file : List ℕ
  file = pre ++ (item_data b ++ post)

  -- wherever the data stands in a file, the locations counted from its place lead to the items' own bytes
  pub locations_lead : Every (Leads b file) (locations (length pre) (lengths_of b))
  unfolding locations item_data own
  locations_lead =
      let a = b.alpha in
      let t = b.tone_map in
      let g = b.gain_map in
      let m = b.main in
      let e = b.exif in
      let x = b.xmp in
      let la = leads_middle b file pre a (t ++ (g ++ (m ++ (e ++ (x ++ post))))) ALPHA (length pre) (simp append_assoc) refl refl in
      let lt = leads_middle b file (pre ++ a) t (g ++ (m ++ (e ++ (x ++ post)))) TMAP (length pre + length a) (simp append_assoc) (simp length-append) refl in
      let lg =
      leads_middle b file (pre ++ a ++ t) g (m ++ (e ++ (x ++ post))) GAIN_MAP (length pre + length a + length t) (simp append_assoc) (simp length-append) refl in
      let lm =
      leads_middle b file (pre ++ a ++ t ++ g) m (e ++ (x ++ post)) MAIN (length pre + length a + length t + length g) (simp append_assoc) (simp length-append) refl in
      let le =
      leads_middle b file (pre ++ a ++ t ++ g ++ m) e (x ++ post) EXIF (length pre + length a + length t + length g + length m) (simp append_assoc) (simp length-append) refl in
      let lx =
      leads_middle b file (pre ++ a ++ t ++ g ++ m ++ e) x post XMP (length pre + length a + length t + length g + length m + length e) (simp append_assoc) (simp length-append) refl in
      every_append (every_append (every_append (every_append (every_append lm la) lt) lg) le) lx
