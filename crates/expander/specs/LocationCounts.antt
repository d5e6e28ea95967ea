-- How many locations an item has and how many hold a byte, where the items' bytes lie one after another (document 01, 'The equivalent file': 'Each
-- item with bytes of its own has exactly one location').
use Rattle.std.specs.Prelude.{◌≡◌, refl, Bool, true, false, cond, List, [], ◌∷◌, ◌++◌, ℕ, ◌+◌, ◌≤◌, ◌<◌, eqb, ltb, length}
use Rattle.std.proofs.Common.{sym, subst, arith, length-append, eqb-true, ltb-true, ltb-false, lt-ltb, le-ltb, le-leb}
use Rattle.std.proofs.lemmas.Bool.{lt-leb}
use Rattle.items.specs.ItemBytes.{ItemBytes, lengths_of, own}
use Rattle.items.specs.ItemLocations.{Location, located, locations, data_len, count_located}
use Rattle.items.specs.OneLocation.{locations_of, main_once, alpha_once, tone_map_once, gain_map_once, exif_once, xmp_once}
use Rattle.items.specs.declared.DataLengths.{DataLengths}
use Rattle.mini.specs.ItemKind.{MAIN, ALPHA, TMAP, GAIN_MAP, EXIF, XMP}
use Rattle.expander.specs.LocationsInFile.{lies, holders}
use Rattle.slots.specs.Associations.{one}

-- ---- the locations of a number
count_append : (id : ℕ) (xs ys : List Location) → length (locations_of id (xs ++ ys)) ≡ length (locations_of id xs) + length (locations_of id ys)
count_append id [] ys = omega arith
count_append id (x ∷ xs) ys =
    let mine = cond (eqb id x.id) (x ∷ []) [] in
    omega (arith, length-append mine (locations_of id (xs ++ ys)), length-append mine (locations_of id xs), count_append id xs ys)

-- another number's are none of it
other_if : (id : ℕ) (empty : Bool) (l : Location) → eqb id l.id ≡ false → length (locations_of id (cond empty [] (l ∷ []))) ≡ 0
other_if id true l e = refl
other_if id false l e = rw e

other : (id k : ℕ) → eqb id k ≡ false → (off len : ℕ) → length (locations_of id (located k off len)) ≡ 0
other id k e off len = other_if id (eqb len 0) _ e

-- a number is k, or it isn't
by_number : (P : ℕ → Type 0) (id k : ℕ) → P k → (eqb id k ≡ false → P id) → P id
by_number P id k p q = go (eqb id k) refl
  where
    go : (t : Bool) → eqb id k ≡ t → P id
    go true e = subst P (sym (eqb-true id k e)) p
    go false e = q e

module _ (b : ItemBytes) (base : ℕ) where
  abbrev l : DataLengths
  l = lengths_of b

  abbrev Once : ℕ → Type 0
  Once id = length (locations_of id (locations base l)) ≡ cond (eqb (length (own b id)) 0) 0 1

  no_item : (id : ℕ) → eqb id MAIN ≡ false → eqb id ALPHA ≡ false → eqb id TMAP ≡ false → eqb id GAIN_MAP ≡ false → eqb id EXIF ≡ false
      → eqb id XMP ≡ false → Once id
  unfolding locations own
  no_item id m a t g e x =
      simp (count_append, other id MAIN m, other id ALPHA a, other id TMAP t, other id GAIN_MAP g, other id EXIF e, other id XMP x, m, a, t, g, e, x)

  -- one location for a number with bytes of its own, none for any other
  pub locations_once : (id : ℕ) → Once id
  unfolding own
  locations_once id =
      by_number Once id MAIN (rw (main_once base l, count_located)) (λ m.
      by_number Once id ALPHA (rw (alpha_once base l, count_located)) (λ a.
      by_number Once id TMAP (rw (tone_map_once base l, count_located)) (λ t.
      by_number Once id GAIN_MAP (rw (gain_map_once base l, count_located)) (λ g.
      by_number Once id EXIF (rw (exif_once base l, count_located)) (λ e.
      by_number Once id XMP (rw (xmp_once base l, count_located)) (λ x.
      no_item id m a t g e x))))))

-- ---- the locations that hold a byte
before : (p at len : ℕ) → p < at → lies p at len ≡ false
before p at len h = rw (lt-leb at p h)

inside : (p at len : ℕ) → at ≤ p → p < at + len → lies p at len ≡ true
inside p at len h k = rw (le-leb at p h, lt-ltb p (at + len) k)

behind : (p at len : ℕ) → at + len ≤ p → lies p at len ≡ false
behind p at len h =
    let k : at ≤ p = omega arith in
    rw (le-leb at p k, le-ltb p (at + len) h)

-- a byte of one of two neighbouring stretches is one of both together
neighbours : (p at m next n : ℕ) → at + m ≡ next → one (lies p at m) + one (lies p next n) ≡ one (lies p at (m + n))
neighbours p at m next n e = go (ltb p at) refl (ltb p next) refl (ltb p (next + n)) refl
  where
    go : (a : Bool) → ltb p at ≡ a → (b : Bool) → ltb p next ≡ b → (c : Bool) → ltb p (next + n) ≡ c
        → one (lies p at m) + one (lies p next n) ≡ one (lies p at (m + n))
    go true f b g c h =
        let k = ltb-true p at f in
        rw (before p at m (omega arith), before p next n (omega arith), before p at (m + n) (omega arith))
    go false f true g c h =
        let k = ltb-false p at f in
        let q = ltb-true p next g in
        rw (inside p at m (omega arith) (omega arith), before p next n (omega arith), inside p at (m + n) (omega arith) (omega arith))
    go false f false g true h =
        let k = ltb-false p next g in
        let q = ltb-true p (next + n) h in
        rw (behind p at m (omega arith), inside p next n (omega arith) (omega arith), inside p at (m + n) (omega arith) (omega arith))
    go false f false g false h =
        let k = ltb-false p (next + n) h in
        rw (behind p at m (omega arith), behind p next n (omega arith), behind p at (m + n) (omega arith))

holders-append : (p : ℕ) (xs ys : List Location) → holders p (xs ++ ys) ≡ holders p xs + holders p ys
holders-append p [] ys = omega arith
holders-append p (x ∷ xs) ys = omega (arith, holders-append p xs ys)

in_none : (p at : ℕ) → lies p at 0 ≡ false
in_none p at = go (ltb p at) refl
  where
    go : (t : Bool) → ltb p at ≡ t → lies p at 0 ≡ false
    go true e = before p at 0 (ltb-true p at e)
    go false e =
        let h = ltb-false p at e in
        behind p at 0 (omega arith)

-- an item without bytes has no location, and no byte is one of its
holders-located : (p id off len : ℕ) → holders p (located id off len) ≡ one (lies p off len)
holders-located p id off len = go (eqb len 0) refl
  where
    go : (empty : Bool) → eqb len 0 ≡ empty → holders p (cond empty [] (record { id = id; off = off; len = len } ∷ [])) ≡ one (lies p off len)
    go true e = rw (eqb-true len 0 e, in_none p off)
    go false e = omega arith

-- a byte among the items' is in one location, any other in none
pub locations_hold : (base : ℕ) (l : DataLengths) (p : ℕ) → holders p (locations base l) ≡ one (lies p base (data_len l))
unfolding locations
locations_hold base l p =
    let a = l.alpha in
    let t = l.tone_map in
    let g = l.gain_map in
    let m = l.main in
    let e = l.exif in
    let x = l.xmp in
    let at = neighbours p base a (base + a) t refl in
    let atg = neighbours p base (a + t) (base + a + t) g (omega arith) in
    let atgm = neighbours p base (a + t + g) (base + a + t + g) m (omega arith) in
    let atgme = neighbours p base (a + t + g + m) (base + a + t + g + m) e (omega arith) in
    let atgmex = neighbours p base (a + t + g + m + e) (base + a + t + g + m + e) x (omega arith) in
    simp (holders-append, holders-located) (omega (arith, at, atg, atgm, atgme, atgmex))
