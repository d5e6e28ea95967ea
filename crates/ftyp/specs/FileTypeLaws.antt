-- The file type that leaves the list of brands where it is lent gives the box of the list that grows, and the lengths are the lengths.
use Rattle.std.specs.Prelude.{◌≡◌, refl, Bool, true, false, not, cond, List, ◌++◌, ℕ, zero, suc, ◌+◌, ◌*◌, ◌/◌, ◌%◌, ◌<◌, ◌≤◌, length, eqb, leb}
use Rattle.std.proofs.Common.{sym, ap, ◌∙◌, append-nil, append_assoc, arith, mod-eq_of_lt, length-append, lit<, lit≤, eqb-true, eq-eqb, ne_eqb, leb-true}
use Rattle.std.proofs.lemmas.Bool.{eqb-false}
use Rattle.octets.specs.BigEndian.{be, num}
use Rattle.octets.specs.BigEndianLaws.{length-be, num-append, num_shift, num-be}
use Rattle.boxes.specs.Boxed.{length-boxed}
use Rattle.ftyp.specs.declared.EquivalentFileType.{EquivalentFileType}
use Rattle.ftyp.specs.FileType.{MIF1, MIF3, TMAP, allowed, among, has_brand, renamed, brands_of, ftyp_body, ftyp, lacks, file_type, added, added_len, file_type_body, file_type_box, file_type_len, ftyp_len}

-- ---- what an allowed list is
both : (a b : Bool) → cond a b false ≡ true → (a ≡ true) × (b ≡ true)
both true b h = (refl, h)
both false b h = absurd (let z : ◌≡◌ {A = ℕ} 0 1 = cc in omega arith)

pub allowed_whole : (s : List ℕ) → allowed s ≡ true → length s % 4 ≡ 0
unfolding allowed
allowed_whole s h = eqb-true _ _ (both (eqb (length s % 4) 0) (leb (length s) 4096) h).0

pub allowed_short : (s : List ℕ) → allowed s ≡ true → length s ≤ 4096
unfolding allowed
allowed_short s h = leb-true _ _ (both (eqb (length s % 4) 0) (leb (length s) 4096) h).1

-- ---- a brand in the list
otherwise : (x y : Bool) → (x ≡ false → y ≡ true) → cond x true y ≡ true
otherwise true y h = refl
otherwise false y h = h refl

pub among-found : (s : List ℕ) (b k n : ℕ) → k < n → num 4 s (k * 4) ≡ b → among s b n ≡ true
among-found s b k zero h e = absurd (omega arith)
among-found s b k (suc n) h e =
    otherwise (eqb (num 4 s (n * 4)) b) (among s b n)
    (λ f.
    let other : k ≡ n → ⊥ = λ q. eqb-false _ _ f (ap (λ (j : ℕ). num 4 s (j * 4)) (sym q) ∙ e) in
    among-found s b k n (omega arith) e)

-- the first four bytes are a brand, and what follows them is the list of the others
cond_swap : (x y z : Bool) → cond x true (cond y true z) ≡ cond y true (cond x true z)
cond_swap true true z = refl
cond_swap true false z = refl
cond_swap false y z = refl

among_first : (code s : List ℕ) (b k : ℕ) → length code ≡ 4 → among (code ++ s) b (suc k) ≡ cond (eqb (num 4 code 0) b) true (among s b k)
among_first code s b zero h = rw (num-append 4 code s 0 (omega arith))
among_first code s b (suc k) h =
    let e : num 4 (code ++ s) (suc k * 4) ≡ num 4 s (k * 4) = ap (λ (j : ℕ). num 4 (code ++ s) j) (omega arith) ∙ num_shift 4 code s (k * 4) in
    rw (e, among_first code s b k h) (cond_swap (eqb (num 4 s (k * 4)) b) (eqb (num 4 code 0) b) (among s b k))

has_brand_first : (code s : List ℕ) (b : ℕ) → length code ≡ 4 → has_brand (code ++ s) b ≡ cond (eqb (num 4 code 0) b) true (has_brand s b)
unfolding has_brand
has_brand_first code s b h =
    let n : length (code ++ s) / 4 ≡ suc (length s / 4) = simp length-append (omega arith) in
    rw n (among_first code s b (length s / 4) h)

pub brand_found : (t code rest : List ℕ) {s : List ℕ} {b n : ℕ} → has_brand s b ≡ has_brand t b → s ≡ code ++ rest → length code ≡ n → n ≡ 4
    → num 4 code 0 ≡ b → true ≡ has_brand t b
brand_found t code rest {s} {b} q e h z f = sym (has_brand_first code rest b (h ∙ z) ∙ rw (eq-eqb _ _ f) refl) ∙ ap (λ (x : List ℕ). has_brand x b) (sym e) ∙ q

pub brand_later : (t code rest : List ℕ) {s : List ℕ} {b n : ℕ} → has_brand s b ≡ has_brand t b → s ≡ code ++ rest → length code ≡ n → n ≡ 4
    → (num 4 code 0 ≡ b → ⊥) → has_brand rest b ≡ has_brand t b
brand_later t code rest {s} {b} q e h z f = sym (has_brand_first code rest b (h ∙ z) ∙ rw (ne_eqb _ _ f) refl) ∙ ap (λ (x : List ℕ). has_brand x b) (sym e) ∙ q

pub no_brand : (s : List ℕ) (b : ℕ) → length s < 4 → has_brand s b ≡ false
unfolding has_brand
no_brand s b h = let z : length s / 4 ≡ 0 = omega arith in rw z refl

-- a brand at the end does not make another one present
among-append : (s t : List ℕ) (b k : ℕ) → k * 4 ≤ length s → among (s ++ t) b k ≡ among s b k
among-append s t b zero h = refl
among-append s t b (suc k) h = rw (num-append 4 s t (k * 4) (omega arith), among-append s t b k (omega arith))

has_push : (s : List ℕ) (x b : ℕ) → length s % 4 ≡ 0 → x < 4294967296 → eqb x b ≡ false → has_brand (s ++ be 4 x) b ≡ has_brand s b
unfolding has_brand
has_push s x b h k e =
    let n : length (s ++ be 4 x) / 4 ≡ suc (length s / 4) = simp (length-append, length-be) (omega arith) in
    let p : length s / 4 * 4 ≡ length s + 0 = omega arith in
    let q : length s / 4 * 4 ≤ length s = omega arith in
    let v : num 4 (be 4 x) 0 ≡ x = num-be 4 x ∙ mod-eq_of_lt k in
    rw (n, p, num_shift 4 s (be 4 x) 0, v, e) (among-append s (be 4 x) b (length s / 4) q)

has-added : (d : Bool) (s : List ℕ) (x b : ℕ) → length s % 4 ≡ 0 → x < 4294967296 → eqb x b ≡ false → has_brand (s ++ added d x) b ≡ has_brand s b
has-added true s x b h k e = has_push s x b h k e
has-added false s x b h k e = rw append-nil

length-added : (d : Bool) (x : ℕ) → length (added d x) ≡ added_len d
length-added true x = length-be 4 x
length-added false x = refl

whole_added : (d : Bool) (s : List ℕ) (x : ℕ) → length s % 4 ≡ 0 → length (s ++ added d x) % 4 ≡ 0
whole_added true s x h = simp (length-append, length-be) (omega arith)
whole_added false s x h = rw append-nil h

push-added : (r h : Bool) (s : List ℕ) (b : ℕ) → cond r (cond h s (s ++ be 4 b)) s ≡ s ++ added (cond r (not h) false) b
push-added true true s b = sym (append-nil s)
push-added true false s b = refl
push-added false h s b = sym (append-nil s)

-- which of the three brands are added is decided by the list as it came
pub brands_are : (major minor : ℕ) (gain : Bool) (s : List ℕ) → length s % 4 ≡ 0
    → brands_of major minor gain s
    ≡ s ++ added (lacks s MIF3 (renamed major minor)) MIF3 ++ added (lacks s MIF1 true) MIF1 ++ added (lacks s TMAP gain) TMAP
unfolding brands_of
brands_are major minor gain s h =
    let d3 = lacks s MIF3 (renamed major minor) in
    let d1 = lacks s MIF1 true in
    let w3 = whole_added d3 s MIF3 h in
    let e1 = has-added d3 s MIF3 MIF1 h (lit< tt) refl in
    let et = has-added d3 s MIF3 TMAP h (lit< tt) refl in
    let ft = has-added d1 (s ++ added d3 MIF3) MIF1 TMAP w3 (lit< tt) refl in
    rw (
      push-added (renamed major minor) (has_brand s MIF3) s MIF3,
      e1,
      push-added true (has_brand s MIF1) (s ++ added d3 MIF3) MIF1,
      ft,
      et,
      push-added gain (has_brand s TMAP) (s ++ added d3 MIF3 ++ added d1 MIF1) TMAP,
    )

-- so the two ways give the same box
pub ftyp_is : (major minor : ℕ) (gain : Bool) (s : List ℕ) → length s % 4 ≡ 0
    → file_type_box (file_type major minor gain s) s ≡ ftyp major minor gain s
unfolding file_type_box file_type_body file_type ftyp ftyp_body
ftyp_is major minor gain s h = rw (brands_are major minor gain s h) (simp append_assoc)

-- ---- lengths
pub length-file_type_box : (t : EquivalentFileType) (s : List ℕ) → length (file_type_box t s) ≡ file_type_len t s
unfolding file_type_box file_type_body
length-file_type_box t s = simp (length-boxed, length-append, length-be, length-added)

pub length-ftyp : (major minor : ℕ) (gain : Bool) (s : List ℕ) → length s % 4 ≡ 0 → length (ftyp major minor gain s) ≡ ftyp_len major minor gain s
length-ftyp major minor gain s h = ap length (sym (ftyp_is major minor gain s h)) ∙ length-file_type_box (file_type major minor gain s) s

added_most : (d : Bool) → added_len d ≤ 4
added_most true = lit≤ tt
added_most false = lit≤ tt

pub file_type_most : (t : EquivalentFileType) (s : List ℕ) → file_type_len t s ≤ 28 + length s
file_type_most t s = omega (arith, added_most t.add_mif3, added_most t.add_mif1, added_most t.add_tmap)

pub ftyp_most : (major minor : ℕ) (gain : Bool) (s : List ℕ) → ftyp_len major minor gain s ≤ 28 + length s
ftyp_most major minor gain s = file_type_most (file_type major minor gain s) s
