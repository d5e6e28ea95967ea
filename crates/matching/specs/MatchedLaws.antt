-- Laws of comparing: piece after piece, a part of the file where it lies, and the whole.
use Rattle.std.specs.Prelude.{◌≡◌, refl, Bool, true, false, ◌&&◌, cond, List, [], ◌∷◌, ◌++◌, ℕ, ◌+◌, ◌≤◌, leb, nat_eq, length, take, drop, Option, Some, None}
use Rattle.std.specs.List.{starts_with}
use Rattle.std.proofs.Common.{sym, ap, ◌∙◌, add_assoc, add-zero, zero-add, append-nil, arith, drop-drop, drop_of_length-le, length-append, length-drop, length-take-le, take-append-drop, true≢false}
use Rattle.std.proofs.Math.Dec.{leb-zero}
use Rattle.std.proofs.lemmas.Bool.{le-leb, leb-true}
use Rattle.std.proofs.lemmas.Bool.Decides.{Decides-eqb}
use Rattle.std.proofs.lemmas.List.Prefix.{front_fits}
use Rattle.std.proofs.lemmas.Option.{same_Some, none-some}
use Rattle.std.proofs.lemmas.Slice.Eq.{starts_is}
use Rattle.octets.specs.BigEndianLaws.{length-be}
use Rattle.octets.specs.Overwrite.{overwrite}
use Rattle.octets.specs.OverwriteLaws.{written, overwrite_cons, overwrite-append}
use Rattle.octets.specs.Part.{part_of}
use Rattle.matching.specs.Matched.{matched}

-- ---- a list that starts with another
starts_split : (s p : List ℕ) → starts_with nat_eq s p ≡ true → s ≡ p ++ drop (length p) s
starts_split s p e = (starts_is Decides-eqb s p (starts_with nat_eq s p) refl).0 e

starts_of : (s p rest : List ℕ) → s ≡ p ++ rest → starts_with nat_eq s p ≡ true
starts_of s p rest e = (starts_is Decides-eqb s p (starts_with nat_eq s p) refl).1 rest e

and_assoc : (a b c : Bool) → (a && (b && c)) ≡ ((a && b) && c)
and_assoc true b c = refl
and_assoc false b c = refl

starts-append : (l xs ys : List ℕ) → starts_with nat_eq l (xs ++ ys) ≡ (starts_with nat_eq l xs && starts_with nat_eq (drop (length xs) l) ys)
starts-append l [] ys = refl
starts-append [] (x ∷ xs) ys = refl
starts-append (y ∷ l) (x ∷ xs) ys =
    ap (λ (t : Bool). nat_eq x y && t) (starts-append l xs ys) ∙ and_assoc (nat_eq x y) (starts_with nat_eq l xs) (starts_with nat_eq (drop (length xs) l) ys)

-- ---- piece after piece
-- others stood before
pub matched_none : (f bytes : List ℕ) → matched f None bytes ≡ None
unfolding matched
matched_none f bytes = refl

-- nothing
pub matched_nil : (f : List ℕ) (at : ℕ) → at ≤ length f → matched f (Some at) [] ≡ Some at
unfolding matched
matched_nil f at h = rw (le-leb at (length f) h, add-zero) refl

-- bytes that stand in the file end in it
pub matched_within : (f : List ℕ) (at r : ℕ) (bytes : List ℕ) → matched f (Some at) bytes ≡ Some r → (r ≡ at + length bytes) × (r ≤ length f)
unfolding matched
matched_within f at r bytes e = go (leb at (length f)) (starts_with nat_eq (drop at f) bytes) refl refl e
  where
    go : (a s : Bool) → leb at (length f) ≡ a → starts_with nat_eq (drop at f) bytes ≡ s → cond (a && s) (Some (at + length bytes)) None ≡ Some r
        → (r ≡ at + length bytes) × (r ≤ length f)
    go true true p q e =
        let same : r ≡ at + length bytes = sym (same_Some _ _ e) in
        let fits = front_fits (drop at f) bytes _ (starts_split (drop at f) bytes q) in
        (same, omega (arith, fits, length-drop at f, leb-true at (length f) p, same))
    go true false p q e = absurd (none-some _ e)
    go false s p q e = absurd (none-some _ e)

pub matched-append : (f : List ℕ) (c : Option ℕ) (xs ys : List ℕ) → matched f c (xs ++ ys) ≡ matched f (matched f c xs) ys
unfolding matched
matched-append f None xs ys = refl
matched-append f (Some at) xs ys = rw (starts-append (drop at f) xs ys, drop-drop, length-append) (go (leb at (length f)) (starts_with nat_eq (drop at f) xs) refl refl)
  where
    go : (a s : Bool) → leb at (length f) ≡ a → starts_with nat_eq (drop at f) xs ≡ s
        → cond (a && (s && starts_with nat_eq (drop (at + length xs) f) ys)) (Some (at + (length xs + length ys))) None ≡ matched f (cond (a && s) (Some (at + length xs)) None) ys
    go true true p q =
        let fits = front_fits (drop at f) xs _ (starts_split (drop at f) xs q) in
        let h : at + length xs ≤ length f = omega (arith, fits, length-drop at f, leb-true at (length f) p) in
        rw (le-leb _ _ h, add_assoc) refl
    go true false p q = refl
    go false s p q = refl

-- a byte and then others
pub matched_cons : (f : List ℕ) (c : Option ℕ) (x : ℕ) (ys : List ℕ) → matched f c (x ∷ ys) ≡ matched f (matched f c (x ∷ [])) ys
matched_cons f c x ys = matched-append f c (x ∷ []) ys

-- ---- a part of the file, where it lies
pub matched_part : (f : List ℕ) (at len : ℕ) → at + len ≤ length f → matched f (Some at) (part_of f at len) ≡ Some (at + len)
unfolding matched part_of
matched_part f at len h =
    let n : length (take len (drop at f)) ≡ len = length-take-le len (drop at f) (omega (arith, length-drop at f)) in
    rw (le-leb (at + len) (length f) h, le-leb at (length f) (omega arith), starts_of (drop at f) (take len (drop at f)) (drop len (drop at f)) (sym (take-append-drop len (drop at f))), n) refl

-- ---- bytes that were written at the start of others
pub written_first : (out : List ℕ) (n : ℕ) (bytes : List ℕ) → n ≡ length bytes → n ≤ length out → take n (overwrite out 0 bytes) ≡ bytes
written_first out n bytes e h = rw e (written out 0 bytes (omega (arith, e, h)))

-- by which `grind` sees that pieces one after another are one piece, written or not
pub ruleset pieces = (matched_none, matched_nil, matched-append, matched_cons, matched_part, written_first, overwrite_cons, overwrite-append, length-append, length-be, append-nil)

-- ---- the whole
-- each piece stands in its place, and the last ends where the file ends: exactly if the file is these bytes
pub whole_same : (f g : List ℕ) → matched f (Some 0) g ≡ Some (length f) → f ≡ g
unfolding matched
whole_same f g e = go (leb 0 (length f)) (starts_with nat_eq f g) refl (matched_within f 0 (length f) g e).0 e
  where
    go : (a s : Bool) → starts_with nat_eq f g ≡ s → length f ≡ 0 + length g → cond (a && s) (Some (0 + length g)) None ≡ Some (length f) → f ≡ g
    go true true q n e = let h : length f ≤ length g = omega (arith, n) in starts_split f g q ∙ rw (drop_of_length-le f h, append-nil) refl
    go true false q n e = absurd (none-some _ e)
    go false s q n e = absurd (none-some _ e)

pub same_whole : (f g : List ℕ) → f ≡ g → matched f (Some 0) g ≡ Some (length f)
unfolding matched
same_whole f g e = rw (starts_of f g [] (e ∙ sym (append-nil g)), e, leb-zero, zero-add) refl
