-- The first box of a type among the boxes that follow one another from the start of the bytes (ISO/IEC 14496-12, 4.2; `find_box` of
-- boxes.rs). Where there is none, the refusal of the header at which walking ended: 1 at the end of the bytes, for want of a header.
use Rattle.std.specs.Prelude.{◌≡◌, refl, Bool, true, false, cond, List, [], ◌∷◌, ℕ, zero, suc, ◌+◌, ◌≤◌, eqb, length, Result, Ok, Err}
use Rattle.std.proofs.Math.Path.{sym}
use Rattle.std.proofs.Common.{◌∙◌, subst, true≢false, arith}
use borrow.Author.Tests.{eq-eqb, ne_eqb, eqb-true, eqb-false}
use Rattle.boxes.specs.Header.{blank, number_not_zero, header_refusal, header_or_blank, header_at}
use Rattle.boxes.specs.Walk.{after, walk, find}
use Rattle.boxes.specs.WalkEnds.{advances, walk_on, walk_stops}
use Rattle.boxes.specs.declared.BoxHeader.{BoxHeader}
use Rattle.boxes.specs.declared.HeaderError.{HeaderError}

-- whether a box of a type is among some
abbrev pub has : ℕ → List BoxHeader → Bool
has type [] = false
has type (h ∷ hs) = cond (eqb h.box_type type) true (has type hs)

-- where the boxes from `at` on end
abbrev pub end_of : ℕ → List BoxHeader → ℕ
end_of at [] = at
end_of at (h ∷ hs) = end_of (after h) hs

-- the first box of a type from `at` on
unfoldable pub find_from : ℕ → List ℕ → ℕ → Result BoxHeader HeaderError
find_from type s at =
    let hs = walk s at in
    cond (has type hs) (Ok (find type hs)) (header_at s (end_of at hs))

abbrev pub find_box : ℕ → List ℕ → Result BoxHeader HeaderError
find_box type s = find_from type s 0

-- ---- one box at a time, whose header was read
accepted : (r : Result BoxHeader HeaderError) → header_refusal r ≡ 0 → r ≡ Ok (header_or_blank r)
accepted (Ok h) e = refl
accepted (Err x) e = absurd (number_not_zero x e)

pub moves_on : (s : List ℕ) (at : ℕ) {h : BoxHeader} → Ok h ≡ header_at s at → (at + 8 ≤ after h) × (after h ≤ length s)
moves_on s at read =
    subst (λ r. header_refusal r ≡ 0 → (at + 8 ≤ after (header_or_blank r)) × (after (header_or_blank r) ≤ length s)) (sym read) (advances s at) refl

module _ (type : ℕ) (s : List ℕ) (at : ℕ) where
  pub found_here : {h : BoxHeader} → Ok h ≡ header_at s at → h.box_type ≡ type → Ok h ≡ find_from type s at
  unfolding find_from
  found_here read f =
      let on = rw (← read) at (walk_on s at (rw (← read) refl)) in
      sym (rw (on, eq-eqb _ _ f))

  pub found_later : {h : BoxHeader} → Ok h ≡ header_at s at → (h.box_type ≡ type → ⊥) → find_from type s (after h) ≡ find_from type s at
  unfolding find_from
  found_later read f =
      let on = rw (← read) at (walk_on s at (rw (← read) refl)) in
      sym (rw (on, ne_eqb _ _ f))

  pub found_none : {e : HeaderError} → Err e ≡ header_at s at → Err e ≡ find_from type s at
  unfolding find_from
  found_none {e} read = read ∙ sym (rw (walk_stops s at (λ z. number_not_zero e (rw (← read) at z))))

-- ---- what is found is the first of the type among the boxes walked, and is found exactly where there is one
-- a header that is refused is blank
pub blank_refused : (s : List ℕ) (i : ℕ) → (header_refusal (header_at s i) ≡ 0 → ⊥) → header_or_blank (header_at s i) ≡ blank
blank_refused s i = go (header_at s i)
  where
    go : (r : Result BoxHeader HeaderError) → (header_refusal r ≡ 0 → ⊥) → header_or_blank r ≡ blank
    go (Ok h) f = absurd (f refl)
    go (Err e) f = refl

-- walking ends at a header that is refused
ends-refused : (n : ℕ) (s : List ℕ) (at : ℕ) → length s ≤ at + n → header_refusal (header_at s (end_of at (walk s at))) ≡ 0 → ⊥
ends-refused zero s at h e =
    let stop : header_refusal (header_at s at) ≡ 0 → ⊥ = λ z. omega (arith, (advances s at z).0, (advances s at z).1) in
    stop (rw (walk_stops s at stop) at e)
ends-refused (suc n) s at h e =
    go (eqb (header_refusal (header_at s at)) 0) refl (λ next k. ends-refused n s next (omega arith)) e
  where
    go : (t : Bool) → eqb (header_refusal (header_at s at)) 0 ≡ t
        → ((next : ℕ) → at + 8 ≤ next → header_refusal (header_at s (end_of next (walk s next))) ≡ 0 → ⊥)
        → header_refusal (header_at s (end_of at (walk s at))) ≡ 0
        → ⊥
    go true q later e =
        let z = eqb-true _ 0 q in
        later (after (header_or_blank (header_at s at))) (advances s at z).0 (rw (walk_on s at z) at e)
    go false q later e =
        let z = eqb-false _ 0 q in
        z (rw (walk_stops s at z) at e)

pub walk_refused : (s : List ℕ) (at : ℕ) → header_refusal (header_at s (end_of at (walk s at))) ≡ 0 → ⊥
walk_refused s at = ends-refused (length s) s at (omega arith)

lacking : (type : ℕ) (hs : List BoxHeader) → has type hs ≡ false → find type hs ≡ blank
lacking type [] e = refl
lacking type (h ∷ hs) e = go (eqb h.box_type type) (lacking type hs) e
  where
    go : (t : Bool) → (has type hs ≡ false → find type hs ≡ blank) → cond t true (has type hs) ≡ false
        → cond t h (find type hs) ≡ blank
    go true later e = absurd (true≢false e)
    go false later e = later e

pub find-header : (type : ℕ) (s : List ℕ) → header_or_blank (find_box type s) ≡ find type (walk s 0)
unfolding find_from
find-header type s = go (has type (walk s 0)) refl
  where
    go : (t : Bool) → has type (walk s 0) ≡ t
        → header_or_blank (cond t (Ok (find type (walk s 0))) (header_at s (end_of 0 (walk s 0)))) ≡ find type (walk s 0)
    go true e = refl
    go false e = blank_refused s (end_of 0 (walk s 0)) (walk_refused s 0) ∙ sym (lacking type (walk s 0) e)

pub find_refusal : (type : ℕ) (s : List ℕ) → eqb (header_refusal (find_box type s)) 0 ≡ has type (walk s 0)
unfolding find_from
find_refusal type s = go (has type (walk s 0))
  where
    go : (t : Bool) → eqb (header_refusal (cond t (Ok (find type (walk s 0))) (header_at s (end_of 0 (walk s 0))))) 0 ≡ t
    go true = refl
    go false = ne_eqb _ 0 (walk_refused s 0)
