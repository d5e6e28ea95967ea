-- Walking misses nothing: each header that is read is followed by a later place within the bytes, so that allowing for more boxes than there
-- are bytes finds no more of them. Of any bytes.
use Rattle.std.specs.Prelude.{◌≡◌, refl, Bool, true, false, cond, ◌&&◌, List, ◌∷◌, [], ℕ, zero, suc, ◌+◌, ◌-◌, ◌≤◌, eqb, leb, ltb, length, Option, Some, None, Result, Ok, Err, IfOk}
use Rattle.std.proofs.Common.{sym, ◌∙◌, arith, lit≤, ne_eqb, subst, eqb-true, leb-true, ltb-false}
use Rattle.octets.specs.BigEndian.{num}
use Rattle.boxes.specs.Header.{UUID, number_not_zero, header_refusal, header_or_blank, found, user_type_at, typed_at, sized_at, header_at}
use Rattle.boxes.specs.Size.{whole, bounded, large_size_at, size_at, InBuffer}
use Rattle.boxes.specs.declared.BoxSize.{BoxSize}
use Rattle.boxes.specs.declared.BoxHeader.{BoxHeader}
use Rattle.boxes.specs.declared.HeaderError.{HeaderError}
use Rattle.boxes.specs.declared.HeaderError.TheVariants.{TruncatedHeader, TruncatedLargesize, SizeOutOfRange, TruncatedUserType}
use Rattle.boxes.specs.declared.UserType.{UserType}
use Rattle.boxes.specs.Walk.{after, walk_up_to, walk, at_end}

-- ---- a size that is accepted keeps the box within the bytes
abbrev pub Sized : List ℕ → ℕ → Result BoxSize HeaderError → Type 0
Sized s i r = IfOk r (λ size. InBuffer s i size.total size.head)

bounded-sized : (s : List ℕ) (i head total : ℕ) → 8 ≤ head → i ≤ length s → Sized s i (bounded head total (length s - i))
unfolding bounded
bounded-sized s i head total h k = go (leb head total) refl (leb total (length s - i)) refl
  where
    go : (a : Bool) → leb head total ≡ a → (b : Bool) → leb total (length s - i) ≡ b → Sized s i (cond (a && b) (whole total head) (Err SizeOutOfRange))
    go true e true f =
        let p = leb-true head total e in
        let q = leb-true total (length s - i) f in
        (h, (p, omega arith))
    go true e false f = tt
    go false e b f = tt

pub sized : (s : List ℕ) (i : ℕ) → i + 8 ≤ length s → Sized s i (size_at s i)
unfolding size_at large_size_at
sized s i h = go (eqb (num 4 s i) 0) (eqb (num 4 s i) 1) (ltb (length s - i) 16)
  where
    go : (a b c : Bool) → Sized s i (cond a (whole (length s - i) 8) (cond b (cond c (Err TruncatedLargesize) (bounded 16 (num 8 s (i + 8)) (length s - i))) (bounded 8 (num 4 s i) (length s - i))))
    go true b c = (lit≤ tt, (omega arith, omega arith))
    go false true true = tt
    go false true false = bounded-sized s i 16 (num 8 s (i + 8)) (lit≤ tt) (omega arith)
    go false false c = bounded-sized s i 8 (num 4 s i) (lit≤ tt) (omega arith)

pub in_buffer : (s : List ℕ) (i : ℕ) {size : BoxSize} → Ok size ≡ size_at s i → i + 8 ≤ length s → InBuffer s i size.total size.head
in_buffer s i e h = subst (λ r. Sized s i r) (sym e) (sized s i h)

-- ---- so the next box begins later, and not past the end
abbrev Advances : List ℕ → ℕ → Result BoxHeader HeaderError → Type 0
Advances s i r = header_refusal r ≡ 0 → (i + 8 ≤ after (header_or_blank r)) × (after (header_or_blank r) ≤ length s)

found_advances : (s : List ℕ) (i type head total : ℕ) (user : Option UserType) → 8 ≤ head → head ≤ total → i + total ≤ length s
    → Advances s i (found type user i head total)
found_advances s i type head total user h k l = λ z. (omega arith, omega arith)

typed_advances : (s : List ℕ) (i total head : ℕ) → InBuffer s i total head → Advances s i (typed_at s i total head)
unfolding typed_at
typed_advances s i total head h = go (eqb (num 4 s (i + 4)) UUID) (ltb (total - head) 16) refl
  where
    go : (a b : Bool) → ltb (total - head) 16 ≡ b
        → Advances s i (cond a (cond b (Err TruncatedUserType) (found (num 4 s (i + 4)) (Some (user_type_at s (i + head))) i (head + 16) total)) (found (num 4 s (i + 4)) None i head total))
    go true true e = λ z. absurd (omega arith)
    go true false e =
        let k = ltb-false (total - head) 16 e in
        found_advances s i (num 4 s (i + 4)) (head + 16) total (Some (user_type_at s (i + head))) (omega arith) (omega arith) h.1.1
    go false b e = found_advances s i (num 4 s (i + 4)) head total None h.0 h.1.0 h.1.1

pub advances : (s : List ℕ) (i : ℕ) → Advances s i (header_at s i)
unfolding header_at
advances s i = go (leb (i + 8) (length s)) refl
  where
    of_size : (z : Result BoxSize HeaderError) → Sized s i z → Advances s i (sized_at s i z)
    of_size (Ok size) h = typed_advances s i size.total size.head h
    of_size (Err e) h = λ z. absurd (number_not_zero e z)

    go : (t : Bool) → leb (i + 8) (length s) ≡ t → Advances s i (cond t (sized_at s i (size_at s i)) (Err TruncatedHeader))
    go true e = of_size (size_at s i) (sized s i (leb-true (i + 8) (length s) e))
    go false e = λ z. absurd (omega arith)

-- ---- walking up to n boxes, or up to m, is the same where both are enough
enough : (n m : ℕ) (s : List ℕ) (at : ℕ) → length s ≤ at + n → length s ≤ at + m → walk_up_to n s at ≡ walk_up_to m s at
enough zero m s at h k = sym (at_end m s at (omega arith))
enough (suc n) zero s at h k = at_end (suc n) s at (omega arith)
enough (suc n) (suc m) s at h k =
    go (eqb (header_refusal (header_at s at)) 0) refl (λ next l. enough n m s next (omega arith) (omega arith))
  where
    go : (t : Bool) → eqb (header_refusal (header_at s at)) 0 ≡ t → ((next : ℕ) → at + 8 ≤ next → walk_up_to n s next ≡ walk_up_to m s next)
        → cond t (header_or_blank (header_at s at) ∷ walk_up_to n s (after (header_or_blank (header_at s at)))) []
        ≡ cond t (header_or_blank (header_at s at) ∷ walk_up_to m s (after (header_or_blank (header_at s at)))) []
    go true e same = rw (same (after (header_or_blank (header_at s at))) (advances s at (eqb-true _ 0 e)).0)
    go false e same = refl

pub walk_whole : (n : ℕ) (s : List ℕ) (at : ℕ) → length s ≤ n → walk_up_to n s at ≡ walk s at
unfolding walk
walk_whole n s at h = enough n (length s) s at (omega arith) (omega arith)

-- ---- walking, one box at a time
pub walk_on : (s : List ℕ) (at : ℕ) → header_refusal (header_at s at) ≡ 0 → walk s at ≡ header_or_blank (header_at s at) ∷ walk s (after (header_or_blank (header_at s at)))
unfolding walk
walk_on s at e =
    let a = advances s at e in
    let more : walk_up_to (suc (length s)) s at ≡ header_or_blank (header_at s at) ∷ walk_up_to (length s) s (after (header_or_blank (header_at s at))) = rw e in
    enough (length s) (suc (length s)) s at (omega arith) (omega arith) ∙ more

pub walk_stops : (s : List ℕ) (at : ℕ) → (header_refusal (header_at s at) ≡ 0 → ⊥) → walk s at ≡ []
unfolding walk
walk_stops s at h =
    let none : walk_up_to (suc (length s)) s at ≡ [] = rw (ne_eqb _ _ h) in
    enough (length s) (suc (length s)) s at (omega arith) (omega arith) ∙ none
