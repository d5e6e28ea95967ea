-- Walking one box at a time, whose header was read: what is found from its place on.
use Rattle.std.proofs.Common.{◌≡◌, refl, sym, List, [], ◌∷◌, ℕ, suc, get_or}
use borrow.Author.Tests.{eq-eqb, ne_eqb}
use Rattle.std.specs.Prelude.{Ok, Err}
use Rattle.boxes.specs.Header.{blank, number_not_zero, header_at}
use Rattle.boxes.specs.Walk.{after, walk, find}
use Rattle.boxes.specs.WalkEnds.{walk_on, walk_stops}
use Rattle.boxes.specs.declared.BoxHeader.{BoxHeader}
use Rattle.boxes.specs.declared.HeaderError.{HeaderError}

module _ (s : List ℕ) (at : ℕ) where
  pub one_on : {h : BoxHeader} → Ok h ≡ header_at s at → walk s at ≡ h ∷ walk s (after h)
  one_on read = rw (← read) at (walk_on s at (rw (← read) refl))

  pub no_more : {e : HeaderError} → Err e ≡ header_at s at → walk s at ≡ []
  no_more {e} read = walk_stops s at (λ z. number_not_zero e (rw (← read) at z))

  pub found_here : (type : ℕ) {h : BoxHeader} → Ok h ≡ header_at s at → h.box_type ≡ type → find type (walk s at) ≡ h
  found_here type read f = rw (one_on read, eq-eqb _ _ f)

  pub found_later : (type : ℕ) {h : BoxHeader} → Ok h ≡ header_at s at → (h.box_type ≡ type → ⊥) → find type (walk s (after h)) ≡ find type (walk s at)
  found_later type read f = sym (rw (one_on read, ne_eqb _ _ f))

  pub found_none : (type : ℕ) {e : HeaderError} → Err e ≡ header_at s at → find type (walk s at) ≡ blank
  found_none type read = rw (no_more read)

  pub numbered_here : {h : BoxHeader} (n : ℕ) → Ok h ≡ header_at s at → n ≡ 0 → get_or (walk s at) n blank ≡ h
  numbered_here n read f = rw (f, one_on read)

  pub numbered_later : {h : BoxHeader} (n m : ℕ) → Ok h ≡ header_at s at → n ≡ suc m → get_or (walk s (after h)) m blank ≡ get_or (walk s at) n blank
  numbered_later n m read f = sym (rw (f, one_on read))

  pub numbered_none : {e : HeaderError} (n : ℕ) → Err e ≡ header_at s at → get_or (walk s at) n blank ≡ blank
  numbered_none n read = rw (no_more read)
