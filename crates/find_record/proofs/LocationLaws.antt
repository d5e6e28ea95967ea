-- An item's first location, found one entry at a time, and the bytes that a file has of it.
use Rattle.std.proofs.Common.{◌≡◌, refl, sym, ap, ◌∙◌, Bool, true, false, cond, List, [], ℕ, zero, suc, ◌+◌, ◌-◌, ◌≤◌, eqb, leb, length, drop, take, min, arith, length-take, length-drop, get_or-drop, drop-drop, take_all, add-zero, eq-eqb, ne_eqb, leb-false, add_assoc}
use Rattle.std.proofs.Math.ListN.{drop_of_length-le}
use Rattle.std.proofs.lemmas.List.{take_min}
use Rattle.octets.specs.BigEndian.{num}
use Rattle.octets.specs.Part.{part_of}
use Rattle.items.specs.OneLocation.{locations_of}
use Rattle.items.specs.ReadLocations.{read_entries}
use Rattle.mini.specs.Same.{span_bytes}
use Rattle.octets.specs.declared.Span.{Span}
use Rattle.carried.specs.ReadFile.{first_span}

num_drop : (n k : ℕ) (s : List ℕ) (i : ℕ) → num n (drop k s) i ≡ num n s (k + i)
unfolding num
num_drop zero k s i = refl
num_drop (suc n) k s i = rw (num_drop n k s i, get_or-drop, add_assoc)

-- ---- the entries that are left
id_read : (s : List ℕ) (at : ℕ) → num 2 (drop at s) 0 ≡ num 2 s at
id_read s at = num_drop 2 at s 0 ∙ ap (λ k. num 2 s k) (add-zero at)

module _ (s : List ℕ) (id at : ℕ) where
  pub entry_here : (n : ℕ) → 1 ≤ n → num 2 s at ≡ id
      → first_span (locations_of id (read_entries n (drop at s))) ≡ record { at = num 4 s (at + 8); len = num 4 s (at + 12) }
  entry_here zero h f = absurd (omega arith)
  entry_here (suc n) h f = rw (id_read s at, f, eq-eqb id id refl, num_drop 4 at s 8, num_drop 4 at s 12)

  pub entry_later : (n m next : ℕ) → n ≡ suc m → next ≡ at + 16 → (num 2 s at ≡ id → ⊥)
      → first_span (locations_of id (read_entries n (drop at s))) ≡ first_span (locations_of id (read_entries m (drop next s)))
  entry_later n m next e g f =
      let other : eqb id (num 2 s at) ≡ false = ne_eqb _ _ (λ t. f (sym t)) in
      rw (e, g, id_read s at, other, drop-drop)

pub no_entry : (s : List ℕ) (id n : ℕ) → n ≡ 0 → first_span (locations_of id (read_entries n s)) ≡ record { at = 0; len = 0 }
no_entry s id n e = rw e refl

-- ---- the bytes there
pub held_len : (f : List ℕ) (x : Span) → length (span_bytes x f) ≡ min x.len (length f - x.at)
held_len f x = simp (length-take, length-drop)

cut : (f : List ℕ) (at len : ℕ) → take (min len (length f - at)) (drop at f) ≡ take len (drop at f)
cut f at len = rw (← (length-drop at f)) (take_min len (drop at f))

pub held_bytes : (f : List ℕ) (x : Span) → part_of f x.at (min x.len (length f - x.at)) ≡ span_bytes x f
unfolding part_of
held_bytes f x = go (leb (x.at + min x.len (length f - x.at)) (length f)) refl
  where
    go : (t : Bool) → leb (x.at + min x.len (length f - x.at)) (length f) ≡ t → cond t (take (min x.len (length f - x.at)) (drop x.at f)) [] ≡ span_bytes x f
    go true e = cut f x.at x.len
    go false e =
        let past : length f ≤ x.at = omega (arith, leb-false (x.at + min x.len (length f - x.at)) (length f) e) in
        sym (rw (drop_of_length-le f past) (take_all x.len [] (omega arith)))
