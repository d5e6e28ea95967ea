-- The associations kept of the first ones in a row, one more at a time; and why the main picture's row does not ask for `hdr`.
use Rattle.std.specs.Prelude.{◌≡◌, refl, Bool, true, false, cond, List, [], ◌∷◌, ◌++◌, ℕ, suc, ◌+◌, ◌≤◌, ◌<◌, T, length, take, drop, get_or}
use Rattle.std.specs.List.{count_by}
use Rattle.std.proofs.lemmas.List.Recursion.{is_count_by}
use Rattle.std.proofs.Common.{sym, ap, ◌∙◌, append-nil, append_assoc, arith, length-append, take-append-drop, take-suc}
use Rattle.mini.specs.NoPayloadGives.{lawful}
use Rattle.mini.specs.Write.{writable}
use Rattle.mini.specs.declared.MinimizedImage.{MinimizedImage}
use Rattle.slots.specs.Associations.{essential, optional, main_row, is_kept, kept, one}
use Rattle.slots.specs.Used.{used_slots}

pub kept_append : (used : List Bool) (xs ys : List ℕ) → kept used (xs ++ ys) ≡ kept used xs ++ kept used ys
unfolding kept
kept_append used [] ys = refl
kept_append used (x ∷ xs) ys = rw (kept_append used xs ys, append_assoc)

pub kept_more : (used : List Bool) (xs : List ℕ) (j : ℕ) → j < length xs
    → kept used (take j xs) ++ cond (is_kept used (get_or xs j 0)) (get_or xs j 0 ∷ []) [] ≡ kept used (take (suc j) xs)
unfolding kept
kept_more used xs j h = sym (rw (take-suc xs j 0 h, kept_append) (rw append-nil))

-- no more are kept of the first ones than of all
kept-first : (used : List Bool) (xs : List ℕ) (j : ℕ) → length (kept used (take j xs)) ≤ length (kept used xs)
kept-first used xs j =
    let e = ap length (ap (kept used) (sym (take-append-drop j xs)) ∙ kept_append used (take j xs) (drop j xs)) in
    omega (arith, e, length-append (kept used (take j xs)) (kept used (drop j xs)))

length_if : (t : Bool) (x : ℕ) → length (cond t (x ∷ []) []) ≡ one t
length_if true x = refl
length_if false x = refl

pub kept_count : (used : List Bool) (xs : List ℕ) (j : ℕ) → j < length xs
    → length (kept used (take j xs)) + one (is_kept used (get_or xs j 0)) ≡ length (kept used (take (suc j) xs))
kept_count used xs j h =
    omega (
      arith,
      ap length (kept_more used xs j h),
      length-append (kept used (take j xs)) (cond (is_kept used (get_or xs j 0)) (get_or xs j 0 ∷ []) []),
      length_if (is_kept used (get_or xs j 0)) (get_or xs j 0),
    )

-- how many are kept
kept_step : (t : Bool) (x : ℕ) (ys : List ℕ) → length (cond t (x ∷ []) [] ++ ys) ≡ cond t (1 + length ys) (length ys)
kept_step true x ys = omega arith
kept_step false x ys = refl

pub length-kept : (used : List Bool) (xs : List ℕ) → length (kept used xs) ≡ count_by (is_kept used) xs
unfolding kept
length-kept used xs = is_count_by (λ ys. length (kept used ys)) (is_kept used) refl (λ y ys. kept_step (is_kept used y) y (kept used ys)) xs

-- a further one has room where all have it
pub kept_room : (used : List Bool) (xs : List ℕ) (j : ℕ) → j < length xs
    → length (kept used (take j xs)) + one (is_kept used (get_or xs j 0)) ≤ length (kept used xs)
kept_room used xs j h = omega (arith, kept_count used xs j h, kept-first used xs (suc j))

-- ---- the Rust's row for a record without `hdr`, which leaves out 11 to 16
unfoldable pub plain_row : List ℕ
plain_row = essential 1 ∷ optional 2 ∷ optional 3 ∷ essential 4 ∷ essential 5 ∷ essential 9 ∷ essential 10 ∷ []

pub row_without_hdr : (i : MinimizedImage) → T (writable i) → i.hdr ≡ false → kept (used_slots i) main_row ≡ kept (used_slots i) plain_row
unfolding kept used_slots main_row plain_row
row_without_hdr i w e = rw ((lawful i w).boxes_hdr e)
