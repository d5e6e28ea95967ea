-- Bytes copied into a lent output one run after another: where there is room for all of them, one write (octets, Overwrite). The place
-- counts as a usize does, so that a run without room tells how much room it needs.
use Rattle.std.specs.Prelude.{◌≡◌, ℕ, zero, suc, ◌+◌, ◌-◌, ◌%◌, ◌^◌, ◌<◌, ◌≤◌, min, Bool, true, false, cond, List, [], ◌∷◌, ◌++◌, length, take, drop, nat_le, refl}
use Rattle.std.proofs.Common.{sym, ap, ◌∙◌, subst, append-nil, arith, length-append, length-take, length-drop, leb-false}
use Rattle.std.proofs.Math.Nat.{zero-min, min-zero, suc-min-suc}
use Rattle.octets.specs.Overwrite.{overwrite, Wrote}
use Rattle.octets.specs.OverwriteLaws.{overwrite-append, overwrite-nil, length-overwrite}
use Rattle.octets.specs.Part.{part_of}

pub record Laid (o : List ℕ) (at : ℕ) (bs o' : List ℕ) (r : ℕ) : Type 0 where
  pub next : r ≡ (at + length bs) % 2 ^ 64
  pub kept : length o' ≡ length o
  pub left : length o < 2 ^ 64 → at + length bs ≤ length o → o' ≡ overwrite o at bs

-- ---- laws
pub then : {o o₁ o₂ : List ℕ} {a a₁ a₂ : ℕ} {xs ys : List ℕ} → Laid o a xs o₁ a₁ → Laid o₁ a₁ ys o₂ a₂ → Laid o a (xs ++ ys) o₂ a₂
then {o} {o₁} {o₂} {a} {a₁} {a₂} {xs} {ys} p q =
    let n : length (xs ++ ys) ≡ length xs + length ys = length-append xs ys in
    record {
      next = omega (arith, p.next, q.next, n);
      kept = q.kept ∙ p.kept;
      left = λ h k.
          let e : a₁ ≡ a + length xs = omega (arith, p.next, n) in
          let f : o₁ ≡ overwrite o a xs = p.left h (omega (arith, n)) in
          q.left (omega (arith, p.kept)) (omega (arith, p.kept, n))
          ∙ ap (λ (x : List ℕ). overwrite x a₁ ys) f
          ∙ ap (λ (k : ℕ). overwrite (overwrite o a xs) k ys) e
          ∙ sym (overwrite-append o a xs ys);
    }

pub none : (o : List ℕ) (a : ℕ) → a < 2 ^ 64 → Laid o a [] o a
none o a h = record { next = omega arith; kept = refl; left = λ k l. sym (overwrite-nil o a) }

pub laid_as : {o o' : List ℕ} {a r : ℕ} {xs ys : List ℕ} → xs ≡ ys → Laid o a xs o' r → Laid o a ys o' r
laid_as {o} {o'} {a} {r} e x = subst (λ (l : List ℕ). Laid o a l o' r) e x

pub ended : {o o' : List ℕ} {a r : ℕ} {xs : List ℕ} → Laid o a xs o' r → Laid o a (xs ++ []) o' r
ended {xs = xs} x = laid_as (sym (append-nil xs)) x

-- ---- a part of the source, as far as the source has it
take_held : (n : ℕ) (l : List ℕ) → take (min n (length l)) l ≡ take n l
take_held zero l = ap (λ (k : ℕ). take k l) (zero-min (length l))
take_held (suc n) [] = ap (λ (k : ℕ). take k []) (min-zero (suc n))
take_held (suc n) (x ∷ l) = ap (λ (k : ℕ). take k (x ∷ l)) (suc-min-suc n (length l)) ∙ ap (λ (m : List ℕ). x ∷ m) (take_held n l)

pub part_is : (s : List ℕ) (from len n : ℕ) → n ≡ min len (length s - from) → part_of s from n ≡ take len (drop from s)
unfolding part_of
part_is s from len n e = go (nat_le (from + n) (length s)) refl
  where
    same : take n (drop from s) ≡ take len (drop from s)
    same = ap (λ (k : ℕ). take k (drop from s)) (e ∙ ap (λ (k : ℕ). min len k) (sym (length-drop from s))) ∙ take_held len (drop from s)

    go : (t : Bool) → nat_le (from + n) (length s) ≡ t → cond t (take n (drop from s)) [] ≡ take len (drop from s)
    go true f = same
    go false f =
        let z : n ≡ 0 = omega (arith, leb-false (from + n) (length s) f) in
        ap (λ (k : ℕ). take k (drop from s)) (sym z) ∙ same

held_length : (s : List ℕ) (from len n : ℕ) → n ≡ min len (length s - from) → length (take len (drop from s)) ≡ n
held_length s from len n e = length-take len (drop from s) ∙ ap (λ (k : ℕ). min len k) (length-drop from s) ∙ sym e

-- no room: nothing is copied
pub laid_skip : (s o : List ℕ) (from len at n r : ℕ) → n ≡ min len (length s - from) → r ≡ (at + n) % 2 ^ 64 → length o < at + n
    → Laid o at (take len (drop from s)) o r
laid_skip s o from len at n r e f h =
    let l = held_length s from len n e in
    record { next = omega (arith, f, l); kept = refl; left = λ k z. absurd (omega (arith, l)) }

pub laid_copy : (s : List ℕ) {o o' p : List ℕ} (from len at n r : ℕ) {m q : ℕ} → n ≡ min len (length s - from) → r ≡ (at + n) % 2 ^ 64 → p ≡ part_of s from n
    → Wrote o at m p o' q → Laid o at (take len (drop from s)) o' r
laid_copy s {o} {o'} {p} from len at n r e f g w =
    let l = held_length s from len n e in
    let b : p ≡ take len (drop from s) = g ∙ part_is s from len n e in
    record {
      next = omega (arith, f, l);
      kept = ap length w.left ∙ length-overwrite o at p;
      left = λ h k. w.left ∙ ap (λ (x : List ℕ). overwrite o at x) b;
    }

pub part_short : (s : List ℕ) (from n : ℕ) {p : List ℕ} → p ≡ part_of s from n → length p ≤ n
unfolding part_of
part_short s from n {p} e = omega (arith, ap length e, go (nat_le (from + n) (length s)))
  where
    go : (t : Bool) → length (cond t (take n (drop from s)) []) ≤ n
    go true = simp length-take (omega arith)
    go false = omega arith

pub laid_kept : {o o' : List ℕ} {a r : ℕ} {bs : List ℕ} → Laid o a bs o' r → length o' ≡ length o
laid_kept x = x.kept
