-- Rows of one width, written one after another.
use Rattle.std.specs.Prelude.{◌≡◌, List, map, ℕ, ◌+◌, ◌*◌, ◌≤◌, ◌<◌, length, take, get_or}
use Rattle.std.proofs.Common.{sym, ap, subst, arith, take_all}
use Rattle.mini.specs.Cut.{joined, joined_more}
use Rattle.octets.specs.Overwrite.{Wrote}
use Rattle.octets.specs.OverwriteLaws.{then, recast}

-- one row more
pub row-more : {A : Type 0} {o o₁ o₂ : List ℕ} {a a₁ a₂ w k : ℕ} (f : A → List ℕ) (xs : List A) (d : A) → k < length xs
    → Wrote o a (w * k) (joined (map f (take k xs))) o₁ a₁ → Wrote o₁ a₁ w (f (get_or xs k d)) o₂ a₂
    → Wrote o a (w * (k + 1)) (joined (map f (take (k + 1) xs))) o₂ a₂
row-more {o = o} {o₂ = o₂} {a = a} {a₂ = a₂} {w = w} {k = k} f xs d h p q =
    subst (λ (n : ℕ). Wrote o a n (joined (map f (take (k + 1) xs))) o₂ a₂) (omega arith) (recast (then p q) (sym (joined_more f xs k d h)))

-- all of them
pub rows-all : {A : Type 0} {o o' : List ℕ} {a r n : ℕ} (w k : ℕ) (f : A → List ℕ) (xs : List A) → length xs ≤ k → w * k ≡ n
    → Wrote o a (w * k) (joined (map f (take k xs))) o' r → Wrote o a n (joined (map f xs)) o' r
rows-all {A} {o} {o'} {a} {r} w k f xs h e p =
    subst (λ (m : ℕ). Wrote o a m (joined (map f xs)) o' r) e (recast p (ap (λ (l : List A). joined (map f l)) (take_all k xs h)))
