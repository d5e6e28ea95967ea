-- A list of bytes cut into chunks of given sizes, one after another, and joined again; all the chunks end within the bytes exactly where
-- the last does. Assumes nothing.
use Rattle.std.specs.Prelude.{Bool, true, false, cond, ◌&&◌, ◌≡◌, refl, List, [], ◌∷◌, ◌++◌, map, ℕ, ◌+◌, ◌≤◌, ◌<◌, T, leb, length, take, drop, get_or}
use Rattle.std.proofs.Common.{sym, ap, ap₂, ◌∙◌, append-nil, append_assoc, add-one, add-zero, add_assoc, arith, leb→le, le→leb, length-append, take-append-drop, take-suc, take_at, drop_at, drop-drop, leb-true, leb-false, le-leb}
use Rattle.std.proofs.lemmas.Bool.{lt-leb}
use Rattle.std.proofs.lemmas.List.{map-append}
use Rattle.bits.specs.Format.{and_split, and_join}
use Rattle.mini.specs.Chunks.{end_within, first_past}

abbrev pub sum : List ℕ → ℕ
sum [] = 0
sum (z ∷ zs) = z + sum zs

abbrev pub joined : List (List ℕ) → List ℕ
joined [] = []
joined (c ∷ cs) = c ++ joined cs

pub joined-append : (l m : List (List ℕ)) → joined (l ++ m) ≡ joined l ++ joined m
joined-append [] m = refl
joined-append (x ∷ l) m = ap (λ (y : List ℕ). x ++ y) (joined-append l m) ∙ sym (append_assoc x (joined l) (joined m))

-- of what is written item by item, one item more
pub joined_more : {A : Type 0} (f : A → List ℕ) (xs : List A) (k : ℕ) (d : A) → k < length xs
    → joined (map f (take (k + 1) xs)) ≡ joined (map f (take k xs)) ++ f (get_or xs k d)
joined_more f xs k d h = rw (add-one, take-suc xs k d h) (simp (map-append, joined-append, append-nil))

-- the chunks of the given sizes, one after another from at on
abbrev pub cut : ℕ → List ℕ → List ℕ → List (List ℕ)
cut at [] s = []
cut at (z ∷ zs) s = take z (drop at s) ∷ cut (at + z) zs s

-- a cut list: the chunks, then what is left
pub cut-joined : (zs : List ℕ) (at : ℕ) (s : List ℕ) → drop at s ≡ joined (cut at zs s) ++ drop (at + sum zs) s
cut-joined [] at s = ap (λ (k : ℕ). drop k s) (sym (add-zero at))
cut-joined (z ∷ zs) at s =
    sym (take-append-drop z (drop at s))
    ∙ ap (λ (m : List ℕ). take z (drop at s) ++ m) (drop-drop z at s ∙ cut-joined zs (at + z) s)
    ∙ sym (append_assoc (take z (drop at s)) (joined (cut (at + z) zs s)) (drop (at + z + sum zs) s))
    ∙ ap (λ (k : ℕ). take z (drop at s) ++ joined (cut (at + z) zs s) ++ drop k s) (add_assoc at z (sum zs))

-- chunks joined after p, cut again by their sizes
pub joined-cut : (cs : List (List ℕ)) (p rest : List ℕ) → cut (length p) (map length cs) (p ++ (joined cs ++ rest)) ≡ cs
joined-cut [] p rest = refl
joined-cut (c ∷ cs) p rest =
    ap₂ (λ (x : List ℕ) (y : List (List ℕ)). x ∷ y)
    (ap (λ (m : List ℕ). take (length c) m) (drop_at p (c ++ joined cs ++ rest) (length p) refl ∙ append_assoc c (joined cs) rest)
    ∙ take_at c (joined cs ++ rest) (length c) refl)
    (ap₂ (λ (k : ℕ) (m : List ℕ). cut k (map length cs) m) (sym (length-append p c))
    (ap (λ (m : List ℕ). p ++ m) (append_assoc c (joined cs) rest) ∙ sym (append_assoc p c (joined cs ++ rest)))
    ∙ joined-cut cs (p ++ c) rest)

pub length-joined : (cs : List (List ℕ)) → length (joined cs) ≡ sum (map length cs)
length-joined [] = refl
length-joined (c ∷ cs) = length-append c (joined cs) ∙ ap (λ (k : ℕ). length c + k) (length-joined cs)

-- ---- where the chunks end
and-leb : (a b n : ℕ) → a ≤ b → (leb a n && leb b n) ≡ leb b n
and-leb a b n h = go (leb a n) (leb b n) refl refl
  where
    go : (t u : Bool) → leb a n ≡ t → leb b n ≡ u → (t && u) ≡ u
    go true u e f = refl
    go false true e f = absurd (omega (arith, leb-false a n e, leb-true b n f))
    go false false e f = refl

pub end_within-sum : (zs : List ℕ) (n at z : ℕ) → end_within n at (z ∷ zs) ≡ leb (at + sum (z ∷ zs)) n
unfolding end_within
end_within-sum [] n at z = go (leb (at + z) n) ∙ ap (λ (k : ℕ). leb k n) (omega arith)
  where
    go : (t : Bool) → (t && true) ≡ t
    go true = refl
    go false = refl
end_within-sum (y ∷ zs) n at z =
    ap (λ (t : Bool). leb (at + z) n && t) (end_within-sum zs n (at + z) y)
    ∙ and-leb (at + z) (at + z + sum (y ∷ zs)) n (omega arith)
    ∙ ap (λ (k : ℕ). leb k n) (add_assoc at z (sum (y ∷ zs)))

pub within_of : (zs : List ℕ) (n at : ℕ) → at + sum zs ≤ n → T (end_within n at zs)
unfolding end_within
within_of [] n at h = tt
within_of (z ∷ zs) n at h =
    and_join (leb (at + z) n) (end_within n (at + z) zs)
    (le→leb (at + z) n (omega arith), within_of zs n (at + z) (omega arith))

pub of_within : (zs : List ℕ) (n at : ℕ) → at ≤ n → T (end_within n at zs) → at + sum zs ≤ n
unfolding end_within
of_within [] n at l h = omega arith
of_within (z ∷ zs) n at l h =
    let w = and_split (leb (at + z) n) (end_within n (at + z) zs) h in
    let r = of_within zs n (at + z) (leb→le (at + z) n w.0) w.1 in
    omega arith

-- ---- where the first begins that ends past n: here, or among those that follow
pub past_here : (n at z : ℕ) (zs : List ℕ) → n < at + z → first_past n at (z ∷ zs) ≡ at
unfolding first_past
past_here n at z zs h = ap (λ (t : Bool). cond t (first_past n (at + z) zs) at) (lt-leb (at + z) n h)

pub past_later : (n at z : ℕ) (zs : List ℕ) → at + z ≤ n → first_past n at (z ∷ zs) ≡ first_past n (at + z) zs
unfolding first_past
past_later n at z zs h = ap (λ (t : Bool). cond t (first_past n (at + z) zs) at) (le-leb (at + z) n h)

pub first_past-sum : (zs : List ℕ) (n at : ℕ) → first_past n at zs ≤ at + sum zs
unfolding first_past
first_past-sum [] n at = omega arith
first_past-sum (z ∷ zs) n at = go (leb (at + z) n) (first_past n (at + z) zs) (first_past-sum zs n (at + z))
  where
    go : (t : Bool) (k : ℕ) → k ≤ at + z + sum zs → cond t k at ≤ at + (z + sum zs)
    go true k h = omega arith
    go false k h = omega arith
