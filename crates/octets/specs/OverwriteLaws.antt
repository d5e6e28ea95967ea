-- Laws of writing: what a write keeps, and how writes compose.
use Rattle.std.specs.Prelude.{◌≡◌, refl, List, [], ◌∷◌, ◌++◌, ℕ, suc, ◌+◌, ◌-◌, ◌≤◌, ◌<◌, length, take, drop, set}
use Rattle.std.proofs.Common.{sym, ap, ◌∙◌, append_assoc, append-nil, add-zero, add-suc, suc-add, le_refl, arith, length-append, length-drop, take-append-drop, drop_of_length-le, drop_at, length-take-le, take_all}
use Rattle.std.proofs.lemmas.List.Edits.{sets, sets-eq}
use Rattle.std.proofs.Math.Seq.{length-sets, take-append_seam}
use Rattle.std.proofs.lemmas.List.{take-set-le, drop-set-add, set_comm}
use Rattle.octets.specs.Overwrite.{overwrite, Wrote}

-- with room, it is the bytes before, `bs`, and the bytes after
pub overwrite-within : (out : List ℕ) (at : ℕ) (bs : List ℕ) → at + length bs ≤ length out
    → overwrite out at bs ≡ take at out ++ bs ++ drop (at + length bs) out
unfolding overwrite
overwrite-within out at bs h = sets-eq bs out at h

-- the length is kept
pub length-overwrite : (out : List ℕ) (at : ℕ) (bs : List ℕ) → length (overwrite out at bs) ≡ length out
unfolding overwrite
length-overwrite out at bs = length-sets out at bs

-- nothing written changes nothing
pub overwrite-nil : (out : List ℕ) (at : ℕ) → overwrite out at [] ≡ out
unfolding overwrite
overwrite-nil out at = refl

sets-append : (out : List ℕ) (at : ℕ) (xs bs : List ℕ) → sets out at (xs ++ bs) ≡ sets (sets out at xs) (at + length xs) bs
sets-append out at [] bs = rw add-zero
sets-append out at (a ∷ xs) bs = sets-append (set out at a) (suc at) xs bs ∙ simp (add-suc, suc-add)

-- a write of two runs is a write of the first and then one of the second, right after it
pub overwrite-append : (out : List ℕ) (at : ℕ) (xs bs : List ℕ)
    → overwrite out at (xs ++ bs) ≡ overwrite (overwrite out at xs) (at + length xs) bs
unfolding overwrite
overwrite-append out at xs bs = sets-append out at xs bs

-- so is a write of a byte and then of a run
pub overwrite_cons : (out : List ℕ) (at b : ℕ) (bs : List ℕ)
    → overwrite out at (b ∷ bs) ≡ overwrite (overwrite out at (b ∷ [])) (at + 1) bs
overwrite_cons out at b bs = overwrite-append out at (b ∷ []) bs

-- by which `grind` sees that writes one after another are one write of them all
pub ruleset writes = (overwrite_cons, overwrite-append, length-append)

sets-part : (out : List ℕ) (a k : ℕ) (bs : List ℕ) → take a out ++ sets (drop a out) k bs ≡ sets out (a + k) bs
sets-part out a k [] = take-append-drop a out
sets-part out a k (b ∷ bs) =
    ap (λ (l : List ℕ). l ++ sets (set (drop a out) k b) (suc k) bs) (sym (take-set-le a out (a + k) b (omega arith)))
    ∙ ap (λ (l : List ℕ). take a (set out (a + k) b) ++ sets l (suc k) bs) (sym (drop-set-add a out k b))
    ∙ sets-part (set out (a + k) b) a (suc k) bs
    ∙ rw add-suc

-- a write in the part from `a` on is a write in the whole, `a` further on
pub overwrite-part : (out : List ℕ) (a k : ℕ) (bs : List ℕ) → take a out ++ overwrite (drop a out) k bs ≡ overwrite out (a + k) bs
unfolding overwrite
overwrite-part out a k bs = sets-part out a k bs

set-sets : (out : List ℕ) (i : ℕ) (b : ℕ) (at : ℕ) (bs : List ℕ) → i < at → set (sets out at bs) i b ≡ sets (set out i b) at bs
set-sets out i b at [] h = refl
set-sets out i b at (x ∷ bs) h =
    set-sets (set out at x) i b (suc at) bs (omega arith) ∙ ap (λ (l : List ℕ). sets l (suc at) bs) (set_comm out at i x b (λ e. omega arith))

sets_comm : (out : List ℕ) (k : ℕ) (bs : List ℕ) (at : ℕ) (hs : List ℕ) → at + length hs ≤ k
    → sets (sets out k bs) at hs ≡ sets (sets out at hs) k bs
sets_comm out k bs at [] h = refl
sets_comm out k bs at (x ∷ hs) h =
    ap (λ (l : List ℕ). sets l (suc at) hs) (set-sets out at x k bs (omega arith)) ∙ sets_comm (set out at x) k bs (suc at) hs (omega arith)

-- two writes that do not meet may be done in either order
pub overwrite_comm : (out : List ℕ) (k : ℕ) (bs : List ℕ) (at : ℕ) (hs : List ℕ) → at + length hs ≤ k
    → overwrite (overwrite out k bs) at hs ≡ overwrite (overwrite out at hs) k bs
unfolding overwrite
overwrite_comm out k bs at hs h = sets_comm out k bs at hs h

-- the body first and what stands before it afterwards is one write of both
pub overwrite_before : (out : List ℕ) (at : ℕ) (hs bs : List ℕ)
    → overwrite (overwrite out (at + length hs) bs) at hs ≡ overwrite out at (hs ++ bs)
overwrite_before out at hs bs = overwrite_comm out (at + length hs) bs at hs (le_refl (at + length hs)) ∙ sym (overwrite-append out at hs bs)

-- with room, the bytes are there
pub written : (out : List ℕ) (at : ℕ) (bs : List ℕ) → at + length bs ≤ length out → take (length bs) (drop at (overwrite out at bs)) ≡ bs
written out at bs h =
    let k : at ≤ length out = omega arith in
    rw (overwrite-within out at bs h, append_assoc, drop_at (take at out) (bs ++ drop (at + length bs) out) at (length-take-le at out k))
    (take-append_seam bs (drop (at + length bs) out))

-- two writes, one after the other
pub then : {o o₁ o₂ : List ℕ} {a a₁ a₂ n m : ℕ} {xs bs : List ℕ}
    → Wrote o a n xs o₁ a₁ → Wrote o₁ a₁ m bs o₂ a₂ → Wrote o a (n + m) (xs ++ bs) o₂ a₂
then {o} {o₁} {o₂} {a} {a₁} {a₂} {n} {m} {xs} {bs} p q = record {
  next = omega (arith, p.next, q.next);
  size = simp length-append (omega (arith, p.size, q.size));
  left = rw (overwrite-append, ← p.left, p.size, ← p.next) q.left;
}

-- nothing written
pub nothing : (o : List ℕ) (a : ℕ) → Wrote o a 0 [] o a
nothing o a = record { next = sym (add-zero a); size = refl; left = sym (overwrite-nil o a) }

-- the length is kept, and what had room before has it after
pub kept : {o o' : List ℕ} {a n r : ℕ} {bs : List ℕ} → Wrote o a n bs o' r → length o' ≡ length o
kept {o} {o'} {a} {n} {r} {bs} w = ap length w.left ∙ length-overwrite o a bs

pub room : {o o' : List ℕ} {a n r : ℕ} {bs : List ℕ} (k : ℕ) → Wrote o a n bs o' r → a + n + k ≤ length o → r + k ≤ length o'
room {o} {o'} {a} {n} {r} {bs} k w h = omega (arith, w.next, kept w)

-- the same bytes under another name
pub recast : {o o' : List ℕ} {a n r : ℕ} {bs cs : List ℕ} → Wrote o a n bs o' r → bs ≡ cs → Wrote o a n cs o' r
recast w e = record { next = w.next; size = ap length (sym e) ∙ w.size; left = w.left ∙ rw e }

-- ---- a part lent on
-- what the part `&mut out[a..]` holds when it is lent, as the prover has it
abbrev pub lent : List ℕ → ℕ → List ℕ
lent o a = take (length o - a) (drop a o)

-- what it leaves in the whole when it comes back as `p`
abbrev pub returned : List ℕ → ℕ → List ℕ → List ℕ
returned o a p = take a o ++ (p ++ drop (length o - a) (drop a o))

lent_is : (o : List ℕ) (a : ℕ) → lent o a ≡ drop a o
lent_is o a = take_all (length o - a) (drop a o) (simp length-drop (le_refl (length o - a)))

-- a write in the part is a write in the whole
pub in_part : (o : List ℕ) (a : ℕ) {n m : ℕ} {bs p : List ℕ} → Wrote (lent o a) 0 n bs p m → returned o a p ≡ overwrite o a bs
in_part o a {n} {m} {bs} {p} w =
    let e : length (drop a o) ≤ length o - a = simp length-drop (le_refl (length o - a)) in
    rw (drop_of_length-le (drop a o) e, append-nil, w.left, lent_is, overwrite-part, add-zero)
