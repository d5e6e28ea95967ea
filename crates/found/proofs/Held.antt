-- When bytes are held by others at a place, and laws of it: of any bytes.
use Rattle.std.specs.Prelude.{◌≡◌, refl, Bool, true, false, cond, List, [], ◌∷◌, ℕ, ◌+◌, ◌-◌, ◌≤◌, ◌<◌, length, take, drop}
use Rattle.std.proofs.Common.{ap, arith, length-take, length-drop, take-take, drop-drop}
use Rattle.std.proofs.Math.Seq.{take-length}
use Rattle.std.proofs.lemmas.List.{drop-take, take_min}
use Rattle.octets.specs.Part.{part_of, within}

-- f holds b at a place
pub record Held (f : List ℕ) (at : ℕ) (b : List ℕ) : Type 0 where
  pub bytes : take (length b) (drop at f) ≡ b

pub held_none : {f : List ℕ} {at : ℕ} → Held f at []
held_none = record { bytes = refl }

pub held_take : (f : List ℕ) (at n : ℕ) → Held f at (take n (drop at f))
held_take f at n = record { bytes = rw length-take (take_min n (drop at f)) }

pub held_part : (f : List ℕ) (at n : ℕ) → Held f at (part_of f at n)
unfolding part_of
held_part f at n = go (within at n (length f))
  where
    go : (t : Bool) → Held f at (cond t (take n (drop at f)) [])
    go true = held_take f at n
    go false = held_none

held_fits : {f b : List ℕ} {at : ℕ} → Held f at b → length b ≤ length f - at
held_fits {f} {b} {at} h = omega (arith, ap length h.bytes, length-take (length b) (drop at f), length-drop at f)

-- bytes that are some lie within those that hold them
pub held_placed : {f b : List ℕ} {at : ℕ} → Held f at b → 0 < length b → at + length b ≤ length f
held_placed h n = omega (arith, held_fits h)

-- bytes held by bytes that are held
pub held_in : {f b d : List ℕ} {at place : ℕ} → Held f at b → Held b place d → Held f (at + place) d
held_in {d = []} h k = held_none
held_in {f = f} {b = b} {d = x ∷ d} {at = at} {place = place} h k =
    let m = length (x ∷ d) in
    let rest = length b - place in
    let n : length b ≡ place + rest = omega (arith, held_fits k) in
    let fits : m ≤ rest = held_fits k in
    record {
      bytes =
          rw (← drop-drop place at f, ← take-take m rest (drop place (drop at f)) fits, ← drop-take place rest (drop at f), ← n, h.bytes)
          k.bytes;
    }

pub held_drop : {f b : List ℕ} {at : ℕ} (k : ℕ) → Held f at b → Held f (at + k) (drop k b)
held_drop {b = b} k h = held_in h (record { bytes = take-length (drop k b) })
