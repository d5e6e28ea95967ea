-- The ways in which an exported function answers (Answer): it refuses, the output is too short, or the bytes are written; and the same of a call
-- that has written by itself. Assumes nothing.
use Rattle.std.specs.Prelude.{◌≡◌, refl, Bool, true, false, cond, List, ℕ, ◌≤◌, ◌<◌, eqb, ltb, Result, Err}
use Rattle.std.proofs.Common.{sym, ap, ◌∙◌, subst, ltb-true, ltb-false}
use native.Mathlib.Omega.{arith}
use Rattle.std.proofs.Math.ListN.{length}
use borrow.Author.Tests.{eq-eqb, ne_eqb, lt-ltb, le-ltb}
use Rattle.octets.specs.Overwrite.{overwrite, Wrote}
use Rattle.bits.specs.declared.ReadError.{ReadError}
use Rattle.mini.proofs.RefusedBit.{bit_small}
use Rattle.mini.specs.Read.{read_mini, reading_of, Reading}
use Rattle.mini.specs.declared.MinimizedImage.{MinimizedImage}
use Rattle.expander.specs.Outcome.{refusal_of}
use Rattle.writer.specs.ToBox.{refused}
use Rattle.refusals.specs.Outcome.{Written}
use Rattle.exports.specs.Answer.{unit, packed, answer, Answered, expand_refusal}

module _ {refusal bit : ℕ} {bytes out : List ℕ} where
  -- the call refuses
  pub refuses : {r : ℕ} → (refusal ≡ 0 → ⊥) → r ≡ packed refusal bit → Answered refusal bit bytes out out r
  unfolding answer
  refuses h e = record { is = simp (ne_eqb refusal 0 h, e) }

  -- the output is too short
  pub lacks_room : {r n : ℕ} → refusal ≡ 0 → length bytes ≡ n → length out < n → r ≡ packed 16 n → Answered refusal bit bytes out out r
  unfolding answer
  lacks_room {r} {n} z s h e = let k : length out < n = omega arith in record { is = simp (s, z, lt-ltb _ _ k, e) }

  -- the bytes are written
  pub hands_out : {out' : List ℕ} {r n : ℕ} → refusal ≡ 0 → Wrote out 0 n bytes out' r → n ≤ length out → Answered refusal bit bytes out out' n
  unfolding answer
  hands_out {out'} {r} {n} z w h =
      record { is = simp (w.size, w.left, z, le-ltb _ _ h) }

-- `hand_out`: the output is too short, or the bytes are written
pub handed_out : {refusal bit : ℕ} {bytes out out' : List ℕ} {r n : ℕ} → refusal ≡ 0 → length bytes ≡ n
    → (length out < n → (r ≡ packed 16 n) × (out' ≡ out))
    → (n ≤ length out → Wrote out 0 n bytes out' r)
    → Answered refusal bit bytes out out' r
handed_out {refusal} {bit} {bytes} {out} {out'} {r} {n} z s short wrote = go (ltb (length out) n) refl
  where
    go : (t : Bool) → ltb (length out) n ≡ t → Answered refusal bit bytes out out' r
    go true e =
        let h = ltb-true (length out) n e in
        rw (short h).1 (lacks_room z s h (short h).0)
    go false e =
        let h = ltb-false (length out) n e in
        let k : r ≡ n = omega (arith, (wrote h).next) in
        rw k (hands_out z (wrote h) h)

-- a call that answers with a number and a value, and has written by itself
pub answers : (n v : ℕ) (b out : List ℕ) {w : Written} {out' : List ℕ} {r : ℕ}
    → ◌≡◌ {A = Written × List ℕ} (w, out')
    (cond (eqb n 0) (cond (ltb (length out) (length b)) (refused 16 (length b) out) (record { refusal = 0; value = length b }, overwrite out 0 b))
    (refused n v out))
    → r ≡ packed w.refusal w.value → Answered n v b out out' r
unfolding answer
answers n v b out {w} {out'} {r} e f =
    record {
      is =
          ap (λ (k : ℕ). (k, out')) f
          ∙ ap (λ (x : Written × List ℕ). (packed x.0.refusal x.0.value, x.1)) e
          ∙ go (eqb n 0) (ltb (length out) (length b));
    }
  where
    a : Bool → Written × List ℕ
    a u = cond u (refused 16 (length b) out) (record { refusal = 0; value = length b }, overwrite out 0 b)

    go : (t u : Bool)
        → ◌≡◌ {A = ℕ × List ℕ} (packed (cond t (a u) (refused n v out)).0.refusal (cond t (a u) (refused n v out)).0.value, (cond t (a u) (refused n v out)).1)
        (cond t (cond u (packed 16 (length b), out) (length b, overwrite out 0 b)) (packed n v, out))
    go true true = refl
    go true false = ap (λ (k : ℕ). (k, overwrite out 0 b)) (omega arith)
    go false u = refl

pub answered_as : {n m v w : ℕ} {b out out' : List ℕ} {r : ℕ} → n ≡ m → v ≡ w → Answered n v b out out' r → Answered m w b out out' r
answered_as {m = m} {v = v} {b = b} {out = out} {out' = out'} {r = r} e f x =
    subst (λ (k : ℕ). Answered m k b out out' r) f (subst (λ (k : ℕ). Answered k v b out out' r) e x)

-- the bit of a refusal of reading leaves room for the refusal's number
pub bit_fits : (p : List ℕ) {r : Result MinimizedImage ReadError} {e : ReadError} → r ≡ Err e → reading_of r ≡ read_mini p → e.bit < unit
bit_fits p h q = subst (λ (r : Reading). r.bit < unit) (sym (ap reading_of (sym h) ∙ q)) (bit_small p)

-- the refusal of reading and then expanding, where reading refuses, and where it does not
pub refused_reading : (p brands : List ℕ) → ((read_mini p).refusal ≡ 0 → ⊥) → (read_mini p).refusal ≡ expand_refusal p brands
unfolding expand_refusal
refused_reading p brands h =
    sym (ap (λ (t : Bool). cond t (refusal_of (read_mini p).image p brands) (read_mini p).refusal) (ne_eqb (read_mini p).refusal 0 h))

pub past_reading : (p brands : List ℕ) → (read_mini p).refusal ≡ 0 → refusal_of (read_mini p).image p brands ≡ expand_refusal p brands
unfolding expand_refusal
past_reading p brands h =
    sym (ap (λ (t : Bool). cond t (refusal_of (read_mini p).image p brands) (read_mini p).refusal) (eq-eqb (read_mini p).refusal 0 h))
