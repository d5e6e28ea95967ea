-- How a function that reads part by part is shown to read its format: one rule for each way in which formats are put together.
-- Assumes nothing.
use Rattle.std.specs.Prelude.{◌≡◌, Bool, true, false, List, ℕ, ◌+◌, ◌*◌, length, T, eqb, leb, ◌↔◌}
use Rattle.std.proofs.Common.{sym, ap₂, ◌∙◌, true≢false, eq-eqb, ne_eqb}
use Rattle.std.proofs.Math.Path.{ap}
use Rattle.std.proofs.lemmas.Bool.{false≢true}
use Rattle.bits.specs.State.{State, is_test_refusal, ahead, ahead_if, part, part_if, bytes_if, read_bits, read_bytes, refuse_if, test}
use Rattle.bits.specs.Format.{Format, field, bytes, flag, minus1, offset, choose, view, ensure, exactly, ◌>>=◌, ◌>>◌}
use Rattle.bits.specs.declared.BitPos.{BitPos}
use Rattle.bits.specs.declared.Bits.{Bits}

-- a place in bits: those of the whole bytes passed, and those of the next
abbrev pub bit_index : BitPos → ℕ
bit_index at = at.0 * 8 + at.1

-- the state that the code's reader holds
unfoldable pub state : Bits → State
state b = record { at = bit_index b.at; refusal = b.refusal }

-- reading by p from b on gives a, and goes on from c
pub record Run {A : Type 0} (p : Format A) (s : List ℕ) (b : State) (a : A) (c : State) : Type 0 where
  pub eq : p.parse s b ≡ (a, c)

-- ---- the three answers of the primitive
pub ahead_stuck : (s : List ℕ) (b : State) (n : ℕ) → (b.refusal ≡ 0 → ⊥) → ahead s b n ≡ (false, b)
unfolding ahead
ahead_stuck s b n h = ap (λ (t : Bool). ahead_if t (leb (b.at + n) (8 * length s)) b n) (ne_eqb b.refusal 0 h)

pub ahead_there : (s : List ℕ) (b : State) (n p : ℕ) → b.refusal ≡ 0 → leb (b.at + n) (8 * length s) ≡ true → b.at + n ≡ p
    → ahead s b n ≡ (true, record { at = p; refusal = 0 })
unfolding ahead
ahead_there s b n p h u e =
    ap₂ (λ (t u : Bool). ahead_if t u b n) (eq-eqb b.refusal 0 h) u ∙ ap (λ (k : ℕ). (true, record { at = k; refusal = 0 })) e

pub ahead_short : (s : List ℕ) (b : State) (n : ℕ) → b.refusal ≡ 0 → leb (b.at + n) (8 * length s) ≡ false
    → ahead s b n ≡ (false, record { at = b.at; refusal = 5 })
unfolding ahead
ahead_short s b n h u = ap₂ (λ (t u : Bool). ahead_if t u b n) (eq-eqb b.refusal 0 h) u

-- ---- the three answers of a test
pub test_passes : (p : ℕ) (b : State) (t : Bool) (n : ℕ) → b.refusal ≡ 0 → t ≡ true → test p b t n ≡ b
test_passes p b t n h u = ap₂ (λ (s t : Bool). refuse_if s t p b n) (eq-eqb b.refusal 0 h) u

pub test_refuses : (p : ℕ) (b : State) (t : Bool) (n : ℕ) → b.refusal ≡ 0 → t ≡ false → test p b t n ≡ record { at = p; refusal = n }
test_refuses p b t n h u = ap₂ (λ (s t : Bool). refuse_if s t p b n) (eq-eqb b.refusal 0 h) u

pub test_stuck : (p : ℕ) (b : State) (t : Bool) (n : ℕ) → (b.refusal ≡ 0 → ⊥) → test p b t n ≡ b
test_stuck p b t n h = ap (λ (s : Bool). refuse_if s t p b n) (ne_eqb b.refusal 0 h)

-- ---- the primitive fields
pub run_here : {s : List ℕ} {b c : State} {t : Bool} {v : ℕ} (n : ℕ) → ahead s b n ≡ (t, c) → t ≡ true → v ≡ part s b.at n
    → Run (field n) s b v c
unfolding read_bits
run_here {s} {b} {c} n e f g =
    record {
      eq =
          ap (λ (a : Bool × State). (part_if a.0 s b.at n, a.1)) e
          ∙ ap (λ (t : Bool). (part_if t s b.at n, c)) f
          ∙ ap (λ (v : ℕ). (v, c)) (sym g);
    }

pub run_none : {s : List ℕ} {b c : State} {t : Bool} (n : ℕ) → ahead s b n ≡ (t, c) → t ≡ false → Run (field n) s b 0 c
unfolding read_bits
run_none {s} {b} {c} n e f =
    record {
      eq = ap (λ (a : Bool × State). (part_if a.0 s b.at n, a.1)) e ∙ ap (λ (t : Bool). (part_if t s b.at n, c)) f;
    }

pub run_bytes : {s : List ℕ} {b c : State} {l : List ℕ} (n : ℕ) (t : Bool) → ahead s b (8 * n) ≡ (t, c) → l ≡ bytes_if t s b.at n
    → Run (bytes n) s b l c
unfolding read_bytes
run_bytes {s} {b} {c} n t e g =
    record {
      eq = ap (λ (a : Bool × State). (bytes_if a.0 s b.at n, a.1)) e ∙ ap (λ (l : List ℕ). (l, c)) (sym g);
    }

-- ---- another view of the value
pub run_view : {A B : Type 0} {s : List ℕ} {b c : State} {x : A} (to : A → B) (from : B → A) (is : B → Bool) (p : Format A)
    (h : (a : A) → p.Good a → from (to a) ≡ a) (d : (y : B) → T (is y) ↔ (to (from y) ≡ y))
    → Run p s b x c → Run (view to from is p h d) s b (to x) c
unfolding view
run_view {A} to from is p h d e = record { eq = ap (λ (r : A × State). (to r.0, r.1)) e.eq }

pub run_flag : {s : List ℕ} {b c : State} {v : ℕ} → Run (field 1) s b v c → Run flag s b (eqb v 1) c
run_flag e = run_view _ _ _ _ _ _ e

pub run_offset : {s : List ℕ} {b c : State} {v : ℕ} (k n : ℕ) → Run (field n) s b v c → Run (offset k n) s b (v + k) c
run_offset k n e = run_view _ _ _ _ _ _ e

pub run_minus1 : {s : List ℕ} {b c : State} {v : ℕ} (n : ℕ) → Run (field n) s b v c → Run (minus1 n) s b (v + 1) c
run_minus1 n e = run_offset 1 n e

-- ---- a test on the value just read
pub run_ensure : {A : Type 0} {s : List ℕ} {b c d : State} {x : A} (p : Format A) (f : A → Bool) (r : ℕ) (h : T (is_test_refusal r)) → Run p s b x c
    → d ≡ test b.at c (f x) r → Run (ensure p f r h) s b x d
run_ensure {A} {b = b} {x = x} p f r h e g =
    record { eq = ap (λ (y : A × State). (y.0, test b.at y.1 (f y.0) r)) e.eq ∙ ap (λ (y : State). (x, y)) (sym g) }

pub run_exactly : {s : List ℕ} {b c d : State} {v : ℕ} (n w r : ℕ) (h : T (is_test_refusal r)) → Run (field n) s b v c → d ≡ test b.at c (eqb v w) r
    → Run (exactly n w r h) s b tt d
run_exactly n w r h e g = run_view _ _ _ _ _ _ (run_ensure (field n) (λ x. eqb x w) r h e g)

-- ---- choice, by a flag that the code tests
module _ {A : Type 0} {s : List ℕ} {b c : State} {x : A} (p q : Format A) where
  pub run_on : (t : Bool) → t ≡ true → Run p s b x c → Run (choose t p q) s b x c
  run_on true h e = e
  run_on false h e = absurd (false≢true h)

  pub run_off : (t : Bool) → t ≡ false → Run q s b x c → Run (choose t p q) s b x c
  run_off true h e = absurd (true≢false h)
  run_off false h e = e

-- ---- sequence
module _ {A B : Type 0} {s : List ℕ} {b d : State} {x : A} {y : B} (p : Format A) (k : A → Format B) where
  pub run_seq : {c : State} → Run p s b x c → Run (k x) s c y d → Run (p >>= k) s b (x, y) d
  unfolding ◌>>=◌
  run_seq e f =
      record {
        eq =
            ap (λ (r : A × State). ((r.0, ((k r.0).parse s r.1).0), ((k r.0).parse s r.1).1)) e.eq
            ∙ ap (λ (q : B × State). ((x, q.0), q.1)) f.eq;
      }

  -- and back: between them is the state that the first leaves
  pub run_first : Run (p >>= k) s b (x, y) d → Run p s b x (p.parse s b).1
  unfolding ◌>>=◌
  run_first e = record { eq = ap (λ (r : (A × B) × State). (r.0.0, (p.parse s b).1)) e.eq }

  pub run_second : Run (p >>= k) s b (x, y) d → Run (k x) s (p.parse s b).1 y d
  unfolding ◌>>=◌
  run_second e =
      record {
        eq =
            ap (λ (a : A). (k a).parse s (p.parse s b).1) (sym (ap (λ (r : (A × B) × State). r.0.0) e.eq))
            ∙ ap (λ (r : (A × B) × State). (r.0.1, r.1)) e.eq;
      }

pub run_then : {A : Type 0} {s : List ℕ} {b c d : State} {x : A} (p : Format (Unit {0})) (q : Format A) → Run p s b tt c → Run q s c x d
    → Run (p >> q) s b x d
unfolding ◌>>=◌ view
run_then {A} {s} p q e f =
    record { eq = ap (λ (r : Unit {0} × State). ((q.parse s r.1).0, (q.parse s r.1).1)) e.eq ∙ f.eq }
