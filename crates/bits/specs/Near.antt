-- How long a format is: `Near p n` says that reading by p goes on by at most n bits, and so does every print. Assumes nothing.
use Rattle.std.specs.Prelude.{◌≡◌, Bool, true, false, List, ℕ, ◌+◌, ◌*◌, ◌≤◌, T, eqb, leb, length, ◌↔◌}
use Rattle.std.proofs.Common.{arith, length-append}
use Rattle.bits.specs.Bit.{length-bits_n, length-bits_of}
use Rattle.bits.specs.State.{State, is_test_refusal, ahead_if, ahead, read_bits, read_bytes, refuse_if}
use Rattle.bits.specs.Format.{Format, field, bytes, const, ensure, choose, view, exactly, ◌>>=◌, ◌>>◌}

pub record Near {A : Type 0} (p : Format A) (n : ℕ) : Type 0 where
  pub far : (s : List ℕ) (b : State) → (p.parse s b).1.at ≤ b.at + n
  pub long : (a : A) → p.Good a → length (p.print a) ≤ n

pub weaken : {A : Type 0} {p : Format A} {m : ℕ} (n : ℕ) → n ≤ m → Near p n → Near p m
weaken n h e = record { far = λ s b. omega (arith, e.far s b); long = λ a g. omega (arith, e.long a g) }

ahead_far : (t u : Bool) (b : State) (n : ℕ) → (ahead_if t u b n).1.at ≤ b.at + n
ahead_far true true b n = omega arith
ahead_far true false b n = omega arith
ahead_far false u b n = omega arith

pub near_field : (n : ℕ) → Near (field n) n
unfolding read_bits ahead
near_field n =
    record {
      far = λ s b. ahead_far (eqb b.refusal 0) (leb (b.at + n) (8 * length s)) b n;
      long = λ v g. omega (arith, length-bits_n n v);
    }

pub near_bytes : (n : ℕ) → Near (bytes n) (8 * n)
unfolding read_bytes ahead
near_bytes n =
    record {
      far = λ s b. ahead_far (eqb b.refusal 0) (leb (b.at + 8 * n) (8 * length s)) b (8 * n);
      long = λ l g. omega (arith, length-bits_of l, g.0);
    }

pub near_const : {A : Type 0} (a : A) (is : A → Bool) (d : (x : A) → T (is x) ↔ (x ≡ a)) → Near (const a is d) 0
near_const a is d = record { far = λ s b. omega arith; long = λ x g. omega arith }

refuse_far : (c t : Bool) (p n : ℕ) (b : State) (r : ℕ) → b.at ≤ p + n → (refuse_if c t p b r).at ≤ p + n
refuse_far true true p n b r h = h
refuse_far true false p n b r h = omega arith
refuse_far false t p n b r h = h

pub near_ensure : {A : Type 0} {p : Format A} {n : ℕ} (f : A → Bool) (r : ℕ) (h : T (is_test_refusal r)) → Near p n → Near (ensure p f r h) n
near_ensure {p = p} {n} f r h e =
    record {
      far = λ s b. let x = p.parse s b in refuse_far (eqb x.1.refusal 0) (f x.0) b.at n x.1 r (e.far s b);
      long = λ a g. e.long a g.0;
    }

pub near_choose : {A : Type 0} {n : ℕ} (t : Bool) (p q : Format A) → Near p n → Near q n → Near (choose t p q) n
near_choose true p q e f = e
near_choose false p q e f = f

infixr 4 ◌then◌
pub ◌then◌ : {A B : Type 0} {p : Format A} {k : A → Format B} {n m : ℕ} → Near p n → ((a : A) → Near (k a) m) → Near (p >>= k) (n + m)
unfolding ◌>>=◌
◌then◌ {p = p} {k = k} e f =
    record {
      far = λ s b. omega (arith, e.far s b, (f (p.parse s b).0).far s (p.parse s b).1);
      long =
          λ x g. omega (arith, length-append (p.print x.0) ((k x.0).print x.1), e.long x.0 g.0, (f x.0).long x.1 g.1);
    }

-- the same bits by other names
pub near_view : {A B : Type 0} {n : ℕ} (to : A → B) (from : B → A) (is : B → Bool) (p : Format A)
    (h : (a : A) → p.Good a → from (to a) ≡ a) (d : (y : B) → T (is y) ↔ (to (from y) ≡ y)) → Near p n → Near (view to from is p h d) n
unfolding view
near_view to from is p h d e = record { far = e.far; long = λ x g. e.long (from x) g.0 }

pub near_exactly : (n v r : ℕ) (h : T (is_test_refusal r)) → Near (exactly n v r h) n
near_exactly n v r h = near_view _ _ _ _ _ _ (near_ensure (λ x. eqb x v) r h (near_field n))

-- one format after another that has no value
pub near_next : {A : Type 0} {n m : ℕ} (p : Format (Unit {0})) (q : Format A) → Near p n → Near q m → Near (p >> q) (n + m)
near_next p q e f = near_view _ _ _ _ _ _ (e then λ u. f)
