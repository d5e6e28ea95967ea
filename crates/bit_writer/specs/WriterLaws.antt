-- Laws of writing bits: how runs of bits compose, what a number of bits stores, and one rule for each way in which formats are put
-- together. Assumes nothing.
use Rattle.std.specs.Prelude.{◌≡◌, ℕ, zero, suc, ◌+◌, ◌*◌, ◌/◌, ◌%◌, ◌^◌, ◌<◌, ◌≤◌, Bool, true, false, ◌&&◌, T, ◌↔◌, List, [], ◌∷◌, ◌++◌, length, take, drop, replicate, ◌==◌, ◌≢◌, nat_lt, slice_index, slice_set}
use Rattle.std.proofs.Math.Path.{refl, ap}
use Rattle.std.proofs.Common.{pow_mono, sym, ap₂, ◌∙◌, subst, true≢false, append_assoc, append-nil, pow-suc, add-suc, add-zero, mul_assoc, div-one, div-add-mod', mod-lt, mul-le-mul_right, pow_pos, arith, length-set, drop_of_length-le, add-one, drop-cons, take_all, eq-eqb, ne_eqb, lt-ltb}
use Rattle.std.proofs.lemmas.Bool.{false≢true}
use Rattle.std.proofs.Math.Nat.{pow-succ', div-div-eq-div-mul, mul-add-div_right, div-eq_of_lt}
use Rattle.std.proofs.Math.Pow.{are_bytes}
use Rattle.std.proofs.lemmas.List.Edits.{sets}
use lib.Seq.{set_out}
use Rattle.bits.specs.Bit.{to_n, odd, val, bits_n, bits_onto, bits_of, bits_onto_is, bits_onto-append, length-bits_n, val-bits_n}
use Rattle.bits.specs.State.{bytes_of, is_test_refusal}
use Rattle.bits.specs.Format.{Format, field, flag, flag_if, field_if, minus1_if, choose, view, const, exactly, bytes, is_list, listed, ◌>>=◌, ◌>>◌}
use Rattle.bit_writer.specs.Writer.{feed, place, waiting, fits, Fed, Tested, Puts, all_zero}
use Rattle.bit_writer.specs.declared.BitWriter.{BitWriter}

-- ---- bits fed one after another
pub feed-append : (l m : List Bool) (o : List ℕ) (k : ℕ)
    → feed o k (l ++ m) ≡ feed (feed o k l).0 (feed o k l).1.0 ((feed o k l).1.1 ++ m)
unfolding feed
feed-append [] m o k = refl
feed-append (a ∷ []) m o k = refl
feed-append (a ∷ (b ∷ [])) m o k = refl
feed-append (a ∷ (b ∷ (c ∷ []))) m o k = refl
feed-append (a ∷ (b ∷ (c ∷ (d ∷ [])))) m o k = refl
feed-append (a ∷ (b ∷ (c ∷ (d ∷ (e ∷ []))))) m o k = refl
feed-append (a ∷ (b ∷ (c ∷ (d ∷ (e ∷ (f ∷ [])))))) m o k = refl
feed-append (a ∷ (b ∷ (c ∷ (d ∷ (e ∷ (f ∷ (g ∷ []))))))) m o k = refl
feed-append (a ∷ (b ∷ (c ∷ (d ∷ (e ∷ (f ∷ (g ∷ (h ∷ l)))))))) m o k =
    feed-append l m (slice_set o k (val (a ∷ (b ∷ (c ∷ (d ∷ (e ∷ (f ∷ (g ∷ (h ∷ [])))))))))) ((k + 1) % 2 ^ 64)

-- fewer than eight bits wait
pub feed_few : (l : List Bool) (o : List ℕ) (k : ℕ) → length l < 8 → feed o k l ≡ (o, (k, l))
unfolding feed
feed_few [] o k h = refl
feed_few (a ∷ []) o k h = refl
feed_few (a ∷ (b ∷ [])) o k h = refl
feed_few (a ∷ (b ∷ (c ∷ []))) o k h = refl
feed_few (a ∷ (b ∷ (c ∷ (d ∷ [])))) o k h = refl
feed_few (a ∷ (b ∷ (c ∷ (d ∷ (e ∷ []))))) o k h = refl
feed_few (a ∷ (b ∷ (c ∷ (d ∷ (e ∷ (f ∷ [])))))) o k h = refl
feed_few (a ∷ (b ∷ (c ∷ (d ∷ (e ∷ (f ∷ (g ∷ []))))))) o k h = refl
feed_few (a ∷ (b ∷ (c ∷ (d ∷ (e ∷ (f ∷ (g ∷ (h ∷ l)))))))) o k z = absurd (omega arith)

-- the output's length is kept
pub length-feed : (l : List Bool) (o : List ℕ) (k : ℕ) → length (feed o k l).0 ≡ length o
unfolding feed
length-feed [] o k = refl
length-feed (a ∷ []) o k = refl
length-feed (a ∷ (b ∷ [])) o k = refl
length-feed (a ∷ (b ∷ (c ∷ []))) o k = refl
length-feed (a ∷ (b ∷ (c ∷ (d ∷ [])))) o k = refl
length-feed (a ∷ (b ∷ (c ∷ (d ∷ (e ∷ []))))) o k = refl
length-feed (a ∷ (b ∷ (c ∷ (d ∷ (e ∷ (f ∷ [])))))) o k = refl
length-feed (a ∷ (b ∷ (c ∷ (d ∷ (e ∷ (f ∷ (g ∷ []))))))) o k = refl
length-feed (a ∷ (b ∷ (c ∷ (d ∷ (e ∷ (f ∷ (g ∷ (h ∷ l)))))))) o k =
    length-feed l (slice_set o k (val (a ∷ (b ∷ (c ∷ (d ∷ (e ∷ (f ∷ (g ∷ (h ∷ [])))))))))) ((k + 1) % 2 ^ 64)
    ∙ length-set o k (val (a ∷ (b ∷ (c ∷ (d ∷ (e ∷ (f ∷ (g ∷ (h ∷ [])))))))))

-- ---- the low bits of a number
-- j + n bits are the j high ones and the n low ones
onto_split : (n j x : ℕ) (l : List Bool) → bits_onto (j + n) x l ≡ bits_onto j (x / 2 ^ n) (bits_onto n x l)
onto_split zero j x l = ap₂ (λ (k y : ℕ). bits_onto k y l) (add-zero j) (sym (div-one x))
onto_split (suc n) j x l =
    ap (λ (k : ℕ). bits_onto k x l) (add-suc j n)
    ∙ onto_split n j (x / 2) (odd x ∷ l)
    ∙ ap (λ (y : ℕ). bits_onto j y (bits_onto n (x / 2) (odd x ∷ l))) (div-div-eq-div-mul x 2 (2 ^ n) ∙ ap (λ (m : ℕ). x / m) (sym (pow-succ' 2 n)))

pub bits_split : (j n x : ℕ) → bits_n (j + n) x ≡ bits_n j (x / 2 ^ n) ++ bits_n n x
bits_split j n x = onto_split n j x [] ∙ bits_onto_is j (x / 2 ^ n) (bits_n n x)

-- what stands above n bits does not count
onto_above : (n a v : ℕ) (l : List Bool) → bits_onto n (a * 2 ^ n + v) l ≡ bits_onto n v l
onto_above zero a v l = refl
onto_above (suc n) a v l =
    let q = a * 2 ^ n in
    let e : a * 2 ^ suc n ≡ q * 2 = ap (λ (m : ℕ). a * m) (pow-suc 2 n) ∙ sym (mul_assoc a (2 ^ n) 2) in
    let h : (a * 2 ^ suc n + v) / 2 ≡ q + v / 2 = omega (arith, e) in
    let o : (a * 2 ^ suc n + v) % 2 ≡ v % 2 = omega (arith, e) in
    ap₂ (λ (x y : ℕ). bits_onto n x ((y == 1) ∷ l)) h o ∙ onto_above n a (v / 2) (odd v ∷ l)

pub bits_above : (n a v : ℕ) → bits_n n (a * 2 ^ n + v) ≡ bits_n n v
bits_above n a v = onto_above n a v []

-- ---- one byte of a number's bits, as the code stores it
pub feed_octet : (o : List ℕ) (k n m x : ℕ) → n ≡ 8 + m → feed o k (bits_n n x) ≡ feed (slice_set o k (x / 2 ^ m % 256)) ((k + 1) % 2 ^ 64) (bits_n m x)
unfolding feed
feed_octet o k n m x e =
    let y = x / 2 ^ m in
    let d : y / 256 * 2 ^ 8 + y % 256 ≡ y = omega arith in
    let b : bits_n 8 y ≡ bits_n 8 (y % 256) = ap (λ (z : ℕ). bits_n 8 z) (sym d) ∙ bits_above 8 (y / 256) (y % 256) in
    ap (λ (j : ℕ). feed o k (bits_n j x)) e
    ∙ ap (λ (l : List Bool). feed o k l) (bits_split 8 m x ∙ ap (λ (l : List Bool). l ++ bits_n m x) b)
    ∙ ap (λ (v : ℕ). feed (slice_set o k v) ((k + 1) % 2 ^ 64) (bits_n m x)) (val-bits_n 8 (y % 256) (omega arith))

-- ---- two runs of bits in one number
pub bits_low : (n v : ℕ) → bits_n n (v % 2 ^ n) ≡ bits_n n v
bits_low n v = sym (bits_above n (v / 2 ^ n) (v % 2 ^ n)) ∙ ap (λ (x : ℕ). bits_n n x) (div-add-mod' v (2 ^ n))

pub bits_join : (j n x y : ℕ) → bits_n (j + n) (x % 2 ^ j * 2 ^ n + y % 2 ^ n) ≡ bits_n j x ++ bits_n n y
bits_join j n x y =
    let q = x % 2 ^ j in
    let r = y % 2 ^ n in
    let e : (q * 2 ^ n + r) / 2 ^ n ≡ q = mul-add-div_right (pow_pos n) q r ∙ ap (λ (k : ℕ). q + k) (div-eq_of_lt (mod-lt y (pow_pos n))) ∙ add-zero q in
    bits_split j n (q * 2 ^ n + r)
    ∙ ap₂ (λ (l m : List Bool). l ++ m) (ap (λ (k : ℕ). bits_n j k) e ∙ bits_low j x) (bits_above n q r ∙ bits_low n y)

-- 7 bits and 32 fit a word
pub join_fits : (p q x : ℕ) → 0 < p → p ≤ 128 → q ≤ 4294967296 → x % p * q ≤ 545460846592
join_fits p q x z h k =
    let c : x % p < p = mod-lt x z in
    let d : x % p ≤ 127 = omega arith in
    let m : x % p * q ≤ 127 * q = mul-le-mul_right q d in
    omega arith

-- ---- tests
pub and_on : (a t : Bool) → t ≡ true → a ≡ (a && t)
and_on true t e = sym e
and_on false t e = refl

pub and-off : (a t : Bool) → t ≡ false → false ≡ (a && t)
and-off true t e = sym e
and-off false t e = refl

pub and_assoc : (a b c : Bool) → ((a && b) && c) ≡ (a && (b && c))
and_assoc true b c = refl
and_assoc false b c = refl

-- ---- runs of bits
few : (w : BitWriter) → length (waiting w) < 8
unfolding waiting
few w = omega (arith, length-bits_n (w.at.1 % 8) w.bits)

pub fed_none : (o : List ℕ) (w : BitWriter) → Fed o w [] o w
fed_none o w = record { eq = ap (λ (l : List Bool). feed o (place w) l) (append-nil (waiting w)) ∙ feed_few (waiting w) o (place w) (few w) }

module _ {o o₁ o₂ : List ℕ} {w w₁ w₂ : BitWriter} {l m : List Bool} where
  pub fed_then : Fed o w l o₁ w₁ → Fed o₁ w₁ m o₂ w₂ → Fed o w (l ++ m) o₂ w₂
  fed_then p q =
      record {
        eq =
            ap (λ (x : List Bool). feed o (place w) x) (sym (append_assoc (waiting w) l m))
            ∙ feed-append (waiting w ++ l) m o (place w)
            ∙ ap (λ (x : List ℕ × (ℕ × List Bool)). feed x.0 x.1.0 (x.1.1 ++ m)) p.eq
            ∙ q.eq;
      }

module _ {o o' : List ℕ} {w w' : BitWriter} where
  pub fed_as : {l m : List Bool} → l ≡ m → Fed o w l o' w' → Fed o w m o' w'
  fed_as e p = subst (λ (x : List Bool). Fed o w x o' w') e p

  pub fed_tested : {l : List Bool} {t : Bool} {w'' : BitWriter} → Fed o w l o' w' → Tested w' t w'' → Fed o w l o' w''
  fed_tested p q = record { eq = p.eq ∙ ap₂ (λ (k : ℕ) (x : List Bool). (o', (k, x))) (sym q.same_place) (sym q.same_bits) }

  pub fed_kept : {l : List Bool} → Fed o w l o' w' → length o' ≡ length o
  fed_kept {l} p = sym (ap (λ (x : List ℕ × (ℕ × List Bool)). length x.0) p.eq) ∙ length-feed (waiting w ++ l) o (place w)

-- ---- formats: one rule for each way in which they are put together
pub kept : {A : Type 0} {p : Format A} {o o' : List ℕ} {w w' : BitWriter} {a : A} → Puts p o w a o' w' → length o' ≡ length o
kept x = fed_kept x.fed

-- a test more, after what was tested before
and-test : (a t u : Bool) {b c v : Bool} → b ≡ (a && t) → c ≡ (b && u) → (t && u) ≡ v → c ≡ (a && v)
and-test a t u e f g = f ∙ ap (λ (x : Bool). x && u) e ∙ and_assoc a t u ∙ ap (λ (x : Bool). a && x) g

and-true : (t : Bool) → (t && true) ≡ t
and-true true = refl
and-true false = refl

pub puts_field : {o o' : List ℕ} {w w₁ w' : BitWriter} (n v : ℕ) {t : Bool} → Fed o w (bits_n n v) o' w₁ → fits w₁ ≡ fits w → Tested w₁ t w'
    → t ≡ nat_lt v (2 ^ n) → Puts (field n) o w v o' w'
puts_field {w = w} n v p e q f = record { fed = fed_tested p q; ok = q.ok ∙ ap₂ (λ (x y : Bool). x && y) e f }

-- no bits
pub puts_none : {A : Type 0} {w w' : BitWriter} (o : List ℕ) (a : A) (is : A → Bool) (d : (x : A) → T (is x) ↔ (x ≡ a)) (x : A) → Tested w (is x) w'
    → Puts (const a is d) o w x o w'
puts_none {w = w} o a is d x q = record { fed = fed_tested (fed_none o w) q; ok = q.ok }

module _ {o o' : List ℕ} {w w' : BitWriter} where
  -- another view of the value
  pub puts_view : {A B : Type 0} {w'' : BitWriter} {y : B} (to : A → B) (from : B → A) (is : B → Bool) (p : Format A)
      (h : (a : A) → p.Good a → from (to a) ≡ a) (d : (y : B) → T (is y) ↔ (to (from y) ≡ y))
      → Puts p o w (from y) o' w' → Tested w' (is y) w'' → Puts (view to from is p h d) o w y o' w''
  unfolding view
  puts_view {y = y} to from is p h d e q = record { fed = fed_tested e.fed q; ok = and-test (fits w) (p.good (from y)) (is y) e.ok q.ok refl }

  -- one whose every value is given back
  pub puts_renamed : {A B : Type 0} {y : B} (to : A → B) (from : B → A) (p : Format A)
      (h : (a : A) → p.Good a → from (to a) ≡ a) (d : (y : B) → T true ↔ (to (from y) ≡ y))
      → Puts p o w (from y) o' w' → Puts (view to from (λ x. true) p h d) o w y o' w'
  unfolding view
  puts_renamed to from p h d e = record { fed = e.fed; ok = e.ok ∙ ap (λ (x : Bool). fits w && x) (sym (and-true _)) }

  pub puts_exactly : (n v r : ℕ) (h : T (is_test_refusal r)) → Puts (field n) o w v o' w' → Puts (exactly n v r h) o w tt o' w'
  unfolding view
  puts_exactly n v r h e =
      record { fed = e.fed; ok = e.ok ∙ ap (λ (x : Bool). fits w && x) (sym (and-true _ ∙ ap (λ (y : Bool). nat_lt v (2 ^ n) && y) (eq-eqb v v refl) ∙ and-true _)) }

  -- choice, by a flag that the code tests
  pub puts_on : {A : Type 0} {a : A} (p q : Format A) (t : Bool) → t ≡ true → Puts p o w a o' w' → Puts (choose t p q) o w a o' w'
  puts_on p q true h e = e
  puts_on p q false h e = absurd (false≢true h)

  pub puts_off : {A : Type 0} {a : A} (p q : Format A) (t : Bool) → t ≡ false → Puts q o w a o' w' → Puts (choose t p q) o w a o' w'
  puts_off p q true h e = absurd (true≢false h)
  puts_off p q false h e = e

-- sequence
module _ {o o₁ o₂ : List ℕ} {w w₁ w₂ : BitWriter} where
  pub puts_seq : {A B : Type 0} {x : A} {y : B} (p : Format A) (k : A → Format B) → Puts p o w x o₁ w₁ → Puts (k x) o₁ w₁ y o₂ w₂
      → Puts (p >>= k) o w (x, y) o₂ w₂
  unfolding ◌>>=◌
  puts_seq {x = x} {y} p k e f = record { fed = fed_then e.fed f.fed; ok = and-test (fits w) (p.good x) ((k x).good y) e.ok f.ok refl }

  pub puts_next : {A : Type 0} {a : A} (p : Format (Unit {0})) (q : Format A) → Puts p o w tt o₁ w₁ → Puts q o₁ w₁ a o₂ w₂
      → Puts (p >> q) o w a o₂ w₂
  puts_next p q e f = puts_renamed _ _ _ _ _ (puts_seq p (λ u. q) e f)

-- the same value by another name
pub puts_as : {A : Type 0} {o o' : List ℕ} {w w' : BitWriter} {a b : A} (p : Format A) → a ≡ b → Puts p o w a o' w' → Puts p o w b o' w'
puts_as {o = o} {o'} {w} {w'} p e x = subst (λ a. Puts p o w a o' w') e x

pub puts_flag : {o o' : List ℕ} {w w' : BitWriter} (b : Bool) → Puts (field 1) o w (to_n b) o' w' → Puts flag o w b o' w'
puts_flag b e = puts_renamed _ _ _ _ _ e

-- ---- bytes
onto_one_more : (i : ℕ) (s : List ℕ) → i < length s → bits_of (take (suc i) s) ≡ bits_of (take i s) ++ bits_n 8 (slice_index s i)
onto_one_more i [] h = absurd (omega arith)
onto_one_more zero (x ∷ s) h = refl
onto_one_more (suc i) (x ∷ s) h =
    ap (λ (m : List Bool). bits_onto 8 x m) (onto_one_more i s (omega arith)) ∙ sym (bits_onto-append 8 x (bits_of (take i s)) (bits_n 8 (slice_index s i)))

pub bits_one_more : (i : ℕ) (s : List ℕ) → i < length s → bits_of (take (i + 1) s) ≡ bits_of (take i s) ++ bits_n 8 (slice_index s i)
bits_one_more i s h = ap (λ (k : ℕ). bits_of (take k s)) (add-one i) ∙ onto_one_more i s h

-- ---- zero bytes
pub zero_step : (s : List ℕ) (j : ℕ) → j < length s → slice_index s j ≡ 0 → all_zero (drop (j + 1) s) ≡ all_zero (drop j s)
zero_step s j h e =
    ap (λ (k : ℕ). all_zero (drop k s)) (add-one j)
    ∙ ap (λ (t : Bool). t && all_zero (drop (suc j) s)) (sym (eq-eqb (slice_index s j) 0 e))
    ∙ sym (ap all_zero (drop-cons s j 0 h))

pub zero_stop : (s : List ℕ) (j : ℕ) → j < length s → (slice_index s j ≢ 0) → false ≡ all_zero (drop j s)
zero_stop s j h e =
    ap (λ (t : Bool). t && all_zero (drop (suc j) s)) (sym (ne_eqb (slice_index s j) 0 e)) ∙ sym (ap all_zero (drop-cons s j 0 h))

pub zero_end : (s : List ℕ) (j : ℕ) → length s ≤ j → true ≡ all_zero (drop j s)
zero_end s j h = sym (ap all_zero (drop_of_length-le s h))

pub zero_list : (l : List ℕ) → all_zero l ≡ is_list l (replicate (length l) 0)
zero_list [] = refl
zero_list (x ∷ l) = ap (λ (t : Bool). (x == 0) && t) (zero_list l)

all-bytes : (l : List ℕ) → ((i : ℕ) → slice_index l i < 256) → true ≡ are_bytes l
all-bytes [] h = refl
all-bytes (x ∷ l) h = ap₂ (λ (t u : Bool). t && u) (sym (lt-ltb x 256 (h 0))) (all-bytes l (λ i. h (suc i)))

-- a body as it stands, and none
pub puts_bytes : {o o' : List ℕ} {w w' : BitWriter} (n : ℕ) (s : List ℕ) → n ≡ length s → ((i : ℕ) → slice_index s i < 256) → Fed o w (bits_of (take n s)) o' w'
    → fits w' ≡ fits w → Puts (bytes n) o w s o' w'
puts_bytes {w = w} n s z h p e =
    record {
      fed = fed_as (ap bits_of (take_all n s (omega arith))) p;
      ok = e ∙ sym (and-on' (fits w) (sym (ap₂ (λ (t u : Bool). t && u) (eq-eqb (length s) n (sym z)) (sym (all-bytes s h)))));
    }
  where
    and-on' : (a : Bool) {t : Bool} → true ≡ t → (a && t) ≡ a
    and-on' true e = sym e
    and-on' false e = refl

pub puts_no_bytes : {w w' : BitWriter} {t : Bool} (o : List ℕ) (n : ℕ) (s : List ℕ) → n ≡ length s → Tested w t w' → t ≡ all_zero (drop 0 s)
    → Puts (listed (replicate n 0)) o w s o w'
puts_no_bytes {w} o n s z q e =
    record {
      fed = fed_tested (fed_none o w) q;
      ok = q.ok ∙ ap (λ (x : Bool). fits w && x) (e ∙ zero_list s ∙ ap (λ (k : ℕ). is_list s (replicate k 0)) (sym z));
    }

-- ---- what a feed leaves
-- the bits so far: eight for each byte, and those that wait
pub feed_count : (n : ℕ) (l : List Bool) (o : List ℕ) (k : ℕ) → length l ≤ n → 8 * k + length l < 2 ^ 64
    → 8 * (feed o k l).1.0 + length (feed o k l).1.1 ≡ 8 * k + length l
unfolding feed
feed_count n [] o k z r = refl
feed_count n (a ∷ []) o k z r = refl
feed_count n (a ∷ (b ∷ [])) o k z r = refl
feed_count n (a ∷ (b ∷ (c ∷ []))) o k z r = refl
feed_count n (a ∷ (b ∷ (c ∷ (d ∷ [])))) o k z r = refl
feed_count n (a ∷ (b ∷ (c ∷ (d ∷ (e ∷ []))))) o k z r = refl
feed_count n (a ∷ (b ∷ (c ∷ (d ∷ (e ∷ (f ∷ [])))))) o k z r = refl
feed_count n (a ∷ (b ∷ (c ∷ (d ∷ (e ∷ (f ∷ (g ∷ []))))))) o k z r = refl
feed_count n (a ∷ (b ∷ (c ∷ (d ∷ (e ∷ (f ∷ (g ∷ (h ∷ l)))))))) o k z r =
    let x = val (a ∷ (b ∷ (c ∷ (d ∷ (e ∷ (f ∷ (g ∷ (h ∷ [])))))))) in
    let m : (k + 1) % 2 ^ 64 ≡ k + 1 = omega arith in
    feed_count n l (slice_set o k x) ((k + 1) % 2 ^ 64) (omega arith) (omega arith) ∙ omega arith

-- whole bytes from a byte boundary on
pub feed-bytes : (n k : ℕ) (l : List Bool) (o : List ℕ) → length l ≡ 8 * n → k + n < 2 ^ 64
    → feed o k l ≡ (sets o k (bytes_of n l), (k + n, []))
unfolding bytes_of feed
feed-bytes zero k [] o e r = ap (λ (p : ℕ). (o, (p, []))) (omega arith)
feed-bytes zero k (b ∷ l) o e r = absurd (omega arith)
feed-bytes (suc n) k [] o z r = absurd (omega arith)
feed-bytes (suc n) k (a ∷ []) o z r = absurd (omega arith)
feed-bytes (suc n) k (a ∷ (b ∷ [])) o z r = absurd (omega arith)
feed-bytes (suc n) k (a ∷ (b ∷ (c ∷ []))) o z r = absurd (omega arith)
feed-bytes (suc n) k (a ∷ (b ∷ (c ∷ (d ∷ [])))) o z r = absurd (omega arith)
feed-bytes (suc n) k (a ∷ (b ∷ (c ∷ (d ∷ (e ∷ []))))) o z r = absurd (omega arith)
feed-bytes (suc n) k (a ∷ (b ∷ (c ∷ (d ∷ (e ∷ (f ∷ [])))))) o z r = absurd (omega arith)
feed-bytes (suc n) k (a ∷ (b ∷ (c ∷ (d ∷ (e ∷ (f ∷ (g ∷ []))))))) o z r = absurd (omega arith)
feed-bytes (suc n) k (a ∷ (b ∷ (c ∷ (d ∷ (e ∷ (f ∷ (g ∷ (h ∷ l)))))))) o z r =
    let x = val (a ∷ (b ∷ (c ∷ (d ∷ (e ∷ (f ∷ (g ∷ (h ∷ [])))))))) in
    let m : (k + 1) % 2 ^ 64 ≡ suc k = omega arith in
    ap (λ (p : ℕ). feed (slice_set o k x) p l) m
    ∙ feed-bytes n (suc k) l (slice_set o k x) (omega arith) (omega arith)
    ∙ ap (λ (p : ℕ). (sets (slice_set o k x) (suc k) (bytes_of n l), (p, []))) (omega arith)

pub tested_as : {w w' : BitWriter} {t u : Bool} → t ≡ u → Tested w t w' → Tested w u w'
tested_as {w} {w'} e x = subst (λ (t : Bool). Tested w t w') e x

-- ---- a part that stands where a test says so, and the test under another name
module _ {o o' : List ℕ} {w w' : BitWriter} {t u : Bool} where
  pub flag_where : {b : Bool} → t ≡ u → Puts (flag_if t) o w b o' w' → Puts (flag_if u) o w b o' w'
  flag_where {b} e x = subst (λ (k : Bool). Puts (flag_if k) o w b o' w') e x

  pub field_where : {v : ℕ} (n : ℕ) → t ≡ u → Puts (field_if t n) o w v o' w' → Puts (field_if u n) o w v o' w'
  field_where {v} n e x = subst (λ (k : Bool). Puts (field_if k n) o w v o' w') e x

  pub minus1_where : {v : ℕ} (n : ℕ) → t ≡ u → Puts (minus1_if t n) o w v o' w' → Puts (minus1_if u n) o w v o' w'
  minus1_where {v} n e x = subst (λ (k : Bool). Puts (minus1_if k n) o w v o' w') e x

-- ---- long groups, by what their formats print and take
pub record Put (o : List ℕ) (w : BitWriter) (l : List Bool) (g : Bool) (o' : List ℕ) (w' : BitWriter) : Type 0 where
  pub fed : Fed o w l o' w'
  pub ok : fits w' ≡ (fits w && g)

pub put_of : {A : Type 0} {p : Format A} {o o' : List ℕ} {w w' : BitWriter} {a : A} → Puts p o w a o' w' → Put o w (p.print a) (p.good a) o' w'
put_of x = record { fed = x.fed; ok = x.ok }

pub puts_of : {A : Type 0} (p : Format A) {o o' : List ℕ} {w w' : BitWriter} (a : A) → Put o w (p.print a) (p.good a) o' w' → Puts p o w a o' w'
puts_of p a x = record { fed = x.fed; ok = x.ok }

module _ {o o₁ o₂ : List ℕ} {w w₁ w₂ : BitWriter} {l m : List Bool} {g h : Bool} where
  pub then : Put o w l g o₁ w₁ → Put o₁ w₁ m h o₂ w₂ → Put o w (l ++ m) (g && h) o₂ w₂
  then x y = record { fed = fed_then x.fed y.fed; ok = y.ok ∙ ap (λ (t : Bool). t && h) x.ok ∙ and_assoc (fits w) g h }

module _ {o o' : List ℕ} {w w' : BitWriter} {l : List Bool} {g : Bool} where
  pub tested : {t : Bool} {w'' : BitWriter} → Put o w l g o' w' → Tested w' t w'' → Put o w l (g && t) o' w''
  tested {t} x q = record { fed = fed_tested x.fed q; ok = q.ok ∙ ap (λ (u : Bool). u && t) x.ok ∙ and_assoc (fits w) g t }

  pub whole : Put o w l g o' w' → Put o w l (g && true) o' w'
  whole x = record { fed = x.fed; ok = x.ok ∙ ap (λ (t : Bool). fits w && t) (and_on g true refl) }

-- no part, where the flag that it stands by is false, and a test that the value is the one for none
pub puts_not : {A : Type 0} {a : A} {o : List ℕ} {w w' : BitWriter} (p : Format A) (z : A) (is : A → Bool) (d : (x : A) → T (is x) ↔ (x ≡ z)) (t : Bool) → t ≡ false → Tested w (is a) w' → Puts (choose t p (const z is d)) o w a o w'
puts_not p z is d t e q = puts_off _ _ _ e (puts_none _ _ _ _ _ q)

-- by which `grind` sees what a field is, and a part that stands where a flag says so
pub ruleset formats = (puts_field, puts_on, puts_not)

pub ruleset storing = (set_out)

-- the numbers that two runs of bits are joined by
pub pow_32 : (n : ℕ) → n ≤ 32 → 2 ^ n ≤ 4294967296
pow_32 n h = pow_mono {j = 32} h

pub pow_7 : (n : ℕ) → n ≤ 7 → 2 ^ n ≤ 128
pow_7 n h = pow_mono {j = 7} h

pub ruleset powers = (pow_32, pow_pos)

pub ruleset joining = (pow_7, join_fits, mod-lt, bits_join)
