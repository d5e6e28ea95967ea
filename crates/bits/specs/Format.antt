-- A format: how a value is read from the bits of a payload, how it is printed as bits, which values it can print, the two laws
-- between reading and printing, and where reading stops if it is refused. Formats are closed under sequence, choice by a value read
-- before, and change of view, so that a whole header has all this without a proof of its own. Assumes nothing.
use Rattle.std.specs.Prelude.{◌≡◌, refl, Bool, true, false, not, cond, ◌&&◌, ◌||◌, List, [], ◌∷◌, ◌++◌, ℕ, zero, suc, ◌+◌, ◌-◌, ◌*◌, ◌^◌, ◌≤◌, ◌<◌, T, eqb, leb, ltb, ◌↔◌, length, take, drop, replicate}
use Rattle.std.proofs.Common.{sym, ap, ap₂, ◌∙◌, subst, add-zero, add_assoc, add-sub_cancel, sub-add_cancel, lt_of_lt_of_le, arith, eqb→eq, ltb→lt, lt→ltb, leb→le, le→leb, length-append, length-take, length-drop, take-append-drop, take-add, drop-drop, take-take, take_at, drop_at, pow_mono, ne_eqb, eqb-true, leb-true, leb-false, le-leb}
use Rattle.std.proofs.lemmas.List.{append_cancel_left}
use Rattle.std.proofs.Math.Dec.{eqb_refl}
use Rattle.std.proofs.Math.Pow.{are_bytes}
use Rattle.std.proofs.lemmas.Bool.{eqb-false}
use Rattle.bits.specs.Bit.{to_n, val, bits_n, bits_of, bits_onto_is, length-bits_n, val-bits_n, bits_n-val, val-lt, length-bits_of}
use Rattle.bits.specs.State.{State, is_reading_refusal, is_test_refusal, is_reading_state, clean, ahead_if, ahead, part, bytes_of, bytes_at, part_if, bytes_if, read_bits, read_bytes, refuse_if, test}

infixr 20 ◌>>=◌
infixr 20 ◌>>◌
-- ---- the bits l stand at p in s
abbrev pub At : List ℕ → ℕ → List Bool → Type 0
At s p l = take (length l) (drop p (bits_of s)) ≡ l

pub at_join : (s : List ℕ) (p : ℕ) (l m : List Bool) → At s p l → At s (p + length l) m → At s p (l ++ m)
at_join s p l m e f =
    ap (λ (n : ℕ). take n (drop p (bits_of s))) (length-append l m)
    ∙ take-add (length l) (length m) (drop p (bits_of s))
    ∙ ap (λ (x : List Bool). x ++ take (length m) (drop (length l) (drop p (bits_of s)))) e
    ∙ ap (λ (x : List Bool). l ++ take (length m) x) (drop-drop (length l) p (bits_of s))
    ∙ ap (λ (x : List Bool). l ++ x) f

pub at_left : (s : List ℕ) (p : ℕ) (l m : List Bool) → At s p (l ++ m) → At s p l
at_left s p l m e =
    let q : length l ≤ length (l ++ m) = simp length-append (omega arith) in
    sym (take-take (length l) (length (l ++ m)) (drop p (bits_of s)) q)
    ∙ ap (λ (x : List Bool). take (length l) x) e
    ∙ take_at l m (length l) refl

pub at_right : (s : List ℕ) (p : ℕ) (l m : List Bool) → At s p (l ++ m) → At s (p + length l) m
at_right s p l m e =
    append_cancel_left l (take (length m) (drop (p + length l) (bits_of s))) m
    (ap (λ (x : List Bool). l ++ take (length m) x) (sym (drop-drop (length l) p (bits_of s)))
    ∙ ap (λ (x : List Bool). x ++ take (length m) (drop (length l) (drop p (bits_of s)))) (sym (at_left s p l m e))
    ∙ sym (take-add (length l) (length m) (drop p (bits_of s)))
    ∙ ap (λ (n : ℕ). take n (drop p (bits_of s))) (sym (length-append l m))
    ∙ e)

-- ---- formats
-- what an accepted read tells: the value is one that prints, its print stands at the place, and the reader has moved past it
pub record Got {A : Type 0} (Good : A → Type 0) (print : A → List Bool) (s : List ℕ) (b : State) (a : A) (c : State) : Type 0 where
  pub was : b.refusal ≡ 0
  pub good : Good a
  pub same : At s b.at (print a)
  pub moved : c.at ≡ b.at + length (print a)

-- reading that leaves the state c goes neither back nor past bit n
abbrev pub Stays : ℕ → State → State → Type 0
Stays n b c = b.at ≤ n → (b.at ≤ c.at) × (c.at ≤ n)

pub record Format (A : Type 0) : Type 1 where
  pub parse : List ℕ → State → A × State
  pub print : A → List Bool
  pub Good : A → Type 0
  pub good : A → Bool
  pub dec : (a : A) → T (good a) ↔ Good a
  pub inv : (s : List ℕ) (b : State) → (parse s b).1.refusal ≡ 0 → Got Good print s b (parse s b).0 (parse s b).1
  pub back : (s : List ℕ) (p : ℕ) (a : A) → Good a → p + length (print a) ≤ 8 * length s → At s p (print a)
      → parse s (clean p) ≡ (a, clean (p + length (print a)))
  -- a refusal that it meets is one of reading's
  pub told : (s : List ℕ) (b : State) → T (is_reading_state b) → T (is_reading_state (parse s b).1)
  -- and the place that it leaves, which after a refusal is the refused field's first bit, is one of the payload's
  pub stays : (s : List ℕ) (b : State) → Stays (8 * length s) b (parse s b).1
  -- once there is a refusal, it leaves the state as it is
  pub sticks : (s : List ℕ) (b : State) → (b.refusal ≡ 0 → ⊥) → (parse s b).1 ≡ b
  -- how many bits the field has in which reading stops, where it does
  pub width : List ℕ → State → ℕ
  -- and after refusal 5 that field, which begins at the place left, passes the payload's end
  pub cut : (s : List ℕ) (b : State) → b.refusal ≡ 0 → (parse s b).1.refusal ≡ 5 → 8 * length s < (parse s b).1.at + width s b

-- ---- n bits
ahead_told : (s : List ℕ) (b : State) (n : ℕ) → T (is_reading_state b) → T (is_reading_state (ahead s b n).1)
unfolding ahead
ahead_told s b n h = go (eqb b.refusal 0) (leb (b.at + n) (8 * length s))
  where
    go : (t u : Bool) → T (is_reading_state (ahead_if t u b n).1)
    go true true = tt
    go true false = tt
    go false u = h

ahead_stays : (s : List ℕ) (b : State) (n : ℕ) → Stays (8 * length s) b (ahead s b n).1
unfolding ahead
ahead_stays s b n h = go (eqb b.refusal 0) (leb (b.at + n) (8 * length s)) refl
  where
    go : (t u : Bool) → leb (b.at + n) (8 * length s) ≡ u → (b.at ≤ (ahead_if t u b n).1.at) × ((ahead_if t u b n).1.at ≤ 8 * length s)
    go true true e = (omega arith, leb-true _ _ e)
    go true false e = (omega arith, h)
    go false u e = (omega arith, h)

ahead_sticks : (s : List ℕ) (b : State) (n : ℕ) → (b.refusal ≡ 0 → ⊥) → (ahead s b n).1 ≡ b
unfolding ahead
ahead_sticks s b n h = ap (λ (t : Bool). (ahead_if t (leb (b.at + n) (8 * length s)) b n).1) (ne_eqb b.refusal 0 h)

ahead_cut : (s : List ℕ) (b : State) (n : ℕ) → b.refusal ≡ 0 → (ahead s b n).1.refusal ≡ 5 → 8 * length s < (ahead s b n).1.at + n
unfolding ahead
ahead_cut s b n h z = go (eqb b.refusal 0) (leb (b.at + n) (8 * length s)) refl z
  where
    go : (t u : Bool) → leb (b.at + n) (8 * length s) ≡ u → (ahead_if t u b n).1.refusal ≡ 5 → 8 * length s < (ahead_if t u b n).1.at + n
    go true true e z = absurd (omega (arith, z))
    go true false e z = omega (arith, leb-false (b.at + n) (8 * length s) e)
    go false u e z = absurd (omega (arith, h, z))

field_inv' : (n : ℕ) (s : List ℕ) (b : State) (t u : Bool) → eqb b.refusal 0 ≡ t → leb (b.at + n) (8 * length s) ≡ u
    → (ahead_if t u b n).1.refusal ≡ 0
    → Got (λ (v : ℕ). v < 2 ^ n) (bits_n n) s b (part_if (ahead_if t u b n).0 s b.at n) (ahead_if t u b n).1
unfolding part
field_inv' n s b true true e f z =
    let x : List Bool = take n (drop b.at (bits_of s)) in
    let h : b.at + n ≤ 8 * length s = leb-true _ _ f in
    let lx : length x ≡ n = simp (length-take, length-drop, length-bits_of) (omega arith) in
    let px : bits_n n (val x) ≡ x = ap (λ (k : ℕ). bits_n k (val x)) (sym lx) ∙ bits_n-val x in
    record {
      was = eqb-true _ _ e;
      good = subst (λ (k : ℕ). val x < 2 ^ k) lx (val-lt x);
      same = ap (λ (k : ℕ). take k (drop b.at (bits_of s))) (length-bits_n n (val x)) ∙ sym px;
      moved = ap (λ (k : ℕ). b.at + k) (sym (length-bits_n n (val x)));
    }
field_inv' n s b true false e f z = absurd (omega (arith, z))
field_inv' n s b false u e f z = absurd (eqb-false _ _ e z)

pub field_inv : (n : ℕ) (s : List ℕ) (b : State) → (read_bits s b n).1.refusal ≡ 0
    → Got (λ (v : ℕ). v < 2 ^ n) (bits_n n) s b (read_bits s b n).0 (read_bits s b n).1
unfolding read_bits ahead
field_inv n s b z = field_inv' n s b (eqb b.refusal 0) (leb (b.at + n) (8 * length s)) refl refl z

pub field_back : (n : ℕ) (s : List ℕ) (p v : ℕ) → v < 2 ^ n → p + length (bits_n n v) ≤ 8 * length s → At s p (bits_n n v)
    → read_bits s (clean p) n ≡ (v, clean (p + length (bits_n n v)))
unfolding read_bits ahead part
field_back n s p v h w e =
    let w' : p + n ≤ 8 * length s = subst (λ (k : ℕ). p + k ≤ 8 * length s) (length-bits_n n v) w in
    let x : take n (drop p (bits_of s)) ≡ bits_n n v =
    ap (λ (k : ℕ). take k (drop p (bits_of s))) (sym (length-bits_n n v)) ∙ e in
    ap (λ (t : Bool). (part_if (ahead_if true t (clean p) n).0 s p n, (ahead_if true t (clean p) n).1)) (le-leb (p + n) (8 * length s) w')
    ∙ ap (λ (y : List Bool). (val y, clean (p + n))) x
    ∙ ap (λ (y : ℕ). (y, clean (p + n))) (val-bits_n n v h)
    ∙ ap (λ (k : ℕ). (v, clean (p + k))) (sym (length-bits_n n v))

pub field_told : (n : ℕ) (s : List ℕ) (b : State) → T (is_reading_state b) → T (is_reading_state (read_bits s b n).1)
unfolding read_bits
field_told n s b h = ahead_told s b n h

pub field_stays : (n : ℕ) (s : List ℕ) (b : State) → Stays (8 * length s) b (read_bits s b n).1
unfolding read_bits
field_stays n s b h = ahead_stays s b n h

pub field_sticks : (n : ℕ) (s : List ℕ) (b : State) → (b.refusal ≡ 0 → ⊥) → (read_bits s b n).1 ≡ b
unfolding read_bits
field_sticks n s b h = ahead_sticks s b n h

pub field_cut : (n : ℕ) (s : List ℕ) (b : State) → b.refusal ≡ 0 → (read_bits s b n).1.refusal ≡ 5 → 8 * length s < (read_bits s b n).1.at + n
unfolding read_bits
field_cut n s b h z = ahead_cut s b n h z

abbrev pub field : ℕ → Format ℕ
field n =
    record {
      parse = λ s b. read_bits s b n;
      print = bits_n n;
      Good = λ v. v < 2 ^ n;
      good = λ v. ltb v (2 ^ n);
      dec = λ v. (ltb→lt v (2 ^ n), lt→ltb v (2 ^ n));
      inv = field_inv n;
      back = field_back n;
      told = field_told n;
      stays = field_stays n;
      sticks = field_sticks n;
      width = λ s b. n;
      cut = field_cut n;
    }

pub eqb_is : (n x : ℕ) → T (eqb x n) ↔ (x ≡ n)
eqb_is n x = (eqb→eq x n, λ e. subst (λ (y : ℕ). T (eqb x y)) e (eqb_refl x))

pub and_both : {P Q : Type 0} (a b : Bool) → T a ↔ P → T b ↔ Q → T (a && b) ↔ (P × Q)
and_both true true p q = (λ t. (p.0 tt, q.0 tt), λ h. tt)
and_both true false p q = (λ t. absurd t, λ h. q.1 h.1)
and_both false b p q = (λ t. absurd t, λ h. p.1 h.0)

pub and_split : (a b : Bool) → T (a && b) → T a × T b
and_split a b h = (and_both a b (λ t. t, λ t. t) (λ t. t, λ t. t)).0 h

pub and_join : (a b : Bool) → T a × T b → T (a && b)
and_join a b h = (and_both a b (λ t. t, λ t. t) (λ t. t, λ t. t)).1 h

-- ---- n bytes, as one field
pub length-bytes_of : (n : ℕ) (l : List Bool) → length (bytes_of n l) ≡ n
unfolding bytes_of
length-bytes_of zero l = refl
length-bytes_of (suc n) l = ap suc (length-bytes_of n (drop 8 l))

nil_of : (l : List Bool) → length l ≡ 0 → [] ≡ l
nil_of [] e = refl
nil_of (b ∷ l) e = absurd (omega arith)

pub bits_bytes : (n : ℕ) (l : List Bool) → length l ≡ 8 * n → bits_of (bytes_of n l) ≡ l
unfolding bytes_of
bits_bytes zero l e = nil_of l e
bits_bytes (suc n) l e =
    let x = take 8 l in
    let lx : length x ≡ 8 = simp length-take (omega arith) in
    bits_onto_is 8 (val x) (bits_of (bytes_of n (drop 8 l)))
    ∙ ap (λ (m : List Bool). m ++ bits_of (bytes_of n (drop 8 l))) (ap (λ (k : ℕ). bits_n k (val x)) (sym lx) ∙ bits_n-val x)
    ∙ ap (λ (m : List Bool). x ++ m) (bits_bytes n (drop 8 l) (simp length-drop (omega arith)))
    ∙ take-append-drop 8 l

pub bytes_bits : (s : List ℕ) → T (are_bytes s) → bytes_of (length s) (bits_of s) ≡ s
unfolding bytes_of
bytes_bits [] h = refl
bytes_bits (b ∷ s) h =
    let w = and_split (ltb b 256) (are_bytes s) h in
    let e : bits_of (b ∷ s) ≡ bits_n 8 b ++ bits_of s = bits_onto_is 8 b (bits_of s) in
    ap (λ (m : List Bool). val (take 8 m) ∷ bytes_of (length s) (drop 8 m)) e
    ∙ ap₂ (λ (m : List Bool) (k : List Bool). val m ∷ bytes_of (length s) k) (take_at (bits_n 8 b) (bits_of s) 8 refl) (drop_at (bits_n 8 b) (bits_of s) 8 refl)
    ∙ ap₂ (λ (v : ℕ) (k : List ℕ). v ∷ k) (val-bits_n 8 b (ltb→lt b 256 w.0)) (bytes_bits s w.1)

pub packed-bytes : (n : ℕ) (l : List Bool) → T (are_bytes (bytes_of n l))
unfolding bytes_of
packed-bytes zero l = tt
packed-bytes (suc n) l =
    let e : length (take 8 l) ≤ 8 = simp length-take (omega arith) in
    and_join (ltb (val (take 8 l)) 256) (are_bytes (bytes_of n (drop 8 l)))
    (lt→ltb (val (take 8 l)) 256 (lt_of_lt_of_le (val-lt (take 8 l)) (pow_mono e)), packed-bytes n (drop 8 l))

abbrev pub BytesGood : ℕ → List ℕ → Type 0
BytesGood n l = (length l ≡ n) × T (are_bytes l)

bytes_inv' : (n : ℕ) (s : List ℕ) (b : State) (t u : Bool) → eqb b.refusal 0 ≡ t → leb (b.at + 8 * n) (8 * length s) ≡ u
    → (ahead_if t u b (8 * n)).1.refusal ≡ 0
    → Got (BytesGood n) bits_of s b (bytes_if (ahead_if t u b (8 * n)).0 s b.at n) (ahead_if t u b (8 * n)).1
unfolding bytes_at
bytes_inv' n s b true true e f z =
    let x : List Bool = take (8 * n) (drop b.at (bits_of s)) in
    let h : b.at + 8 * n ≤ 8 * length s = leb-true _ _ f in
    let lx : length x ≡ 8 * n = simp (length-take, length-drop, length-bits_of) (omega arith) in
    let px : bits_of (bytes_of n x) ≡ x = bits_bytes n x lx in
    let ly : length (bits_of (bytes_of n x)) ≡ 8 * n = ap length px ∙ lx in
    record {
      was = eqb-true _ _ e;
      good = (length-bytes_of n x, packed-bytes n x);
      same = ap (λ (k : ℕ). take k (drop b.at (bits_of s))) ly ∙ sym px;
      moved = ap (λ (k : ℕ). b.at + k) (sym ly);
    }
bytes_inv' n s b true false e f z = absurd (omega (arith, z))
bytes_inv' n s b false u e f z = absurd (eqb-false _ _ e z)

pub bytes_inv : (n : ℕ) (s : List ℕ) (b : State) → (read_bytes s b n).1.refusal ≡ 0
    → Got (BytesGood n) bits_of s b (read_bytes s b n).0 (read_bytes s b n).1
unfolding read_bytes ahead
bytes_inv n s b z = bytes_inv' n s b (eqb b.refusal 0) (leb (b.at + 8 * n) (8 * length s)) refl refl z

pub bytes_back : (n : ℕ) (s : List ℕ) (p : ℕ) (l : List ℕ) → BytesGood n l → p + length (bits_of l) ≤ 8 * length s → At s p (bits_of l)
    → read_bytes s (clean p) n ≡ (l, clean (p + length (bits_of l)))
unfolding read_bytes ahead bytes_at
bytes_back n s p l g w e =
    let ll : length (bits_of l) ≡ 8 * n = length-bits_of l ∙ ap (λ (k : ℕ). 8 * k) g.0 in
    let w' : p + 8 * n ≤ 8 * length s = subst (λ (k : ℕ). p + k ≤ 8 * length s) ll w in
    let x : take (8 * n) (drop p (bits_of s)) ≡ bits_of l =
    ap (λ (k : ℕ). take k (drop p (bits_of s))) (sym ll) ∙ e in
    ap (λ (t : Bool). (bytes_if (ahead_if true t (clean p) (8 * n)).0 s p n, (ahead_if true t (clean p) (8 * n)).1)) (le-leb (p + 8 * n) (8 * length s) w')
    ∙ ap (λ (y : List Bool). (bytes_of n y, clean (p + 8 * n))) x
    ∙ ap (λ (y : List ℕ). (y, clean (p + 8 * n))) (ap (λ (k : ℕ). bytes_of k (bits_of l)) (sym g.0) ∙ bytes_bits l g.1)
    ∙ ap (λ (k : ℕ). (l, clean (p + k))) (sym ll)

pub bytes_told : (n : ℕ) (s : List ℕ) (b : State) → T (is_reading_state b) → T (is_reading_state (read_bytes s b n).1)
unfolding read_bytes
bytes_told n s b h = ahead_told s b (8 * n) h

pub bytes_stays : (n : ℕ) (s : List ℕ) (b : State) → Stays (8 * length s) b (read_bytes s b n).1
unfolding read_bytes
bytes_stays n s b h = ahead_stays s b (8 * n) h

pub bytes_sticks : (n : ℕ) (s : List ℕ) (b : State) → (b.refusal ≡ 0 → ⊥) → (read_bytes s b n).1 ≡ b
unfolding read_bytes
bytes_sticks n s b h = ahead_sticks s b (8 * n) h

pub bytes_cut : (n : ℕ) (s : List ℕ) (b : State) → b.refusal ≡ 0 → (read_bytes s b n).1.refusal ≡ 5 → 8 * length s < (read_bytes s b n).1.at + 8 * n
unfolding read_bytes
bytes_cut n s b h z = ahead_cut s b (8 * n) h z

abbrev pub bytes : ℕ → Format (List ℕ)
bytes n =
    record {
      parse = λ s b. read_bytes s b n;
      print = bits_of;
      Good = BytesGood n;
      good = λ l. eqb (length l) n && are_bytes l;
      dec = λ l. and_both (eqb (length l) n) (are_bytes l) (eqb_is n (length l)) (λ h. h, λ h. h);
      inv = bytes_inv n;
      back = bytes_back n;
      told = bytes_told n;
      stays = bytes_stays n;
      sticks = bytes_sticks n;
      width = λ s b. 8 * n;
      cut = bytes_cut n;
    }

-- ---- no bits: one value
pub const_inv : {A : Type 0} (a : A) (s : List ℕ) (b : State) → b.refusal ≡ 0 → Got (λ (x : A). x ≡ a) (λ x. []) s b a b
const_inv a s b z = record { was = z; good = refl; same = refl; moved = sym (add-zero b.at) }

pub const_back : {A : Type 0} (a : A) (s : List ℕ) (p : ℕ) (x : A) → x ≡ a → ◌≡◌ {A = A × State} (a, clean p) (x, clean (p + 0))
const_back a s p x e = ap (λ y. (y, clean p)) (sym e) ∙ ap (λ (k : ℕ). (x, clean k)) (sym (add-zero p))

abbrev pub const : {A : Type 0} (a : A) (is : A → Bool) → ((x : A) → T (is x) ↔ (x ≡ a)) → Format A
const a is d =
    record {
      parse = λ s b. (a, b);
      print = λ x. [];
      Good = λ x. x ≡ a;
      good = is;
      dec = d;
      inv = const_inv a;
      back = λ s p x g w e. const_back a s p x g;
      told = λ s b h. h;
      stays = λ s b h. (omega arith, h);
      sticks = λ s b h. refl;
      width = λ s b. 0;
      cut = λ s b h z. absurd (omega (arith, h, z));
    }

-- ---- a test on the value just read: refusal r, one of a test's, at the bit where the value began, where it fails
test_least : (r : ℕ) → T (is_test_refusal r) → 6 ≤ r
test_least r h = leb→le 6 r (and_split (leb 6 r) (leb r 9) h).0

test_reading : (r : ℕ) → T (is_test_refusal r) → T (is_reading_refusal r)
test_reading r h =
    let k = test_least r h in
    and_join (leb 5 r) (leb r 9) (le→leb 5 r (omega arith), (and_split (leb 6 r) (leb r 9) h).1)

passed : (r : ℕ) → T (is_test_refusal r) → (p : ℕ) (b : State) (c t : Bool) → eqb b.refusal 0 ≡ c → (refuse_if c t p b r).refusal ≡ 0
    → (b.refusal ≡ 0) × T t × (refuse_if c t p b r ≡ b)
passed r h p b true true e z = (z, tt, refl)
passed r h p b true false e z = absurd (omega (arith, test_least r h, z))
passed r h p b false t e z = absurd (eqb-false _ _ e z)

-- a test that leaves no refusal was passed, and changed nothing
pub test_passed : (r : ℕ) → T (is_test_refusal r) → (p : ℕ) (b : State) (t : Bool) → (test p b t r).refusal ≡ 0
    → (b.refusal ≡ 0) × T t × (test p b t r ≡ b)
test_passed r h p b t z = passed r h p b (eqb b.refusal 0) t refl z

pub test_holds : (r p q : ℕ) (t : Bool) → T t → test p (clean q) t r ≡ clean q
test_holds r p q true g = refl
test_holds r p q false g = absurd g

or_right : (a b : Bool) → T b → T (a || b)
or_right true b h = tt
or_right false b h = h

pub test_told : (r : ℕ) → T (is_test_refusal r) → (p : ℕ) (b : State) (t : Bool) → T (is_reading_state b) → T (is_reading_state (test p b t r))
test_told r h p b t k = go (eqb b.refusal 0) t
  where
    go : (c t : Bool) → T (is_reading_state (refuse_if c t p b r))
    go true true = k
    go true false = or_right (eqb r 0) (is_reading_refusal r) (test_reading r h)
    go false t = k

-- a test stays between the place where its value began and the one that the value's reader left
pub test_stays : (r n : ℕ) (p : ℕ) (b : State) (t : Bool) → (p ≤ b.at) × (b.at ≤ n) → (p ≤ (test p b t r).at) × ((test p b t r).at ≤ n)
test_stays r n p b t (h, k) = go (eqb b.refusal 0) t
  where
    go : (c t : Bool) → (p ≤ (refuse_if c t p b r).at) × ((refuse_if c t p b r).at ≤ n)
    go true true = (h, k)
    go true false = (omega arith, omega (arith, h, k))
    go false t = (h, k)

-- refusal 5 is none of a test's: where it stands after one, the test changed nothing
pub test_cut : (r : ℕ) → T (is_test_refusal r) → (p : ℕ) (b : State) (t : Bool) → (test p b t r).refusal ≡ 5 → test p b t r ≡ b
test_cut r h p b t z = go (eqb b.refusal 0) t z
  where
    go : (c t : Bool) → (refuse_if c t p b r).refusal ≡ 5 → refuse_if c t p b r ≡ b
    go true true z = refl
    go true false z = absurd (omega (arith, test_least r h, z))
    go false t z = refl

-- a field that does not fit at a state does not at an equal one
pub at_cut : (s : List ℕ) (n : ℕ) (b c : State) → c ≡ b → (b.refusal ≡ 5 → 8 * length s < b.at + n) → c.refusal ≡ 5 → 8 * length s < c.at + n
at_cut s n b c e k z = subst (λ (d : State). d.refusal ≡ 5 → 8 * length s < d.at + n) (sym e) k z

module _ {A : Type 0} (p : Format A) (f : A → Bool) (r : ℕ) (h : T (is_test_refusal r)) where
  abbrev pub ensure_parse : List ℕ → State → A × State
  ensure_parse s b = let x = p.parse s b in (x.0, test b.at x.1 (f x.0) r)

  abbrev pub EnsureGood : A → Type 0
  EnsureGood a = p.Good a × T (f a)

  pub ensure_inv : (s : List ℕ) (b : State) → (ensure_parse s b).1.refusal ≡ 0
      → Got EnsureGood p.print s b (ensure_parse s b).0 (ensure_parse s b).1
  ensure_inv s b z =
      let x = p.parse s b in
      let w = test_passed r h b.at x.1 (f x.0) z in
      let g = p.inv s b w.0 in
      record { was = g.was; good = (g.good, w.1); same = g.same; moved = ap (λ (c : State). c.at) w.2 ∙ g.moved }

  pub ensure_back : (s : List ℕ) (n : ℕ) (a : A) → EnsureGood a → n + length (p.print a) ≤ 8 * length s → At s n (p.print a)
      → ensure_parse s (clean n) ≡ (a, clean (n + length (p.print a)))
  ensure_back s n a g w e =
      ap (λ (x : A × State). (x.0, test n x.1 (f x.0) r)) (p.back s n a g.0 w e)
      ∙ ap (λ (c : State). (a, c)) (test_holds r n _ (f a) g.1)

  pub ensure_sticks : (s : List ℕ) (b : State) → (b.refusal ≡ 0 → ⊥) → (ensure_parse s b).1 ≡ b
  ensure_sticks s b k =
      let x = p.parse s b in
      ap (λ (c : State). test b.at c (f x.0) r) (p.sticks s b k)
      ∙ ap (λ (t : Bool). refuse_if t (f x.0) b.at b r) (ne_eqb b.refusal 0 k)

  pub ensure_cut : (s : List ℕ) (b : State) → b.refusal ≡ 0 → (ensure_parse s b).1.refusal ≡ 5
      → 8 * length s < (ensure_parse s b).1.at + p.width s b
  ensure_cut s b k z =
      let x = p.parse s b in
      at_cut s (p.width s b) x.1 _ (test_cut r h b.at x.1 (f x.0) z) (p.cut s b k) z

  pub ensure_dec : (a : A) → T (p.good a && f a) ↔ EnsureGood a
  ensure_dec a = and_both (p.good a) (f a) (p.dec a) (λ t. t, λ t. t)

  abbrev pub ensure : Format A
  ensure =
      record {
        parse = ensure_parse;
        print = p.print;
        Good = EnsureGood;
        good = λ a. p.good a && f a;
        dec = ensure_dec;
        inv = ensure_inv;
        back = ensure_back;
        told = λ s b k. test_told r h b.at (p.parse s b).1 (f (p.parse s b).0) (p.told s b k);
        stays = λ s b k. test_stays r (8 * length s) b.at (p.parse s b).1 (f (p.parse s b).0) (p.stays s b k);
        sticks = ensure_sticks;
        width = p.width;
        cut = ensure_cut;
      }

-- ---- one format or another, by a test on what was read before
abbrev pub choose : {A : Type 0} → Bool → Format A → Format A → Format A
choose true p q = p
choose false p q = q

-- ---- one format after another
module _ {A B : Type 0} (p : Format A) (k : A → Format B) where
  abbrev pub seq_parse : List ℕ → State → (A × B) × State
  seq_parse s b =
      let r = p.parse s b in
      let q = (k r.0).parse s r.1 in
      ((r.0, q.0), q.1)

  abbrev pub seq_print : A × B → List Bool
  seq_print x = p.print x.0 ++ (k x.0).print x.1

  abbrev pub SeqGood : A × B → Type 0
  SeqGood x = p.Good x.0 × (k x.0).Good x.1

  pub seq_inv : (s : List ℕ) (b : State) → (seq_parse s b).1.refusal ≡ 0
      → Got SeqGood seq_print s b (seq_parse s b).0 (seq_parse s b).1
  seq_inv s b z =
      let r = p.parse s b in
      let q = (k r.0).parse s r.1 in
      let g2 = (k r.0).inv s r.1 z in
      let g1 = p.inv s b g2.was in
      let l = p.print r.0 in
      let m = (k r.0).print q.0 in
      record {
        was = g1.was;
        good = (g1.good, g2.good);
        same = at_join s b.at l m g1.same (subst (λ (n : ℕ). At s n m) g1.moved g2.same);
        moved =
            g2.moved
            ∙ ap (λ (n : ℕ). n + length m) g1.moved
            ∙ add_assoc b.at (length l) (length m)
            ∙ ap (λ (n : ℕ). b.at + n) (sym (length-append l m));
      }

  pub seq_back : (s : List ℕ) (n : ℕ) (x : A × B) → SeqGood x → n + length (seq_print x) ≤ 8 * length s → At s n (seq_print x)
      → seq_parse s (clean n) ≡ (x, clean (n + length (seq_print x)))
  seq_back s n x g w e =
      let l = p.print x.0 in
      let m = (k x.0).print x.1 in
      let ll : length (l ++ m) ≡ length l + length m = length-append l m in
      let e1 = p.back s n x.0 g.0 (omega arith) (at_left s n l m e) in
      let e2 = (k x.0).back s (n + length l) x.1 g.1 (omega arith) (at_right s n l m e) in
      ap (λ (r : A × State). ((r.0, ((k r.0).parse s r.1).0), ((k r.0).parse s r.1).1)) e1
      ∙ ap (λ (q : B × State). ((x.0, q.0), q.1)) e2
      ∙ ap (λ (j : ℕ). (x, clean j)) (add_assoc n (length l) (length m) ∙ ap (λ (j : ℕ). n + j) (sym ll))

  pub seq_dec : (x : A × B) → T (p.good x.0 && (k x.0).good x.1) ↔ SeqGood x
  seq_dec x = and_both (p.good x.0) ((k x.0).good x.1) (p.dec x.0) ((k x.0).dec x.1)

  pub seq_stays : (s : List ℕ) (b : State) → Stays (8 * length s) b (seq_parse s b).1
  seq_stays s b h =
      let r = p.parse s b in
      let g = p.stays s b h in
      let i = (k r.0).stays s r.1 g.1 in
      (omega (arith, g.0, i.0), i.1)

  pub seq_sticks : (s : List ℕ) (b : State) → (b.refusal ≡ 0 → ⊥) → (seq_parse s b).1 ≡ b
  seq_sticks s b h =
      let q = k (p.parse s b).0 in
      ap (λ (c : State). (q.parse s c).1) (p.sticks s b h) ∙ q.sticks s b h

  -- the second's field, where the first was not refused
  abbrev pub seq_width : List ℕ → State → ℕ
  seq_width s b =
      let r = p.parse s b in
      cond (eqb r.1.refusal 0) ((k r.0).width s r.1) (p.width s b)

  pub seq_cut : (s : List ℕ) (b : State) → b.refusal ≡ 0 → (seq_parse s b).1.refusal ≡ 5 → 8 * length s < (seq_parse s b).1.at + seq_width s b
  seq_cut s b h z = go (eqb r.1.refusal 0) refl
    where
      r : A × State
      r = p.parse s b

      q : Format B
      q = k r.0

      go : (t : Bool) → eqb r.1.refusal 0 ≡ t → 8 * length s < (q.parse s r.1).1.at + cond t (q.width s r.1) (p.width s b)
      go true e = q.cut s r.1 (eqb-true _ _ e) z
      go false e = at_cut s (p.width s b) r.1 _ (q.sticks s r.1 (eqb-false _ _ e)) (p.cut s b h) z

  unfoldable pub ◌>>=◌ : Format (A × B)
  ◌>>=◌ =
      record {
        parse = seq_parse;
        print = seq_print;
        Good = SeqGood;
        good = λ x. p.good x.0 && (k x.0).good x.1;
        dec = seq_dec;
        inv = seq_inv;
        back = seq_back;
        told = λ s b h. (k (p.parse s b).0).told s (p.parse s b).1 (p.told s b h);
        stays = seq_stays;
        sticks = seq_sticks;
        width = seq_width;
        cut = seq_cut;
      }

-- ---- another view of the value
-- `is` tells the values that the view gives back
module _ {A B : Type 0} (to : A → B) (from : B → A) (is : B → Bool) (p : Format A) (h : (a : A) → p.Good a → from (to a) ≡ a)
    (d : (x : B) → T (is x) ↔ (to (from x) ≡ x)) where
  abbrev pub view_parse : List ℕ → State → B × State
  view_parse s b = let r = p.parse s b in (to r.0, r.1)

  abbrev pub view_print : B → List Bool
  view_print x = p.print (from x)

  abbrev pub ViewGood : B → Type 0
  ViewGood x = p.Good (from x) × (to (from x) ≡ x)

  pub view_inv : (s : List ℕ) (b : State) → (view_parse s b).1.refusal ≡ 0
      → Got ViewGood view_print s b (view_parse s b).0 (view_parse s b).1
  view_inv s b z =
      let g = p.inv s b z in
      let a = (p.parse s b).0 in
      let e : from (to a) ≡ a = h a g.good in
      record {
        was = g.was;
        good = (subst (λ x. p.Good x) (sym e) g.good, ap to e);
        same = subst (λ x. At s b.at (p.print x)) (sym e) g.same;
        moved = g.moved ∙ ap (λ x. b.at + length (p.print x)) (sym e);
      }

  pub view_back : (s : List ℕ) (n : ℕ) (x : B) → ViewGood x → n + length (view_print x) ≤ 8 * length s → At s n (view_print x)
      → view_parse s (clean n) ≡ (x, clean (n + length (view_print x)))
  view_back s n x g w e =
      ap (λ (r : A × State). (to r.0, r.1)) (p.back s n (from x) g.0 w e)
      ∙ ap (λ y. (y, clean (n + length (view_print x)))) g.1

  pub view_dec : (x : B) → T (p.good (from x) && is x) ↔ ViewGood x
  view_dec x = and_both (p.good (from x)) (is x) (p.dec (from x)) (d x)

  unfoldable pub view : Format B
  view =
      record {
        parse = view_parse;
        print = view_print;
        Good = ViewGood;
        good = λ x. p.good (from x) && is x;
        dec = view_dec;
        inv = view_inv;
        back = view_back;
        told = p.told;
        stays = p.stays;
        sticks = p.sticks;
        width = p.width;
        cut = p.cut;
      }

-- the same value by other names
abbrev pub renamed : {A B : Type 0} (to : A → B) (from : B → A) → Format A → ((a : A) → from (to a) ≡ a) → ((x : B) → to (from x) ≡ x) → Format B
renamed to from p h d = view to from (λ x. true) p (λ a g. h a) (λ x. (λ t. d x, λ e. tt))

-- ---- what the header is written with
to_n-eqb : (v : ℕ) → v < 2 → to_n (eqb v 1) ≡ v
to_n-eqb zero h = refl
to_n-eqb (suc zero) h = refl
to_n-eqb (suc (suc v)) h = absurd (omega arith)

pub flag_from : (v : ℕ) → v < 2 ^ 1 → to_n (eqb v 1) ≡ v
flag_from v h = to_n-eqb v h

pub flag_is : (b : Bool) → T true ↔ (eqb (to_n b) 1 ≡ b)
flag_is true = (λ t. refl, λ e. tt)
flag_is false = (λ t. refl, λ e. tt)

abbrev pub flag : Format Bool
flag = view (λ v. eqb v 1) to_n (λ b. true) (field 1) flag_from flag_is

-- a number from k up, stored less k
pub offset_from : (k n v : ℕ) → v < 2 ^ n → v + k - k ≡ v
offset_from k n v h = add-sub_cancel v k

pub offset_is : (k w : ℕ) → T (leb k w) ↔ (w - k + k ≡ w)
offset_is k w = (λ t. sub-add_cancel (leb→le k w t), λ e. le→leb k w (omega arith))

abbrev pub offset : ℕ → ℕ → Format ℕ
offset k n = view (λ v. v + k) (λ w. w - k) (λ w. leb k w) (field n) (offset_from k n) (offset_is k)

-- stored less one
abbrev pub minus1 : ℕ → Format ℕ
minus1 n = offset 1 n

abbrev pub number : ℕ → Format ℕ
number n = const n (λ x. eqb x n) (eqb_is n)

pub not_is : (b : Bool) → T (not b) ↔ (b ≡ false)
not_is true = (λ t. absurd t, λ e. subst T e tt)
not_is false = (λ t. refl, λ e. tt)

abbrev pub off : Format Bool
off = const false not not_is

-- a long or a short form
abbrev pub sized : Bool → ℕ → ℕ → ℕ
sized true long short = long
sized false long short = short

abbrev pub field_if : Bool → ℕ → Format ℕ
field_if t n = choose t (field n) (number 0)

abbrev pub minus1_if : Bool → ℕ → Format ℕ
minus1_if t n = choose t (minus1 n) (number 0)

abbrev pub flag_if : Bool → Format Bool
flag_if t = choose t flag off

-- one format after another that has no value
abbrev pub ◌>>◌ : {A : Type 0} → Format (Unit {0}) → Format A → Format A
p >> q = renamed (λ x. x.1) (λ a. (tt, a)) (p >>= λ u. q) (λ a. refl) (λ a. refl)

-- n bits that must write v: refusal r where they do not
pub exactly_from : (n v r : ℕ) (h : T (is_test_refusal r)) (x : ℕ) → (ensure (field n) (λ x. eqb x v) r h).Good x → v ≡ x
exactly_from n v r h x g = sym (eqb→eq x v g.1)

abbrev pub exactly : (n v r : ℕ) → T (is_test_refusal r) → Format (Unit {0})
exactly n v r h =
    view (λ x. tt) (λ u. v) (λ u. true) (ensure (field n) (λ x. eqb x v) r h) (exactly_from n v r h) (λ u. (λ t. refl, λ e. tt))

-- ---- one list
abbrev pub is_list : List ℕ → List ℕ → Bool
is_list [] [] = true
is_list [] (y ∷ ys) = false
is_list (x ∷ xs) [] = false
is_list (x ∷ xs) (y ∷ ys) = eqb x y && is_list xs ys

is_list-eq : (l m : List ℕ) → T (is_list l m) → l ≡ m
is_list-eq [] [] t = refl
is_list-eq [] (y ∷ ys) t = absurd t
is_list-eq (x ∷ xs) [] t = absurd t
is_list-eq (x ∷ xs) (y ∷ ys) t =
    let w = and_split (eqb x y) (is_list xs ys) t in
    ap₂ (λ (a : ℕ) (k : List ℕ). a ∷ k) (eqb→eq x y w.0) (is_list-eq xs ys w.1)

is_list_refl : (l : List ℕ) → T (is_list l l)
is_list_refl [] = tt
is_list_refl (x ∷ xs) = and_join (eqb x x) (is_list xs xs) (eqb_refl x, is_list_refl xs)

pub list_is : (l m : List ℕ) → T (is_list m l) ↔ (m ≡ l)
list_is l m = (is_list-eq m l, λ e. subst (λ (x : List ℕ). T (is_list m x)) e (is_list_refl m))

-- no bits: one list
abbrev pub listed : List ℕ → Format (List ℕ)
listed l = const l (λ m. is_list m l) (list_is l)

-- n bytes where the flag says so, else zeros
abbrev pub bytes_for : Bool → ℕ → Format (List ℕ)
bytes_for t n = choose t (bytes n) (listed (replicate n 0))

-- a byte in front of a body, and zeros up to 37 bytes
abbrev pub padded37 : ℕ × List ℕ → List ℕ
padded37 x = x.0 ∷ (x.1 ++ replicate (36 - length x.1) 0)
