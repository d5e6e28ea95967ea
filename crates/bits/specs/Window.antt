-- A field cut out of the window of five bytes that it lies in is the number that its bits write; and bytes read one by one are
-- those that the bits write. Assumes nothing.
use Rattle.std.specs.Prelude.{◌≡◌, refl, Bool, true, false, ◌⊎◌, List, [], ◌∷◌, ◌++◌, ℕ, zero, suc, ◌+◌, ◌-◌, ◌*◌, ◌/◌, ◌%◌, ◌^◌, ◌≤◌, ◌<◌, ltb, length, take, drop, get_or, set, replicate}
use Rattle.std.proofs.Common.{sym, ap, ap₂, ◌∙◌, inl, inr, ⊎_elim, div-one, lt_of_lt_of_le, zero-add, suc-add, add-one, arith, shr-shr, pow_mono, length-take, length-drop, get_or-append-add, take-suc, get_or-drop, take-suc-set, take-take, drop-drop, length-take-le, ltb-true, ltb-false}
use Rattle.std.proofs.Math.Nat.{div-div-eq-div-mul, pow-succ', zero-sub, sub-zero, suc-sub-suc}
use Rattle.std.proofs.Math.Pow.{field, mod-mod-pow}
use Rattle.std.proofs.lemmas.Nat.{mod-pow-add}
use Rattle.std.proofs.lemmas.List.{length-replicate, get_or_at}
use Rattle.std.proofs.Math.Seq.{take-length}
use Rattle.bits.specs.Bit.{to_n, odd, val_from, val, bits_n, bits_onto, bits_of, bits_onto_is, length-bits_n, length-bits_of, to_n-odd, val-lt}
use Rattle.bits.specs.State.{State, ahead, part, bytes_of, bytes_at, bytes_if, read_bytes}
use Rattle.bits.specs.Format.{length-bytes_of}

-- the bit j of n written bits
pub onto_at : (n v : ℕ) (l : List Bool) (j : ℕ) → j < n → get_or (bits_onto n v l) j false ≡ odd (v / 2 ^ (n - suc j))
onto_at zero v l j h = absurd (omega arith)
onto_at (suc n) v l j h = go (λ k. onto_at n (v / 2) (odd v ∷ l) j k) (ltb j n) refl
  where
    go : (j < n → get_or (bits_onto n (v / 2) (odd v ∷ l)) j false ≡ odd (v / 2 / 2 ^ (n - suc j))) → (t : Bool) → ltb j n ≡ t → get_or (bits_onto n (v / 2) (odd v ∷ l)) j false ≡ odd (v / 2 ^ (suc n - suc j))
    go ih true e =
        let k : ℕ = n - suc j in
        let q : suc n - suc j ≡ suc k = omega (arith, ltb-true j n e) in
        ih (ltb-true j n e)
        ∙ ap odd (div-div-eq-div-mul v 2 (2 ^ k) ∙ ap (λ (m : ℕ). v / m) (sym (pow-succ' 2 k)) ∙ ap (λ (m : ℕ). v / 2 ^ m) (sym q))
    go ih false e =
        let q : j ≡ n = omega (arith, ltb-false j n e) in
        let z : suc n - suc j ≡ 0 = omega arith in
        ap (λ (m : List Bool). get_or m j false) (bits_onto_is n (v / 2) (odd v ∷ l))
        ∙ get_or_at (bits_n n (v / 2)) (odd v) l false j (length-bits_n n (v / 2) ∙ sym q)
        ∙ ap odd (sym (ap (λ (m : ℕ). v / 2 ^ m) z ∙ div-one v))

-- the bit q of the bytes s
pub bit_at_lem : (s : List ℕ) (q : ℕ) → q < 8 * length s → get_or (bits_of s) q false ≡ odd (get_or s (q / 8) 0 / 2 ^ (7 - q % 8))
bit_at_lem [] q h = absurd (omega arith)
bit_at_lem (b ∷ s) q h = go (λ r k. bit_at_lem s r k) (ltb q 8) refl
  where
    go : ((r : ℕ) → r < 8 * length s → get_or (bits_of s) r false ≡ odd (get_or s (r / 8) 0 / 2 ^ (7 - r % 8)))
        → (t : Bool) → ltb q 8 ≡ t → get_or (bits_onto 8 b (bits_of s)) q false ≡ odd (get_or (b ∷ s) (q / 8) 0 / 2 ^ (7 - q % 8))
    go ih true e =
        let k : q < 8 = ltb-true q 8 e in
        let d : 0 ≡ q / 8 = omega arith in
        let m : 8 - suc q ≡ 7 - q % 8 = omega arith in
        onto_at 8 b (bits_of s) q k
        ∙ ap₂ (λ (x y : ℕ). odd (get_or (b ∷ s) x 0 / 2 ^ y)) d m
    go ih false e =
        let k : 8 ≤ q = ltb-false q 8 e in
        let r : ℕ = q - 8 in
        let w : q ≡ length (bits_n 8 b) + r = omega arith in
        let d : suc (r / 8) ≡ q / 8 = omega arith in
        let m : 7 - r % 8 ≡ 7 - q % 8 = omega arith in
        ap₂ (λ (x : List Bool) (y : ℕ). get_or x y false) (bits_onto_is 8 b (bits_of s)) w
        ∙ get_or-append-add (bits_n 8 b) (bits_of s) r false
        ∙ ih r (omega arith)
        ∙ ap₂ (λ (x y : ℕ). odd (get_or (b ∷ s) x 0 / 2 ^ y)) d m

val_snoc : (l : List Bool) (a : ℕ) (b : Bool) → val_from a (l ++ (b ∷ [])) ≡ val_from a l * 2 + to_n b
val_snoc [] a b = refl
val_snoc (x ∷ l) a b = val_snoc l (a * 2 + to_n x) b

pub part_none : (s : List ℕ) (p : ℕ) → part s p 0 ≡ 0
unfolding part
part_none s p = refl

-- one bit more
pub part_more : (s : List ℕ) (p j : ℕ) → p + j < 8 * length s
    → part s p (j + 1) ≡ part s p j * 2 + get_or s ((p + j) / 8) 0 / 2 ^ (7 - (p + j) % 8) % 2
unfolding part
part_more s p j h =
    let x = drop p (bits_of s) in
    let lx : j < length x = simp (length-drop, length-bits_of) (omega arith) in
    ap (λ (k : ℕ). val (take k x)) (add-one j)
    ∙ ap val (take-suc x j false lx)
    ∙ val_snoc (take j x) 0 (get_or x j false)
    ∙ ap (λ (k : ℕ). val (take j x) * 2 + k)
    (ap to_n (get_or-drop p (bits_of s) j false ∙ bit_at_lem s (p + j) h) ∙ to_n-odd (get_or s ((p + j) / 8) 0 / 2 ^ (7 - (p + j) % 8)))

pub part-lt : (s : List ℕ) (p j : ℕ) → part s p j < 2 ^ j
unfolding part
part-lt s p j =
    let x = take j (drop p (bits_of s)) in
    lt_of_lt_of_le (val-lt x) (pow_mono (simp length-take (omega arith)))

-- a number of the widest of the fields that hold sizes
pub pow_28 : (n : ℕ) → n ≤ 28 → 2 ^ n ≤ 268435456
pow_28 n h = pow_mono {j = 28} h

-- one bit, out of the byte that it lies in
pub bit_part : (d : List ℕ) (i a p : ℕ) → a < 8 → i * 8 + a ≡ p → p + 1 ≤ 8 * length d → get_or d i 0 / 2 ^ (7 - a) % 2 ≡ part d p 1
bit_part d i a p h e g =
    let at : (p + 0) / 8 ≡ i = omega arith in
    let off : (p + 0) % 8 ≡ a = omega arith in
    sym
    (part_more d p 0 (omega arith)
    ∙ ap (λ (k : ℕ). k * 2 + get_or d ((p + 0) / 8) 0 / 2 ^ (7 - (p + 0) % 8) % 2) (part_none d p)
    ∙ ap₂ (λ (x y : ℕ). 0 + get_or d x 0 / 2 ^ (7 - y) % 2) at off
    ∙ zero-add _)

-- ---- as code reads them: bit p, 0 or 1; past the end, 0
unfoldable pub bit_at : List ℕ → ℕ → ℕ
bit_at d p = get_or d (p / 8) 0 / 2 ^ (7 - p % 8) % 2

-- n bits from p on, one by one
unfoldable pub bits_at : List ℕ → ℕ → ℕ → ℕ
bits_at d p zero = 0
bits_at d p (suc n) = bits_at d p n * 2 + bit_at d (p + n)

-- the five bytes from byte i as one number, high byte first: a field of up to 32 bits lies within them
abbrev pub window_at : List ℕ → ℕ → ℕ
window_at d i =
    get_or d (i + 0) 0 * 4294967296 + get_or d (i + 1) 0 * 16777216 + get_or d (i + 2) 0 * 65536 + get_or d (i + 3) 0 * 256
    + get_or d (i + 4) 0

-- a byte of a number, and a bit of that byte
bit_of_byte : (x t : ℕ) → t < 8 → x % 2 ^ 8 / 2 ^ (7 - t) % 2 ≡ x / 2 ^ (7 - t) % 2
bit_of_byte x t h =
    let e : 8 ≡ t + 1 + (7 - t) = omega arith in
    ap (λ (k : ℕ). x % 2 ^ k / 2 ^ (7 - t) % 2) e ∙ ap (λ (k : ℕ). k % 2) (field x (t + 1) (7 - t))
    ∙ mod-mod-pow (x / 2 ^ (7 - t)) t 1

bit_from : (w j e t b : ℕ) → t < 8 → e + (7 - t) ≡ 39 - j → w / 2 ^ e % 256 ≡ b → w / 2 ^ (39 - j) % 2 ≡ b / 2 ^ (7 - t) % 2
bit_from w j e t b h s p =
    ap (λ (k : ℕ). w / 2 ^ k % 2) (sym s) ∙ ap (λ (k : ℕ). k % 2) (sym (shr-shr w e (7 - t)))
    ∙ sym (bit_of_byte (w / 2 ^ e) t h) ∙ ap (λ (k : ℕ). k / 2 ^ (7 - t) % 2) p

below_or : (a b : ℕ) → (a < b) ⊎ (b ≤ a)
below_or a b = go (ltb a b) refl
  where
    go : (t : Bool) → ltb a b ≡ t → (a < b) ⊎ (b ≤ a)
    go true e = inl (ltb-true a b e)
    go false e = inr (ltb-false a b e)

-- bit j of the window is bit j counted from its first byte
window_bit : (d : List ℕ) → ((k : ℕ) → get_or d k 0 < 256) → (i j : ℕ) → j < 40 → window_at d i / 2 ^ (39 - j) % 2 ≡ bit_at d (i * 8 + j)
unfolding bit_at
window_bit d f i j h =
    ⊎_elim (λ q. at 32 (i + 0) (omega arith) (omega arith) (omega (arith, f (i + 0), f (i + 1), f (i + 2), f (i + 3), f (i + 4))))
    (λ q. ⊎_elim (λ r. at 24 (i + 1) (omega arith) (omega arith) (omega (arith, f (i + 0), f (i + 1), f (i + 2), f (i + 3), f (i + 4))))
    (λ r. ⊎_elim (λ s. at 16 (i + 2) (omega arith) (omega arith) (omega (arith, f (i + 0), f (i + 1), f (i + 2), f (i + 3), f (i + 4))))
    (λ s. ⊎_elim (λ t. at 8 (i + 3) (omega arith) (omega arith) (omega (arith, f (i + 0), f (i + 1), f (i + 2), f (i + 3), f (i + 4))))
    (λ t. at 0 (i + 4) (omega arith) (omega arith) (omega (arith, f (i + 0), f (i + 1), f (i + 2), f (i + 3), f (i + 4))))
    (below_or j 32)) (below_or j 24)) (below_or j 16)) (below_or j 8)
  where
    at : (e k : ℕ) → (i * 8 + j) / 8 ≡ k → e + (7 - (i * 8 + j) % 8) ≡ 39 - j → window_at d i / 2 ^ e % 256 ≡ get_or d k 0
        → window_at d i / 2 ^ (39 - j) % 2 ≡ get_or d ((i * 8 + j) / 8) 0 / 2 ^ (7 - (i * 8 + j) % 8) % 2
    at e k p s b = bit_from (window_at d i) j e ((i * 8 + j) % 8) (get_or d ((i * 8 + j) / 8) 0) (omega arith) s (b ∙ ap (λ (n : ℕ). get_or d n 0) (sym p))

-- a field of n bits, a bits into the window
pub window_field : (d : List ℕ) → ((k : ℕ) → get_or d k 0 < 256) → (i a n : ℕ) → a + n ≤ 40 → window_at d i / 2 ^ (40 - a - n) % 2 ^ n ≡ bits_at d (i * 8 + a) n
unfolding bits_at
window_field d f i a zero h = omega arith
window_field d f i a (suc n) h =
    let w = window_at d i in
    let e : 40 - a - suc n ≡ 39 - (a + n) = omega arith in
    let e' : 40 - a - n ≡ 40 - a - suc n + 1 = omega arith in
    ap (λ (k : ℕ). w / 2 ^ (40 - a - suc n) % 2 ^ k) (sym (add-one n)) ∙ mod-pow-add (w / 2 ^ (40 - a - suc n)) n 1
    ∙ ap₂ (λ (x y : ℕ). x * 2 + y)
    (ap (λ (k : ℕ). k % 2 ^ n) (shr-shr w (40 - a - suc n) 1 ∙ ap (λ (k : ℕ). w / 2 ^ k) (sym e')) ∙ window_field d f i a n (omega arith))
    (ap (λ (k : ℕ). w / 2 ^ k % 2) e ∙ window_bit d f i (a + n) (omega arith) ∙ ap (bit_at d) (omega arith))

-- what the bits write is what they are, one by one
pub bits_part : (d : List ℕ) (p n : ℕ) → p + n ≤ 8 * length d → bits_at d p n ≡ part d p n
unfolding bits_at bit_at
bits_part d p zero h = sym (part_none d p)
bits_part d p (suc n) h =
    let q : p + n < 8 * length d = omega arith in
    ap (λ (k : ℕ). k * 2 + get_or d ((p + n) / 8) 0 / 2 ^ (7 - (p + n) % 8) % 2) (bits_part d p n (omega arith))
    ∙ sym (part_more d p n q) ∙ ap (part d p) (add-one n)

pub window_part : (d : List ℕ) → ((k : ℕ) → get_or d k 0 < 256) → (i a n p : ℕ) → a + n ≤ 40 → i * 8 + a ≡ p → p + n ≤ 8 * length d
    → window_at d i / 2 ^ (40 - a - n) % 2 ^ n ≡ part d p n
window_part d f i a n p h e g = window_field d f i a n h ∙ ap (λ (k : ℕ). bits_at d k n) e ∙ bits_part d p n g

-- ---- bytes, one more at the end
drop-take : (n m : ℕ) (l : List Bool) → drop n (take (n + m) l) ≡ take m (drop n l)
drop-take zero m l = ap (λ (k : ℕ). take k l) (zero-add m)
drop-take (suc n) zero [] = ap (λ (k : ℕ). drop (suc n) (take k [])) (suc-add n 0)
drop-take (suc n) (suc m) [] = ap (λ (k : ℕ). drop (suc n) (take k [])) (suc-add n (suc m))
drop-take (suc n) m (b ∷ l) = ap (λ (k : ℕ). drop (suc n) (take k (b ∷ l))) (suc-add n m) ∙ drop-take n m l

of_take : (n : ℕ) (l : List Bool) → bytes_of n (take (8 * n) l) ≡ bytes_of n l
unfolding bytes_of
of_take zero l = refl
of_take (suc n) l =
    let e : 8 * suc n ≡ 8 + 8 * n = omega arith in
    let m : 8 ≤ 8 + 8 * n = omega arith in
    ap (λ (k : ℕ). bytes_of (suc n) (take k l)) e
    ∙ ap₂ (λ (x : List Bool) (y : List ℕ). val x ∷ y) (take-take 8 (8 + 8 * n) l m)
    (ap (bytes_of n) (drop-take 8 (8 * n) l) ∙ of_take n (drop 8 l))

of_snoc : (n : ℕ) (l : List Bool) → bytes_of (suc n) l ≡ bytes_of n l ++ val (take 8 (drop (8 * n) l)) ∷ []
unfolding bytes_of
of_snoc zero l = refl
of_snoc (suc n) l =
    let e : 8 + 8 * n ≡ 8 * suc n = omega arith in
    ap (λ (x : List ℕ). val (take 8 l) ∷ x)
    (of_snoc n (drop 8 l)
    ∙ ap (λ (x : List Bool). bytes_of n (drop 8 l) ++ val (take 8 x) ∷ []) (drop-drop (8 * n) 8 l ∙ ap (λ (k : ℕ). drop k l) e))

pub bytes_none : (d : List ℕ) (p : ℕ) → bytes_at d p 0 ≡ []
unfolding bytes_at bytes_of
bytes_none d p = refl

bytes-suc : (d : List ℕ) (p i : ℕ) → bytes_at d p (suc i) ≡ bytes_at d p i ++ part d (p + 8 * i) 8 ∷ []
unfolding bytes_at part
bytes-suc d p i =
    let l = drop p (bits_of d) in
    of_take (suc i) l ∙ of_snoc i l
    ∙ ap₂ (λ (x : List ℕ) (y : List Bool). x ++ val (take 8 y) ∷ []) (sym (of_take i l)) (drop-drop (8 * i) p (bits_of d))

-- one byte more of a run of bytes
pub bytes_more : (d : List ℕ) (p q i : ℕ) (out : List ℕ) (b : ℕ) → i < length out → take i out ≡ bytes_at d p i → q ≡ p + 8 * i
    → b ≡ part d q 8 → take (i + 1) (set out i b) ≡ bytes_at d p (i + 1)
bytes_more d p q i out b h e r v =
    rw add-one
    (take-suc-set out i b h ∙ ap₂ (λ (x : List ℕ) (y : ℕ). x ++ y ∷ []) e (v ∙ ap (λ (k : ℕ). part d k 8) r) ∙ sym (bytes-suc d p i))

-- a list that agrees with a run of bytes to its end is that run
pub bytes-all : (d : List ℕ) (p i n : ℕ) (out : List ℕ) → length out ≡ n → i ≡ n → take i out ≡ bytes_at d p i → out ≡ bytes_at d p n
bytes-all d p i n out l h e = sym (take-length out) ∙ ap (λ (k : ℕ). take k out) (l ∙ sym h) ∙ e ∙ ap (bytes_at d p) h

pub length-bytes : (d : List ℕ) (p n : ℕ) → length (bytes_at d p n) ≡ n
unfolding bytes_at
length-bytes d p n = length-bytes_of n _

-- ---- zeros behind a body
abbrev zeros : ℕ → List ℕ
zeros n = replicate n 0

zeros-drop : (k n : ℕ) → drop k (zeros n) ≡ zeros (n - k)
zeros-drop zero n = ap zeros (sym (sub-zero n))
zeros-drop (suc k) zero = ap (λ (m : ℕ). zeros m) (sym (zero-sub (suc k)))
zeros-drop (suc k) (suc n) = zeros-drop k n ∙ ap (λ (m : ℕ). zeros m) (sym (suc-sub-suc n k))

pub zeros_join : (k n : ℕ) → k ≤ n → zeros n ≡ zeros k ++ zeros (n - k)
zeros_join zero n h = ap zeros (sym (sub-zero n))
zeros_join (suc k) zero h = absurd (omega arith)
zeros_join (suc k) (suc n) h =
    ap (λ (l : List ℕ). 0 ∷ l) (zeros_join k n (omega arith) ∙ ap (λ (m : ℕ). zeros k ++ zeros m) (sym (suc-sub-suc n k)))

pub take-zeros : (m n : ℕ) → take m (zeros n) ≡ zeros (length (take m (zeros n)))
take-zeros zero n = refl
take-zeros (suc m) zero = refl
take-zeros (suc m) (suc n) = ap (λ (l : List ℕ). 0 ∷ l) (take-zeros m n)

pub zeros-length : (k m n : ℕ) → m ≡ k → k ≤ n → length (take m (zeros n)) ≡ k
zeros-length k m n e h = ap (λ (j : ℕ). length (take j (zeros n))) e ∙ length-take-le k (zeros n) (simp length-replicate (omega arith))

pub body_put : (k m n first : ℕ) {l body : List ℕ} → m ≡ k → l ≡ body → length body ≡ k
    → first ∷ (l ++ drop m (zeros n)) ≡ first ∷ (body ++ zeros (n - length body))
body_put k m n first e g h =
    ap₂ (λ (x y : List ℕ). first ∷ (x ++ y)) g (ap (λ (j : ℕ). drop j (zeros n)) (e ∙ sym h) ∙ zeros-drop _ n)

length_read' : (t : Bool) (s : List ℕ) (p n : ℕ) → length (bytes_if t s p n) ≡ n
length_read' true s p n = length-bytes s p n
length_read' false s p n = length-replicate n 0

pub length_read : (s : List ℕ) (b : State) (n : ℕ) → length (read_bytes s b n).0 ≡ n
unfolding read_bytes
length_read s b n = length_read' (ahead s b (8 * n)).0 s b.at n
