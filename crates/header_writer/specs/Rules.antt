-- Rules for the parts of the header's writing that are no plain sequence. Assumes nothing.
use Rattle.std.specs.Prelude.{◌≡◌, refl, Bool, true, false, not, ◌&&◌, ◌||◌, List, [], ◌∷◌, ◌++◌, ℕ, zero, suc, ◌+◌, ◌-◌, ◌^◌, ◌≤◌, ◌<◌, eqb, ltb, length, take, drop, get_or, replicate}
use Rattle.std.proofs.Common.{sym, append_assoc, ap, ap₂, ◌∙◌, arith, add-one, length-take, length-drop, take-append-drop, eq-eqb, ne_eqb, lt-ltb}
use Rattle.std.proofs.Math.Pow.{are_bytes}
use Rattle.bits.specs.Bit.{bits_n, bits_of, bits_onto_is}
use Rattle.bits.specs.Format.{Format, field, flag, sized, is_list, view, ◌>>=◌}
use Rattle.bit_writer.specs.Writer.{Fed, Tested, Puts, fits, all_zero}
use Rattle.bit_writer.specs.WriterLaws.{fed_as, fed_tested, put_of, then, and_assoc}
use Rattle.bit_writer.specs.declared.BitWriter.{BitWriter}
use Rattle.mini.specs.Cclv.{cclv_more}
use Rattle.mini.specs.Syntax.{cclv}
use Rattle.mini.specs.Views.{cicp_fields, bits_in, is_float, is_format, float_code}
use Rattle.mini.specs.declared.SampleFormat.{SampleFormat}
use Rattle.mini.specs.declared.SampleFormat.TheVariants.{Integer, Float}

-- a float whose depth has a code
pub float_depth : (n : ℕ) → (eqb n 16 || (eqb n 32 || eqb n 64)) ≡ eqb n (2 ^ (float_code n + 4))
unfolding float_code
float_depth n = go (eqb n 16) (eqb n 32) refl refl
  where
    go : (t u : Bool) → eqb n 16 ≡ t → eqb n 32 ≡ u → (t || (u || eqb n 64)) ≡ eqb n (2 ^ (sized t 0 (sized u 1 2) + 4))
    go true u e f = sym e
    go false true e f = sym f
    go false false e f = refl

pub is_integer : (f : SampleFormat) → not (is_float f) ≡ is_format (Integer (bits_in f)) f
is_integer (Integer n) = sym (eq-eqb n n refl)
is_integer (Float n) = refl

-- ---- a cclv: its first byte tells how many follow, and the rest of its 37 bytes are zero
eqb_turn : (x : ℕ) → eqb x 0 ≡ eqb 0 x
eqb_turn zero = refl
eqb_turn (suc x) = ne_eqb (suc x) 0 (λ e. omega arith) ∙ sym (ne_eqb 0 (suc x) (λ e. omega arith))

zeros_are : (l : List ℕ) → all_zero l ≡ is_list (replicate (length l) 0) l
zeros_are [] = refl
zeros_are (x ∷ l) = ap₂ (λ (t u : Bool). t && u) (eqb_turn x) (zeros_are l)

same_front : (p q r : List ℕ) → is_list q r ≡ is_list (p ++ q) (p ++ r)
same_front [] q r = refl
same_front (x ∷ p) q r = same_front p q r ∙ ap (λ (t : Bool). t && is_list (p ++ q) (p ++ r)) (sym (eq-eqb x x refl))

front_bytes : (m : ℕ) (l : List ℕ) → ((i : ℕ) → get_or l i 0 < 256) → are_bytes (take m l) ≡ true
front_bytes zero l g = refl
front_bytes (suc m) [] g = refl
front_bytes (suc m) (x ∷ l) g = ap₂ (λ (t u : Bool). t && u) (lt-ltb x 256 (g 0)) (front_bytes m l (λ i. g (suc i)))

cclv_good : (x m : ℕ) (l : List ℕ) → length l ≡ 36 → ((i : ℕ) → get_or (x ∷ l) i 0 < 256) → m ≡ cclv_more x → m ≤ 36
    → all_zero (drop m l) ≡ cclv.good (x ∷ l)
unfolding cclv ◌>>=◌ view
cclv_good x m l w g f k =
    let lt : length (take m l) ≡ m = simp length-take (omega arith) in
    let ld : length (drop m l) ≡ 36 - length (take m l) = simp length-drop (omega arith) in
    zeros_are (drop m l)
    ∙ ap (λ (j : ℕ). is_list (replicate j 0) (drop m l)) ld
    ∙ same_front (take m l) (replicate (36 - length (take m l)) 0) (drop m l)
    ∙ ap (λ (r : List ℕ). is_list (take m l ++ replicate (36 - length (take m l)) 0) r) (take-append-drop m l)
    ∙ sym
    (ap₂ (λ (t u : Bool). (t && u) && (eqb x x && is_list (take m l ++ replicate (36 - length (take m l)) 0) l)) (lt-ltb x 256 (g 0))
    (ap₂ (λ (t u : Bool). t && u) (eq-eqb (length (take m l)) m lt) (front_bytes m l (λ i. g (suc i))))
    ∙ ap (λ (t : Bool). t && is_list (take m l ++ replicate (36 - length (take m l)) 0) l) (eq-eqb x x refl))
    ∙ ap (λ (j : ℕ). (ltb x 256 && (eqb (length (take j l)) j && are_bytes (take j l))) && is_list (x ∷ (take j l ++ replicate (36 - length (take j l)) 0)) (x ∷ l)) f

cclv_print : (x m : ℕ) (l : List ℕ) → m ≡ cclv_more x → bits_of (take (m + 1) (x ∷ l)) ≡ cclv.print (x ∷ l)
unfolding cclv ◌>>=◌ view
cclv_print x m l e =
    ap (λ (j : ℕ). bits_of (take j (x ∷ l))) (add-one m)
    ∙ bits_onto_is 8 x (bits_of (take m l))
    ∙ ap (λ (j : ℕ). bits_n 8 x ++ bits_of (take j l)) e

pub puts_cclv : {o o' : List ℕ} {w w₁ w' : BitWriter} {m : ℕ} (s : List ℕ) → m ≡ cclv_more (get_or s 0 0) → m ≤ 36 → length s ≡ 37
    → ((i : ℕ) → get_or s i 0 < 256) → Fed o w (bits_of (take (m + 1) s)) o' w₁ → fits w₁ ≡ fits w → Tested w₁ (all_zero (drop (m + 1) s)) w'
    → Puts cclv o w s o' w'
puts_cclv [] e h n g p q r = absurd (omega arith)
puts_cclv {w = w} {m = m} (x ∷ l) e h n g p q r =
    record {
      fed = fed_tested (fed_as (cclv_print x m l e) p) r;
      ok =
          r.ok
          ∙ ap₂ (λ (t u : Bool). t && u) q (ap (λ (j : ℕ). all_zero (drop j (x ∷ l))) (add-one m) ∙ cclv_good x m l (omega arith) g e h);
    }

-- ---- colour: its three fields, and a flag behind them
abbrev pub cicp_and_flag : Format (ℕ × (ℕ × (ℕ × Bool)))
cicp_and_flag = do
  primaries ← field 8
  transfer ← field 8
  matrix ← field 8
  flag

pub puts_cicp_then : {o o₁ o₂ : List ℕ} {w w₁ w₂ : BitWriter} {a b c : ℕ} {t : Bool} → Puts cicp_fields o w (a, (b, c)) o₁ w₁ → Puts flag o₁ w₁ t o₂ w₂
    → Puts cicp_and_flag o w (a, (b, (c, t))) o₂ w₂
unfolding ◌>>=◌
puts_cicp_then {w = w} {a = a} {b} {c} {t} p q =
    let m = then (put_of p) (put_of q) in
    record { fed = fed_as (simp append_assoc) m.fed; ok = m.ok ∙ simp and_assoc }
