-- Writing a record as a 'mini' box: document 01, 'src/mini.rs, writing' and 'What goes back when it cannot be done', 10, 11 and 16.
use Rattle.std.specs.Prelude.{◌≡◌, ℕ, ◌+◌, ◌-◌, ◌*◌, ◌%◌, ◌^◌, ◌≤◌, Bool, true, false, cond, not, ◌&&◌, T, List, [], ◌++◌, length, take, nat_lt, refl, Option, is_some, unwrap_or}
use Rattle.std.proofs.Math.Path.{sym}
use Rattle.std.proofs.Common.{ap, ap₂, ◌∙◌, subst, arith, pow_pos, length-take-le, take_all, le_refl}
use Rattle.std.specs.Bool.{then_some}
use borrow.Author.Tests.{lt-ltb, not-true, not-false}
use Rattle.octets.specs.Overwrite.{overwrite}
use Rattle.octets.specs.OverwriteLaws as octets-laws
use Rattle.boxes.specs.Boxed.{boxed}
use Rattle.bits.specs.Bit.{bits_n, length-bits_n}
use Rattle.bits.specs.State.{bytes_of}
use Rattle.bits.specs.Format.{field, view, length-bytes_of, and_split}
use Rattle.bit_writer.specs.Writer.{feed, place, waiting, fits, Puts}
use Rattle.bit_writer.specs.WriterLaws.{fed_then, fed_as, feed-bytes, feed_count}
use Rattle.bit_writer.specs.declared.BitWriter.{BitWriter}
use Rattle.mini.specs.HeaderLength.{near_header}
use Rattle.mini.specs.Payload.{header_bits, chunks_start, header-bytes, header_padded}
use Rattle.mini.specs.Read.{bits_to_boundary}
use Rattle.mini.specs.Same.{well_placed}
use Rattle.mini.specs.Syntax.{header, trailing_bits}
use Rattle.mini.specs.Write.{header_of, payload_of, writable, not_empty}
use Rattle.mini.specs.declared.Header.{Header}
use Rattle.mini.specs.declared.MinimizedImage.{MinimizedImage}
use Rattle.refusals.specs.Outcome.{Written}

-- the box: type 'mini', and the payload
unfoldable pub box_of : MinimizedImage → List ℕ → List ℕ
box_of i s = boxed 0x6D696E69 (payload_of i s)

-- a refusal leaves the output as it was
abbrev pub refused : ℕ → ℕ → List ℕ → Written × List ℕ
refused number value o = (record { refusal = number; value = value }, o)

-- 16 with the length needed, or the box
unfoldable pub written : MinimizedImage → List ℕ → List ℕ → Written × List ℕ
written i s o =
    let n = length (box_of i s) in
    cond (nat_lt (length o) n) (refused 16 n o) (record { refusal = 0; value = n }, overwrite o 0 (box_of i s))

-- the answer, and what the output holds
unfoldable pub answer : MinimizedImage → List ℕ → List ℕ → Written × List ℕ
answer i s o = cond (well_placed i s) (cond (writable i) (written i s o) (refused 11 0 o)) (refused 10 0 o)

-- ---- a header's bytes, and whether its format takes it
pub record HeaderHeld (h : Header) (bytes : List ℕ) (len : ℕ) : Type 0 where
  pub end : len ≡ chunks_start h
  pub small : len ≤ 251
  pub there : take len bytes ≡ bytes_of (chunks_start h) (header_bits h)

pub record HeaderIn (h : Header) (bytes : List ℕ) (len : ℕ) (all_fit : Bool) : Type 0 where
  pub ok : all_fit ≡ header.good h
  pub held : header.Good h → HeaderHeld h bytes len

header_held : (h : Header) (z o₁ o₂ : List ℕ) (w w₁ w₂ : BitWriter) → length z ≡ 256 → place w ≡ 0 → waiting w ≡ []
    → Puts header z w h o₁ w₁ → Puts (field ((8 - w₁.at.1 % 8) % 8)) o₁ w₁ 0 o₂ w₂ → header.Good h → HeaderHeld h o₂ (place w₂)
unfolding header_bits trailing_bits bits_to_boundary view waiting overwrite
header_held h z o₁ o₂ w w₁ w₂ lz e f p q good =
    let l = header.print h in
    let m = (8 - w₁.at.1 % 8) % 8 in
    let bound : length l ≤ 2007 = near_header.long h good in
    let start = chunks_start h in
    let small : start ≤ 251 = omega (arith, header_padded h) in
    let c : feed z 0 l ≡ (o₁, (place w₁, waiting w₁)) =
    ap₂ (λ (k : ℕ) (x : List Bool). feed z k (x ++ l)) (sym e) (sym f) ∙ p.fed.eq in
    let n : 8 * place w₁ + length (waiting w₁) ≡ length l =
    ap (λ (x : List ℕ × (ℕ × List Bool)). 8 * x.1.0 + length x.1.1) (sym c) ∙ feed_count (length l) l z 0 (omega arith) (omega arith) ∙ omega arith in
    let r : m ≡ (8 - length l % 8) % 8 = omega (arith, n, length-bits_n (w₁.at.1 % 8) w₁.bits) in
    let all : l ++ bits_n m 0 ≡ header_bits h = ap (λ (k : ℕ). l ++ bits_n k 0) r in
    let d : feed z 0 (header_bits h) ≡ (o₂, (place w₂, waiting w₂)) =
    ap₂ (λ (k : ℕ) (x : List Bool). feed z k (x ++ header_bits h)) (sym e) (sym f) ∙ (fed_as all (fed_then p.fed q.fed)).eq in
    let b = bytes_of start (header_bits h) in
    let u : ◌≡◌ {A = List ℕ × (ℕ × List Bool)} (o₂, (place w₂, waiting w₂)) (overwrite z 0 b, (start, [])) =
    sym d ∙ feed-bytes start 0 (header_bits h) z (header-bytes h) (omega arith) ∙ ap (λ (k : ℕ). (overwrite z 0 b, (k, []))) (omega arith) in
    let lb : length b ≡ start = length-bytes_of start (header_bits h) in
    let en : place w₂ ≡ start = ap (λ (x : List ℕ × (ℕ × List Bool)). x.1.0) u in
    record {
      end = en;
      small = omega (arith, en);
      there =
          ap₂ (λ (k : ℕ) (x : List ℕ). take k x) (en ∙ sym lb) (ap (λ (x : List ℕ × (ℕ × List Bool)). x.0) u)
          ∙ octets-laws.written z 0 b (omega (arith, lb));
    }

and-true : (t : Bool) → t ≡ (t && true)
and-true true = refl
and-true false = refl

pub header_in : {h' : Header} (h : Header) (z : List ℕ) {o₁ o₂ : List ℕ} {w w₁ w₂ : BitWriter} → h' ≡ h → length z ≡ 256
    → (place w ≡ 0) × (waiting w ≡ []) × (fits w ≡ true)
    → Puts header z w h' o₁ w₁ → Puts (field ((8 - w₁.at.1 % 8) % 8)) o₁ w₁ 0 o₂ w₂ → HeaderIn h o₂ (place w₂) (fits w₂)
header_in {h'} h z {o₁} {o₂} {w} {w₁} {w₂} eh lz e p' q =
    let p = subst (λ (x : Header). Puts header z w x o₁ w₁) eh p' in
    let m = (8 - w₁.at.1 % 8) % 8 in
    record {
      ok =
          q.ok
          ∙ ap₂ (λ (s t : Bool). s && t) (p.ok ∙ ap (λ (s : Bool). s && header.good h) e.2) (lt-ltb 0 (2 ^ m) (pow_pos m))
          ∙ sym (and-true (header.good h));
      held = λ g. header_held h z o₁ o₂ w w₁ w₂ lz e.0 e.1 p q g;
    }

-- ---- a record's header, and whether a payload holds the record
pub record HeaderOf (i : MinimizedImage) (bytes : List ℕ) (len : ℕ) (t : Bool) : Type 0 where
  pub ok : t ≡ writable i
  pub held : T (writable i) → HeaderHeld (header_of i) bytes len

pub header_of_lem : (i : MinimizedImage) {bytes : List ℕ} {len : ℕ} {all_fit a g full t : Bool} → HeaderIn (header_of i) bytes len all_fit
    → a ≡ not_empty i.alpha_codec_config → g ≡ not_empty i.gain_map.codec_config → full ≡ (a && g) → t ≡ (all_fit && full)
    → HeaderOf i bytes len t
unfolding writable
header_of_lem i h ea eg ef et =
    record {
      ok = et ∙ ap₂ (λ (x y : Bool). x && y) h.ok (ef ∙ ap₂ (λ (x y : Bool). x && y) ea eg);
      held = λ w. h.held ((header.dec (header_of i)).0 (and_split (header.good (header_of i)) _ w).0);
    }

-- the length, told only where one does
pub header_told : (i : MinimizedImage) {bytes : List ℕ} {len : ℕ} (t : Bool) {r : Option ℕ} → HeaderOf i bytes len t → r ≡ then_some t len
    → HeaderOf i bytes (unwrap_or r 0) (is_some r)
header_told i {bytes} {len} true h e = subst (λ (r : Option ℕ). HeaderOf i bytes (unwrap_or r 0) (is_some r)) (sym e) h
header_told i {bytes} false h e =
    subst (λ (r : Option ℕ). HeaderOf i bytes (unwrap_or r 0) (is_some r)) (sym e) (record { ok = h.ok; held = λ w. absurd (subst T (sym h.ok) w) })

-- the header as a part of the buffer
pub header_part : {h : Header} {bytes : List ℕ} {len : ℕ} → HeaderHeld h bytes len → length bytes ≡ 256 → HeaderHeld h (take len bytes) (length (take len bytes))
header_part {bytes = bytes} {len} x w =
    let e : length (take len bytes) ≡ len = length-take-le len bytes (omega (arith, x.small)) in
    record { end = e ∙ x.end; small = omega (arith, e, x.small); there = take_all _ (take len bytes) (le_refl _) ∙ x.there }

-- ---- the ways through the answer, by what the code tests: that the record is not well placed, that it is not writable
module _ (i : MinimizedImage) (s o : List ℕ) {p : Bool} (placed : p ≡ well_placed i s) where
  pub at_10 : not p ≡ true → refused 10 0 o ≡ answer i s o
  unfolding answer
  at_10 e = sym (ap (λ (t : Bool). cond t (cond (writable i) (written i s o) (refused 11 0 o)) (refused 10 0 o)) (sym placed ∙ not-true p e))

  pub at_11 : {w : Bool} → not p ≡ false → w ≡ writable i → not w ≡ true → refused 11 0 o ≡ answer i s o
  unfolding answer
  at_11 {w} e f g =
      sym (ap₂ (λ (t u : Bool). cond t (cond u (written i s o) (refused 11 0 o)) (refused 10 0 o)) (sym placed ∙ not-false p e) (sym f ∙ not-true w g))

  pub past_11 : {w : Bool} → not p ≡ false → w ≡ writable i → not w ≡ false → written i s o ≡ answer i s o
  unfolding answer
  past_11 {w} e f g =
      sym (ap₂ (λ (t u : Bool). cond t (cond u (written i s o) (refused 11 0 o)) (refused 10 0 o)) (sym placed ∙ not-false p e) (sym f ∙ not-false w g))

pub taken_on : (i : MinimizedImage) {w : Bool} → w ≡ writable i → not w ≡ false → T (writable i)
taken_on i {w} f g = subst T (sym (not-false w g) ∙ f) tt
