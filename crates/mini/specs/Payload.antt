-- An accepted payload is a printed header, zero bits up to a byte boundary, and room for the chunks; and every such payload is accepted.
-- Assumes nothing.
use Rattle.std.specs.Prelude.{◌≡◌, refl, Bool, true, false, List, ◌++◌, ℕ, ◌+◌, ◌-◌, ◌*◌, ◌/◌, ◌%◌, ◌≤◌, T, eqb, length}
use Rattle.std.proofs.Common.{sym, ap, ◌∙◌, subst, zero-add, arith, pow_pos, length-append, length-take, length-drop, eqb-true}
use Rattle.std.proofs.lemmas.Bool.{eqb-false}
use Rattle.bits.specs.State.{clean, refuse_if, State}
use Rattle.bits.specs.Format.{◌>>=◌, At, at_join, at_left, at_right, test_passed, view}
use Rattle.bits.specs.Bit.{length-bits_n, length-bits_of}
use Rattle.mini.specs.Syntax.{header, trailing_bits}
use Rattle.mini.specs.Blank.{blank_image}
use Rattle.mini.specs.Read.{bits_to_boundary, past_trailing_bits, reading_if, test_chunks, read_chunks, read_mini, Reading}
use Rattle.mini.specs.Chunks.{stored_sizes, end_within}
use Rattle.mini.specs.Image.{image_of}
use Rattle.mini.specs.declared.Header.{Header}
use Rattle.mini.specs.declared.MinimizedImage.{MinimizedImage}

at_room : (s : List ℕ) (l : List Bool) → At s 0 l → length l ≤ 8 * length s
at_room s l e = omega (arith, simp (length-take, length-drop, length-bits_of) at (ap length e))

trailing_good : (n : ℕ) → (trailing_bits n).Good tt
unfolding trailing_bits ◌>>=◌ view
trailing_good n = ((pow_pos n, tt), refl)

-- the header's bits, filled up to a byte boundary
unfoldable pub header_bits : Header → List Bool
header_bits h = header.print h ++ (trailing_bits (bits_to_boundary (length (header.print h)))).print tt

-- the byte at which the chunks begin
unfoldable pub chunks_start : Header → ℕ
chunks_start h = length (header_bits h) / 8

-- the header's bits are whole bytes
length-header : (h : Header) → length (header_bits h) ≡ length (header.print h) + (8 - length (header.print h) % 8) % 8
unfolding header_bits trailing_bits bits_to_boundary ◌>>=◌ view
length-header h = simp (length-append, length-bits_n) (omega arith)

pub header-bytes : (h : Header) → length (header_bits h) ≡ 8 * chunks_start h
unfolding chunks_start
header-bytes h = omega (arith, length-header h)

pub header_padded : (h : Header) → chunks_start h ≡ (length (header.print h) + 7) / 8
unfolding chunks_start
header_padded h = omega (arith, length-header h)

-- the payload s is one that reads to the header h
pub record Reads (s : List ℕ) (h : Header) : Type 0 where
  pub good : header.Good h
  pub room : length (header_bits h) ≤ 8 * length s
  pub same : At s 0 (header_bits h)
  pub fit : T (end_within (length s) (chunks_start h) (stored_sizes h.sizes))

unfoldable pub accepted : Header → Reading
accepted h = record { refusal = 0; bit = 0; image = image_of h (chunks_start h) }

-- ---- what is so printed is accepted
refuse_none : (h : Header) (p q : ℕ) (t : Bool) → T t
    → reading_if (eqb (refuse_if true t q (clean p) 9).refusal 0) (refuse_if true t q (clean p) 9) (image_of h (p / 8))
    ≡ record { refusal = 0; bit = 0; image = image_of h (p / 8) }
refuse_none h p q true g = refl
refuse_none h p q false g = absurd g

chunks_clean : (s : List ℕ) (h : Header) (p : ℕ) → T (end_within (length s) (p / 8) (stored_sizes h.sizes))
    → read_chunks s h (clean p) ≡ record { refusal = 0; bit = 0; image = image_of h (p / 8) }
unfolding read_chunks test_chunks
chunks_clean s h p g = refuse_none h p _ (end_within (length s) (p / 8) (stored_sizes h.sizes)) g

pub reads_back : (s : List ℕ) (h : Header) → Reads s h → read_mini s ≡ accepted h
unfolding header_bits chunks_start accepted read_mini past_trailing_bits
reads_back s h r =
    let l = header.print h in
    let n = bits_to_boundary (length l) in
    let m = (trailing_bits n).print tt in
    let ll : length (l ++ m) ≡ length l + length m = length-append l m in
    let z : 0 + length l ≡ length l = zero-add (length l) in
    let e1 : header.parse s (clean 0) ≡ (h, clean (length l)) =
    header.back s 0 h r.good (omega (arith, r.room)) (at_left s 0 l m r.same)
    ∙ ap (λ (k : ℕ). (h, clean k)) z in
    let e2 : (trailing_bits n).parse s (clean (length l)) ≡ (tt, clean (length l + length m)) =
    (trailing_bits n).back s (length l) tt (trailing_good n) (omega (arith, r.room))
    (subst (λ (k : ℕ). At s k m) z (at_right s 0 l m r.same)) in
    ap (λ (x : Header × State). read_chunks s x.0 (past_trailing_bits s x.1)) e1
    ∙ ap (λ (x : Unit {0} × State). read_chunks s h x.1) e2
    ∙ ap (λ (k : ℕ). read_chunks s h (clean k)) (sym ll)
    ∙ chunks_clean s h (length (l ++ m)) r.fit

-- ---- what is accepted is so printed
refusal_of_lem : (b : State) (t : Bool) (i : MinimizedImage) → eqb b.refusal 0 ≡ t → (reading_if t b i).refusal ≡ 0
    → (b.refusal ≡ 0) × (reading_if t b i ≡ record { refusal = 0; bit = 0; image = i })
refusal_of_lem b true i e z = (eqb-true b.refusal 0 e, refl)
refusal_of_lem b false i e z = absurd (eqb-false b.refusal 0 e z)

-- the header that reading s finds
unfoldable pub found : List ℕ → Header
found s = (header.parse s (clean 0)).0

-- where it and the trailing bits are accepted, they stand at the payload's start, and the chunks begin behind them
pub header-found : (s : List ℕ) → (past_trailing_bits s (header.parse s (clean 0)).1).refusal ≡ 0
    → header.Good (found s)
    × At s 0 (header_bits (found s))
    × ((past_trailing_bits s (header.parse s (clean 0)).1).at ≡ length (header_bits (found s)))
unfolding header_bits found past_trailing_bits
header-found s z =
    let r = header.parse s (clean 0) in
    let g2 = (trailing_bits (bits_to_boundary r.1.at)).inv s r.1 z in
    let g1 = header.inv s (clean 0) g2.was in
    let l = header.print r.0 in
    let m = (trailing_bits (bits_to_boundary (length l))).print tt in
    let z0 : 0 + length l ≡ length l = zero-add (length l) in
    let at : r.1.at ≡ length l = g1.moved ∙ z0 in (
      g1.good,
      at_join s 0 l m g1.same
          (subst (λ (k : ℕ). At s k m) (sym z0) (subst (λ (k : ℕ). At s k ((trailing_bits (bits_to_boundary k)).print tt)) at g2.same)),
      g2.moved ∙ ap (λ (k : ℕ). k + length ((trailing_bits (bits_to_boundary k)).print tt)) at ∙ sym (length-append l m),
    )

pub reads_inv : (s : List ℕ) → (read_mini s).refusal ≡ 0 → Reads s (found s)
unfolding chunks_start found read_mini read_chunks test_chunks
reads_inv s z =
    let r = header.parse s (clean 0) in
    let b = past_trailing_bits s r.1 in
    let zs = stored_sizes r.0.sizes in
    let w = refusal_of_lem (test_chunks s r.0.sizes b) _ _ refl z in
    let t = test_passed 9 tt _ b (end_within (length s) (b.at / 8) zs) w.0 in
    let g = header-found s t.0 in
    record {
      good = g.0;
      room = at_room s (header_bits r.0) g.1;
      same = g.1;
      fit = subst (λ (k : ℕ). T (end_within (length s) (k / 8) zs)) g.2 t.1;
    }

-- the record read is that of the header found
pub reads_image : (s : List ℕ) → (read_mini s).refusal ≡ 0 → read_mini s ≡ accepted (found s)
reads_image s z = reads_back s (found s) (reads_inv s z)

-- ---- a refusal gives the blank record
blank_of : (b : State) (t : Bool) (i : MinimizedImage) → eqb b.refusal 0 ≡ t → ((reading_if t b i).refusal ≡ 0 → ⊥) → (reading_if t b i).image ≡ blank_image
blank_of b true i e h = absurd (h refl)
blank_of b false i e h = refl

pub refused_blank : (s : List ℕ) → ((read_mini s).refusal ≡ 0 → ⊥) → (read_mini s).image ≡ blank_image
unfolding read_mini read_chunks
refused_blank s h =
    let r = header.parse s (clean 0) in
    blank_of (test_chunks s r.0.sizes (past_trailing_bits s r.1)) _ _ refl h
