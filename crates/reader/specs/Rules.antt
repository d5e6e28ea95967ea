-- What reading answers once the header is read: the refusal met there, 9 where a chunk ends past the payload, or the record (mini's Read). Assumes
-- nothing.
use Rattle.std.specs.Prelude.{◌≡◌, Bool, List, ℕ, ◌+◌, ◌*◌, ◌/◌, ◌≤◌, T, eqb, length, Err}
use Rattle.std.proofs.Math.Path.{sym, ap, ap₂}
use Rattle.std.proofs.Common.{◌∙◌, subst, eq-eqb, ne_eqb}
use Rattle.std.proofs.Math.Bool.{true, false}
use Rattle.std.proofs.Math.Dec.{leb}
use Rattle.bits.specs.Run.{Run}
use Rattle.bits.specs.State.{State, clean, is_reading_state, refuse_if}
use Rattle.mini.specs.Blank.{blank_image}
use Rattle.mini.specs.Chunks.{stored_sizes, end_within, first_past}
use Rattle.mini.specs.Cut.{sum, end_within-sum}
use Rattle.mini.specs.Image.{image_of}
use Rattle.bits.specs.ReadError.{number, number_not_zero}
use Rattle.mini.specs.HeaderLength.{header_end}
use Rattle.mini.specs.Read.{past_trailing_bits, test_chunks, reading_if, read_chunks, reading_of, Reading}
use Rattle.mini.specs.RefusedBit.{at_chunks}
use Rattle.mini.specs.Refusals.{header_told}
use Rattle.mini.specs.Syntax.{header}
use Rattle.bits.specs.declared.ReadError.{ReadError}
use Rattle.mini.specs.declared.Header.{Header}

module _ (s : List ℕ) (h : Header) (b : State) where
  abbrev ends : Bool
  ends = end_within (length s) (b.at / 8) (stored_sizes h.sizes)

  abbrev past : ℕ
  past = 8 * first_past (length s) (b.at / 8) (stored_sizes h.sizes)

  -- by whether no refusal was met before, and whether the chunks end within the payload
  abbrev answered : Bool → Bool → Reading
  answered t u = let e = refuse_if t u past b 9 in reading_if (eqb e.refusal 0) e (image_of h (b.at / 8))

  pub chunks_stuck : (b.refusal ≡ 0 → ⊥) → record { refusal = b.refusal; bit = b.at; image = blank_image } ≡ read_chunks s h b
  unfolding read_chunks test_chunks
  chunks_stuck e =
      sym
      (ap (λ (t : Bool). answered t ends) (ne_eqb b.refusal 0 e)
      ∙ ap (λ (t : Bool). reading_if t b (image_of h (b.at / 8))) (ne_eqb b.refusal 0 e))

  chunks_go : (u : Bool) → b.refusal ≡ 0 → ends ≡ u → read_chunks s h b ≡ answered true u
  unfolding read_chunks test_chunks
  chunks_go u e f = ap₂ answered (eq-eqb b.refusal 0 e) f

  -- the chunks end within the payload exactly where all of them together do
  ends_as : (at : ℕ) (t : Bool) → b.at / 8 ≡ at → leb (at + sum (stored_sizes h.sizes)) (length s) ≡ t → ends ≡ t
  unfolding stored_sizes
  ends_as at t p f = end_within-sum _ (length s) (b.at / 8) _ ∙ ap (λ (k : ℕ). leb (k + sum (stored_sizes h.sizes)) (length s)) p ∙ f

  pub chunks_there : (at : ℕ) → b.refusal ≡ 0 → b.at / 8 ≡ at → leb (at + sum (stored_sizes h.sizes)) (length s) ≡ true
      → record { refusal = 0; bit = 0; image = image_of h at } ≡ read_chunks s h b
  chunks_there at e p f =
      sym
      (chunks_go true e (ends_as at true p f)
      ∙ ap (λ (t : Bool). reading_if t b (image_of h (b.at / 8))) (eq-eqb b.refusal 0 e)
      ∙ ap (λ (k : ℕ). record { refusal = 0; bit = 0; image = image_of h k }) p)

  pub chunks_short : (at : ℕ) → b.refusal ≡ 0 → b.at / 8 ≡ at → leb (at + sum (stored_sizes h.sizes)) (length s) ≡ false
      → record { refusal = 9; bit = 8 * first_past (length s) at (stored_sizes h.sizes); image = blank_image } ≡ read_chunks s h b
  chunks_short at e p f =
      sym
      (chunks_go false e (ends_as at false p f)
      ∙ ap (λ (k : ℕ). record { refusal = 9; bit = 8 * first_past (length s) k (stored_sizes h.sizes); image = blank_image }) p)

-- what a state before the chunks says, where it has met a refusal, and where it has none
module _ (s : List ℕ) (h : Header) (b : State) where
  pub stuck_there : (e : ReadError) → b.refusal ≡ number e → e.bit ≡ b.at → reading_of (Err e) ≡ read_chunks s h b
  stuck_there e f g =
      ap₂ (λ (n p : ℕ). record { refusal = n; bit = p; image = blank_image }) (sym f) g ∙ chunks_stuck s h b (λ z. number_not_zero e (sym f ∙ z))

  pub clean_there : {at : ℕ} {r : Reading} → b.refusal ≡ 0 → at ≡ b.at → r ≡ read_chunks s h (clean at) → r ≡ read_chunks s h b
  clean_there z a e = e ∙ ap₂ (λ (at n : ℕ). read_chunks s h (record { at = at; refusal = n })) a (sym z)

-- the state that the code holds past a header and its trailing bits is the one before the chunks: it has met one of reading's refusals or none, at
-- bit 2,014 at most
module _ (s : List ℕ) {h : Header} {b e : State} (r : Run header s (clean 0) h b) (f : e ≡ past_trailing_bits s b) where
  pub before_chunks : at_chunks s ≡ e
  before_chunks = ap (λ (x : Header × State). past_trailing_bits s x.1) r.eq ∙ sym f

  pub before_told : T (is_reading_state e)
  before_told = subst (λ (x : State). T (is_reading_state x)) before_chunks (header_told s)

  pub before_near : e.at ≤ 2014
  before_near = subst (λ (x : State). x.at ≤ 2014) before_chunks (header_end s)
