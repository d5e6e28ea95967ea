-- Reading refuses with 5 to 9 and no other number: document 01, 'What goes back when it cannot be done'.
use Rattle.std.specs.Prelude.{◌≡◌, Bool, true, false, ◌||◌, List, ℕ, ◌≤◌, ◌/◌, T, eqb, leb, length}
use Rattle.std.proofs.Common.{arith, eqb→eq, leb→le}
use Rattle.bits.specs.State.{State, is_reading_refusal, is_reading_state, clean}
use Rattle.bits.specs.Format.{and_split, test_told}
use Rattle.mini.specs.Chunks.{stored_sizes, end_within}
use Rattle.mini.specs.Image.{image_of}
use Rattle.mini.specs.Read.{bits_to_boundary, past_trailing_bits, test_chunks, reading_if, read_chunks, read_mini}
use Rattle.mini.specs.Syntax.{header, trailing_bits}
use Rattle.mini.specs.declared.MinimizedImage.{MinimizedImage}

-- before the chunks
pub header_told : (s : List ℕ) → T (is_reading_state (past_trailing_bits s (header.parse s (clean 0)).1))
unfolding past_trailing_bits
header_told s =
    let b = (header.parse s (clean 0)).1 in
    (trailing_bits (bits_to_boundary b.at)).told s b (header.told s (clean 0) tt)

at_most_nine : (r : ℕ) → T (eqb r 0 || is_reading_refusal r) → r ≤ 9
at_most_nine r h = go (eqb r 0) (is_reading_refusal r) (λ t. eqb→eq r 0 t) (λ t. leb→le r 9 (and_split (leb 5 r) (leb r 9) t).1) h
  where
    go : (t u : Bool) → (T t → r ≡ 0) → (T u → r ≤ 9) → T (t || u) → r ≤ 9
    go true u p q h = let e = p tt in omega arith
    go false true p q h = q tt
    go false false p q h = absurd h

pub header_at_most_nine : (s : List ℕ) → (past_trailing_bits s (header.parse s (clean 0)).1).refusal ≤ 9
header_at_most_nine s = at_most_nine (past_trailing_bits s (header.parse s (clean 0)).1).refusal (header_told s)

same_number : (t : Bool) (b : State) (i : MinimizedImage) → T (is_reading_state b)
    → T (eqb (reading_if t b i).refusal 0 || is_reading_refusal (reading_if t b i).refusal)
same_number true b i h = tt
same_number false b i h = h

pub reading_refusals : (s : List ℕ) → T (eqb (read_mini s).refusal 0 || is_reading_refusal (read_mini s).refusal)
unfolding read_mini read_chunks test_chunks
reading_refusals s =
    let r = header.parse s (clean 0) in
    let b = past_trailing_bits s r.1 in
    let at = b.at / 8 in
    let zs = stored_sizes r.0.sizes in
    same_number (eqb (test_chunks s r.0.sizes b).refusal 0) (test_chunks s r.0.sizes b) (image_of r.0 at)
    (test_told 9 tt _ b (end_within (length s) at zs) (header_told s))

pub reading_at_most_nine : (s : List ℕ) → (read_mini s).refusal ≤ 9
reading_at_most_nine s = at_most_nine (read_mini s).refusal (reading_refusals s)
