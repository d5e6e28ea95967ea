-- From the chunks to the payload: for `parse`, and for `refusal`.
use Rattle.std.proofs.Common.{List, ap, refl, sym, ℕ, ◌∙◌, ◌≡◌}
use Rattle.std.specs.Prelude.{Option, Some, None}
use Rattle.bits.specs.Run.{Run}
use Rattle.bits.specs.State.{State, clean}
use Rattle.bits.specs.declared.ReadError.{ReadError}
use Rattle.mini.specs.Read.{past_trailing_bits, read_chunks, read_mini, Reading}
use Rattle.mini.specs.Syntax.{header}
use Rattle.mini.specs.declared.Header.{Header}
use Rattle.mini.specs.declared.MinimizedImage.{MinimizedImage}
use Rattle.reader.specs.ReadingParts.{reading_with, number_and_bit, without_record}

-- past a header h and its trailing bits, at e, what the chunks give is what the payload gives
pub whole : (s : List ℕ) {h : Header} {b e : State} {a : Reading} → Run header s (clean 0) h b → e ≡ past_trailing_bits s b → a ≡ read_chunks s h e → a ≡ read_mini s
unfolding read_mini
whole s {h} r f g = g ∙ ap (read_chunks s h) f ∙ ap (λ (x : Header × State). read_chunks s x.0 (past_trailing_bits s x.1)) (sym r.eq)

-- the refusal is that of the reading, whatever the record
pub number_and_bit_with : (r : Option ReadError) (i : MinimizedImage) → number_and_bit r ≡ without_record (reading_with r i)
number_and_bit_with None i = refl
number_and_bit_with (Some e) i = refl
