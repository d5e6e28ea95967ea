-- Where the twelve parts of a payload's header end, in bits from the payload's start (docs/ABI.md, `bustardcase_outline`): the places of the
-- states that reading passes through, by the formats of mini's Syntax, which has these parts in this order.
use Rattle.std.specs.Prelude.{◌≡◌, ℕ, List, [], ◌∷◌, ◌++◌, map, refl}
use Rattle.std.proofs.Common.{sym, ap, ◌∙◌}
use Rattle.bits.specs.State.{State, clean}
use Rattle.bits.specs.Format.{Format, flag_if, view, ◌>>=◌}
use Rattle.bits.specs.Run.{state, Run}
use Rattle.bits.specs.declared.Bits.{Bits}
use Rattle.mini.specs.Read.{past_trailing_bits}
use Rattle.mini.specs.Syntax.{flags, dimensions, chroma, sample_format, explicit_cicp, explicit_codec_types, main_format, gain_map_header, hdr_boxes, chunk_sizes, header}

infixr 4 ◌next◌
-- reading part by part: the state after each part, and after the last
abbrev pub Parts : Type 0
Parts = List ℕ → State → List State × State

abbrev pub noted : State → List State × State → List State × State
noted b r = (b ∷ r.0, r.1)

-- a part read by p, the state after it noted; the parts that follow know its value
unfoldable pub ◌next◌ : {A : Type 0} → Format A → (A → Parts) → Parts
(p next k) s b = let r = p.parse s b in noted r.1 (k r.0 s r.1)

abbrev pub done : Parts
done s b = ([], b)

unfoldable pub header_parts : Parts
header_parts =
    flags
    next λ f. dimensions
    next λ d. chroma f.subsampling
    next λ c. sample_format f.float
    next λ o. flag_if f.alpha
    next λ p. explicit_cicp f.explicit_cicp
    next λ i. explicit_codec_types f.explicit_codec_types
    next λ t. gain_map_header f.hdr d
    next λ g. hdr_boxes f.hdr
    next λ h. hdr_boxes g.present
    next λ m. chunk_sizes f g
    next λ z. done

-- and after the trailing bits
unfoldable pub part_states : List ℕ → List State
part_states s =
    let r = header_parts s (clean 0) in
    r.0 ++ (past_trailing_bits s r.1 ∷ [])

abbrev pub place : State → ℕ
place b = b.at

unfoldable pub places : List State → List ℕ
places l = map place l

unfoldable pub part_ends : List ℕ → List ℕ
part_ends s = places (part_states s)

-- ---- the states that the code holds
unfoldable pub states : List Bits → List State
states l = map state l

-- ---- how a function that reads part by part is shown to pass through these states
pub part_read : {A : Type 0} {s : List ℕ} {b c : State} {x : A} (p : Format A) (k : A → Parts) → Run p s b x c
    → (p next k) s b ≡ noted c (k x s c)
unfolding ◌next◌
part_read {A} {s} p k e = ap (λ (r : A × State). noted r.1 (k r.0 s r.1)) e.eq

pub states_of : (s : List ℕ) {l : List State} {b e : State} → header_parts s (clean 0) ≡ (l, b) → e ≡ past_trailing_bits s b → part_states s ≡ l ++ (e ∷ [])
unfolding part_states
states_of s {l} x y =
    ap (λ (r : List State × State). r.0 ++ (past_trailing_bits s r.1 ∷ [])) x ∙ ap (λ (b : State). l ++ (b ∷ [])) (sym y)

-- ---- the parts make up the header
pub whole_header : (s : List ℕ) (b : State) → (header_parts s b).1 ≡ (header.parse s b).1
unfolding header_parts ◌next◌ header main_format ◌>>=◌ view
whole_header s b = refl
