-- What an exported function returns and what it leaves in its output (docs/ABI.md; demand 1; document 02, point 5): one number, the refusal's
-- number times 2^48 plus a value, which is the length written, or needed, or the bit of a refused payload. A refusal leaves the output as it
-- was. A success alters only the bytes it reports, from the start on.
use Rattle.std.specs.Prelude.{◌≡◌, cond, List, ℕ, ◌+◌, ◌*◌, eqb, ltb, length}
use Rattle.octets.specs.Overwrite.{overwrite}
use Rattle.mini.specs.Read.{read_mini}
use Rattle.expander.specs.Outcome.{refusal_of}

-- 2^48
abbrev pub unit : ℕ
unit = 281474976710656

-- a refusal's number with a value
abbrev pub packed : ℕ → ℕ → ℕ
packed refusal value = refusal * unit + value

-- the number and the output, for a call that refuses with `refusal` at `bit`, or, if the refusal is 0, has `bytes` to hand out: 16 with the
-- needed length where the output is shorter than these
unfoldable pub answer : (refusal bit : ℕ) → List ℕ → List ℕ → ℕ × List ℕ
answer refusal bit bytes out =
    cond (eqb refusal 0)
    (cond (ltb (length out) (length bytes)) (packed 16 (length bytes), out) (length bytes, overwrite out 0 bytes))
    (packed refusal bit, out)

-- an exported function's promise: it returned `r` and left `out'`
pub record Answered (refusal bit : ℕ) (bytes out out' : List ℕ) (r : ℕ) : Type 0 where
  pub is : (r, out') ≡ answer refusal bit bytes out

-- ---- a payload read and then expanded: the reader's refusal, else the expander's. The bit is the reader's, and 0 where the refusal is the
-- expander's
unfoldable pub expand_refusal : (payload brands : List ℕ) → ℕ
expand_refusal payload brands =
    let r = read_mini payload in
    cond (eqb r.refusal 0) (refusal_of r.image payload brands) r.refusal
