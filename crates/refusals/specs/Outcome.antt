-- A result of any error type as numbers: what callers outside see of it.
use Rattle.std.specs.Prelude.{ℕ, Result, Ok, Err}

-- the refusal's number, 0 for none, by the number of each
abbrev pub refusal_in : {A E : Type 0} → (number : E → ℕ) → Result A E → ℕ
refusal_in number (Ok x) = 0
refusal_in number (Err e) = number e

-- 0 with the length written, or a refusal's number with its value: the length needed with 16, the bit with 5 to 9 (document 02, point 5), else 0
pub record Written : Type 0 where
  pub refusal : ℕ
  pub value : ℕ

-- a length or a refusal, by the number and the value of each
abbrev pub outcome : {E : Type 0} → (number value : E → ℕ) → Result ℕ E → Written
outcome number value (Ok len) = record { refusal = 0; value = len }
outcome number value (Err e) = record { refusal = number e; value = value e }
