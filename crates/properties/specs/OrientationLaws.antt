-- Laws of rotation and mirror by orientation.
use Rattle.std.specs.Prelude.{◌≡◌, refl, Bool, false, ℕ, zero, suc, ◌%◌, eqb, Option, None, Some}
use Rattle.std.proofs.Math.Numerals.{unary_clauses}
use Rattle.std.proofs.Common.{arith}
use Rattle.mini.specs.ShownSize.{exchanges_size, kept_above}
use Rattle.properties.specs.Orientation.{turn_table, turns_of}

-- a rotation by one quarter or three
abbrev pub is_sideways : Option ℕ → Bool
is_sideways None = false
is_sideways (Some quarters) = eqb (quarters % 2) 1

-- width and height change places exactly where 'irot' turns by one quarter or three: the size as shown is the one that a file's properties
-- give; for every number
pub exchanged_by_irot : (orientation : ℕ) → exchanges_size orientation ≡ is_sideways (turns_of orientation).angle
unfolding turns_of turn_table
exchanged_by_irot zero = refl
exchanged_by_irot (suc zero) = refl
exchanged_by_irot (suc (suc zero)) = refl
exchanged_by_irot (suc (suc (suc zero))) = refl
exchanged_by_irot (suc (suc (suc (suc zero)))) = refl
exchanged_by_irot (suc (suc (suc (suc (suc zero))))) = refl
exchanged_by_irot (suc (suc (suc (suc (suc (suc zero)))))) = refl
exchanged_by_irot (suc (suc (suc (suc (suc (suc (suc zero))))))) = refl
exchanged_by_irot (suc (suc (suc (suc (suc (suc (suc (suc zero)))))))) = refl
exchanged_by_irot (suc (suc (suc (suc (suc (suc (suc (suc (suc n))))))))) =
    simp (unary_clauses, kept_above (suc (suc (suc (suc (suc (suc (suc (suc (suc n))))))))) (omega arith))
