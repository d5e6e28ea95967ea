use Rattle.std.proofs.Common.{ap, arith, ℕ, ◌%◌, ◌∙◌, ◌≡◌}
use Rattle.octets.specs.OverwriteLaws.{recast}
use Rattle.octets.specs.BigEndian.{be}
use Rattle.octets.specs.BigEndianLaws.{be-mod}
use Rattle.bits.specs.Run.{state}
use Rattle.outline.proofs.ends.put_place.Goals as goal

be-low : (x y : ℕ) → x ≡ y % 18446744073709551616 → be 8 x ≡ be 8 y
be-low x y e = ap (be 8) e ∙ be-mod 8 y

pub returns : goal.returns
unfolding state
returns c = recast c.put.ensures (be-low _ _ (omega arith))
