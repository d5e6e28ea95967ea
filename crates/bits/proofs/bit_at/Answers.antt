use Rattle.std.proofs.Common.{ap, arith, eqb, ℕ, ◌*◌, ◌+◌}
use Rattle.bits.specs.Window.{bit_part}
use Rattle.bits.proofs.bit_at.Goals as goal

pub returns : goal.returns
returns c =
    let a = c.args in
    ap (λ (v : ℕ). eqb v 1)
    (bit_part a.«data».now c.byte.result c.bit.result (a.at.0 * 8 + a.at.1) (omega arith) (omega arith) c.requires)
