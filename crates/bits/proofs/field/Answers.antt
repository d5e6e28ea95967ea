use Rattle.std.proofs.Common.{ap, arith, pow_mono, pow_pos, sym, ℕ, ◌%◌, ◌*◌, ◌+◌, ◌-◌, ◌/◌, ◌^◌, ◌∙◌, ◌≡◌}
use Rattle.bits.specs.Window.{window_part}
use Rattle.bits.proofs.field.Goals as goal

pub returns : goal.returns
returns c =
    let a = c.args in
    let s = 40 - c.bit-a.result - a.n in
    let h = pow_mono {j = 32} c.requires.width in
    let e : 2 ^ a.n ≡ 1 * 2 ^ a.n % 18446744073709551616 = omega (arith, pow_pos a.n) in
    ap (λ (m : ℕ). c.window-w.result / 2 ^ s % m) (sym e) ∙ ap (λ (w : ℕ). w / 2 ^ s % 2 ^ a.n) c.window-w.ensures.0
    ∙ window_part a.«data».now (λ k. (c.type_inv.data k).fits) c.byte.result c.bit-a.result a.n (a.at.0 * 8 + a.at.1) (omega arith) (omega arith) c.requires.room
