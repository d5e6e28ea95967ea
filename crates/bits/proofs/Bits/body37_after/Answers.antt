use Rattle.std.proofs.Common.{List, ap, arith, sym, ℕ, ◌+◌, ◌-◌, ◌≡◌}
use Rattle.bits.specs.State.{State}
use Rattle.bits.specs.Run.{state}
use Rattle.bits.specs.Window.{take-zeros, zeros-length, body_put, length_read}
use Rattle.bits.proofs.Bits.body37_after.Goals as goal

pub fill-next-requires-clause-zeros : goal.fill-next-requires-clause-zeros
fill-next-requires-clause-zeros c = take-zeros (c.args.k + 1 - 1) 36

pub returns : goal.returns
returns c =
    let a = c.args in
    let s = a.«data».now in
    let h : a.k + 1 - 1 ≡ a.k = omega arith in
    let e = (rw (zeros-length a.k _ 36 h c.requires) at c.fill-next.ensures).eq in record {
      value = body_put a.k _ 36 a.first h (ap (λ (x : List ℕ × State). x.0) (sym e)) (length_read s (state a.self) a.k);
      next = ap (λ (x : List ℕ × State). x.1) (sym e);
    }
