-- After j turns the first j bytes of `src` are written.
use Rattle.std.proofs.Common.{List, add-one, arith, get_or, length, length-set, length-take-le, refl, rules, set, sym, take, take-suc, ℕ, ◌+◌, ◌<◌, ◌∙◌, ◌≡◌, ◌≤◌}
use lib.Seq.{take-length}
use Rattle.octets.specs.OverwriteLaws.{overwrite-append}
use Rattle.octets.specs.Overwrite.{overwrite}
use Rattle.octets.proofs.copy_in.Goals as goal

-- a turn's store
one_more : (out : List ℕ) (at : ℕ) (src : List ℕ) (j : ℕ) → j < length src
    → set (overwrite out at (take j src)) (at + j) (get_or src j 0) ≡ overwrite out at (take (j + 1) src)
unfolding overwrite
one_more out at src j h =
    let k : j ≤ length src = omega arith in
    sym (rw (add-one, take-suc src j 0, overwrite-append, length-take-le))

pub loop-j-init : goal.loop-j-init
unfolding overwrite
loop-j-init c = (refl, refl)

pub loop-j-preserved : goal.loop-j-preserved
loop-j-preserved c =
    (simp length-set (search rules), rw c.loop-j.invariant.1 (one_more _ _ _ c.loop-j.j (omega arith)))

pub returns : goal.returns
returns c =
    let all : c.loop-j.j ≡ length c.args.src.now = omega arith in
    record { next = omega arith; size = refl; left = c.loop-j.invariant.1 ∙ rw (all, take-length) }
