-- Numbers that are stored less one.
use Rattle.std.specs.Prelude.{◌≡◌, ℕ, ◌+◌, ◌-◌, ltb}
use Rattle.std.proofs.Common.{arith, lt-ltb}
use Rattle.std.proofs.Math.Bool.{or-false}
use Rattle.std.proofs.lemmas.Bool.{ltb_from_iff, ltb-true}

-- such a number passes the short form's limit one later
pub less1 : (k n : ℕ) → ltb k (n - 1) ≡ ltb (k + 1) n
less1 k n = ltb_from_iff ((λ h. omega (arith, ltb-true _ _ h)), (λ h. lt-ltb _ _ (omega (arith, h))))

-- by which `grind` sees which form is taken
pub ruleset long_forms = (less1, or-false)
