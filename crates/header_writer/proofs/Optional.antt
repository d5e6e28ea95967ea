-- What is written of a value that may be absent: zeros in place of one that is.
use Rattle.std.specs.Prelude.{◌≡◌, Bool, true, false, not, Option, Some, None}
use Rattle.std.specs.Option.{UnwrapsOrElse}
use Rattle.std.proofs.Common.{sym, ap}

pub or_blank : {A B : Type 0} {blank : A → Type 0} {f : A} (from : Option A → B) → ((x : A) → blank x → from (Some x) ≡ from None)
    → (c : Option A) → UnwrapsOrElse c blank f → from (Some f) ≡ from c
or_blank from h None e = h _ e
or_blank {A} from h (Some x) e = ap (λ (f : A). from (Some f)) e

pub not_of : (a b : Bool) → a ≡ not b → b ≡ not a
not_of a true e = ap not (sym e)
not_of a false e = ap not (sym e)
