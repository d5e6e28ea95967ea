-- What a field that a flag calls for can hold, and what it holds where the flag does not. Assumes nothing.
use Rattle.std.specs.Prelude.{◌≡◌, Bool, false, ◌||◌, ℕ}
use Rattle.std.proofs.Math.Path.{refl}
use Rattle.std.proofs.Common.{sym, subst, true≢false, lit≤}
use Rattle.std.proofs.Math.Bool.{true}
use Rattle.bits.specs.Format.{◌>>=◌, flag, field_if, minus1_if, flag_if, minus1, sized, view}
use Rattle.mini.specs.Syntax.{gain_map_dimension}

-- ---- tests
pub or_none : (a b : Bool) → (a || b) ≡ false → (a ≡ false) × (b ≡ false)
or_none true b e = absurd (true≢false e)
or_none false b e = (refl, e)

pub flag_good : (b : Bool) → flag.Good b
unfolding view
flag_good true = (lit≤ tt, refl)
flag_good false = (lit≤ tt, refl)

pub flag_if_good : (t b : Bool) → (t ≡ false → b ≡ false) → (flag_if t).Good b
flag_if_good true b h = flag_good b
flag_if_good false b h = h refl

-- ---- a gain map's dimension is one that a field could hold, whether it is stored or not
pub gain_more : (has same large : Bool) (main v : ℕ) → (gain_map_dimension has same large main).Good v → (minus1 (sized large 15 7)).Good main
    → (minus1_if has (sized large 15 7)).Good v
unfolding gain_map_dimension ◌>>=◌ view
gain_more true true large main v g m = subst (λ (k : ℕ). (minus1 (sized large 15 7)).Good k) (sym g) m
gain_more true false large main v g m = g
gain_more false same large main v g m = g

pub field_if-off : (t : Bool) (n v : ℕ) → (field_if t n).Good v → t ≡ false → v ≡ 0
field_if-off true n v g e = absurd (true≢false e)
field_if-off false n v g e = g

pub flag_if-off : (t b : Bool) → (flag_if t).Good b → t ≡ false → b ≡ false
flag_if-off true b g e = absurd (true≢false e)
flag_if-off false b g e = g
