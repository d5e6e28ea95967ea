-- Laws of 'pixi'.
use Rattle.std.specs.Prelude.{◌≡◌, refl, Bool, true, false, cond}
use Rattle.properties.specs.Pixi.{subsampling_location}

-- the sum gives each pair of flags the code that `pixi_box` of mini.rs lists for it
pub siting_cases : (horizontally vertically : Bool) → subsampling_location horizontally vertically ≡ cond horizontally (cond vertically 1 3) (cond vertically 0 2)
siting_cases true true = refl
siting_cases true false = refl
siting_cases false true = refl
siting_cases false false = refl
