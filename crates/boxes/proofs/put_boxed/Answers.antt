use Rattle.std.proofs.Common.{refl, rules}
use Rattle.boxes.proofs.put_boxed.Goals as goal

-- what the body's writer was called with and left is what `fits` speaks of
pub put_box_header-requires : goal.put_box_header-requires
put_box_header-requires g c =
    let f = c.requires.fits _ _ (record { shown = _; shows = refl; left = _; met = c.body-n.ensures; leaves = refl }) in
    search rules
