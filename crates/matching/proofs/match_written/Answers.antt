use Rattle.std.proofs.Common.{refl, arith}
use Rattle.matching.proofs.match_written.Goals as goal

-- what the writer was called with and left is what `fits` speaks of
pub shared_whole_as_front-match_bytes : goal.shared_whole_as_front-match_bytes
shared_whole_as_front-match_bytes g c =
    let f = c.requires.fits _ _ (record { shown = _; shows = refl; left = _; met = c.write-n.ensures; leaves = refl }) in
    (f, omega (arith, c.requires.small))
