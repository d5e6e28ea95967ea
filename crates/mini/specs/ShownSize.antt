-- The size of the picture as shown (document 02, point 2): under the orientations 5 to 8, which turn it by a quarter, the stored width is
-- the height, and the stored height the width.
use Rattle.std.specs.Prelude.{◌≡◌, Bool, true, false, cond, ◌&&◌, ℕ, ◌≤◌, ◌<◌, leb}
use Rattle.std.proofs.Common.{arith, le-leb}
use Rattle.std.proofs.lemmas.Bool.{lt-leb}
use Rattle.mini.specs.declared.MinimizedImage.{MinimizedImage}
use Rattle.mini.specs.declared.Size.{Size}

abbrev pub exchanges_size : ℕ → Bool
exchanges_size orientation = leb 5 orientation && leb orientation 8

abbrev pub shown_size : MinimizedImage → Size
shown_size i =
    cond (exchanges_size i.orientation)
    (record { width = i.height; height = i.width })
    (record { width = i.width; height = i.height })

-- ---- which orientations exchange
pub exchanged : (orientation : ℕ) → 5 ≤ orientation → orientation ≤ 8 → exchanges_size orientation ≡ true
exchanged orientation l h = rw (le-leb 5 orientation l, le-leb orientation 8 h)

pub kept_below : (orientation : ℕ) → orientation < 5 → exchanges_size orientation ≡ false
kept_below orientation h = rw (lt-leb 5 orientation h)

pub kept_above : (orientation : ℕ) → 8 < orientation → exchanges_size orientation ≡ false
kept_above orientation h = rw (le-leb 5 orientation (omega arith), lt-leb orientation 8 h)
