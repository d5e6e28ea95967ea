-- The numbers of the items in the equivalent file (document 01, 'The equivalent file'; mini.rs, item_id). An item's number is its kind:
-- the file has at most one of each.
use Rattle.std.specs.Prelude.{ℕ}

abbrev pub MAIN : ℕ
MAIN = 1

abbrev pub ALPHA : ℕ
ALPHA = 2

abbrev pub TMAP : ℕ
TMAP = 3

abbrev pub GAIN_MAP : ℕ
GAIN_MAP = 4

abbrev pub ALTR_GROUP : ℕ
ALTR_GROUP = 5

abbrev pub EXIF : ℕ
EXIF = 6

abbrev pub XMP : ℕ
XMP = 7
