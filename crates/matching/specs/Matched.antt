-- Bytes that stand at a place of a file, and after them the next.
use Rattle.std.specs.Prelude.{◌&&◌, cond, List, ℕ, ◌+◌, leb, nat_eq, length, drop, Option, Some, None}
use Rattle.std.specs.List.{starts_with}

-- the place after the bytes, where they stand in f at the place given; none where others stand, or where others stood before
unfoldable pub matched : List ℕ → Option ℕ → List ℕ → Option ℕ
matched f None bytes = None
matched f (Some at) bytes = cond (leb at (length f) && starts_with nat_eq (drop at f) bytes) (Some (at + length bytes)) None
