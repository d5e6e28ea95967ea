-- Laws of the lists of item numbers.
use Rattle.std.proofs.Common.{◌≡◌, ℕ, ◌+◌, ◌<◌, List, ◌++◌, length, take, get_or, append-nil, length-append}
use Rattle.std.proofs.lemmas.List.{length-map}
use Rattle.std.proofs.lemmas.Simd.{map-map}
use Rattle.octets.specs.BigEndian.{be}
use Rattle.octets.specs.OverwriteLaws.{overwrite-append}
use Rattle.mini.specs.Cut.{joined_more}
use Rattle.mini.specs.declared.ItemKind.{ItemKind}
use Rattle.items.specs.ItemReferences.{item_ids, numbers}

-- one more item
pub ids_more : (to : List ItemKind) (i : ℕ) (d : ItemKind) → i < length to
    → item_ids (numbers (take (i + 1) to)) ≡ item_ids (numbers (take i to)) ++ be 2 (get_or to i d).0
ids_more to i d h = simp map-map (joined_more (λ kind. be 2 kind.0) to i d h)

-- there are as many numbers as items
pub ruleset counted = (length-map)

pub ruleset id_writes = (overwrite-append, length-append, append-nil, ids_more)
