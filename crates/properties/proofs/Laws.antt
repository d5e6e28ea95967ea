-- Laws that several proofs cite.
use Rattle.std.proofs.Common.{length-append, length-take-le}
use Rattle.std.proofs.lemmas.List.{length-map, get_or_default}
use Rattle.octets.specs.OverwriteLaws.{overwrite_cons, overwrite-append}

-- the writes of a list of runs
pub ruleset list_writes = (overwrite_cons, overwrite-append, length-append, length-map)

-- the first items of a list
pub ruleset taken = (length-take-le)

-- a row of a table
pub ruleset row = (get_or_default)
