use Rattle.std.proofs.Common.{◌≡◌}
use Rattle.ftyp.specs.FileType.{has_brand}
use Rattle.ftyp.proofs.has_brand.Given as goal

-- the brands that are left decide
abbrev pub invariant-loop-code : goal.invariant-loop-code
invariant-loop-code l = (l.code-iterator.size ≡ 4) × (has_brand l.code-iterator.rest.now l.b ≡ has_brand l.brands l.b)
