-- `find_mini::find_mini` meets its contract. Assumes nothing.
use Rattle.std.proofs.Common.{sym, ◌∙◌}
use Rattle.find_mini.proofs.Finds.{finds_refused, finds_one}
use Rattle.find_mini.proofs.find_mini.Goals as goal

pub returns-then-not-allowed-clause-finds : goal.returns-then-not-allowed-clause-finds
returns-then-not-allowed-clause-finds c =
    let t = c.args.original in
    finds_refused c.args.file.now t.major_brand t.minor_version t.compatible_brands.now (sym c.allowed.ensures ∙ c.if-not-allowed.true)

pub returns-then-expands_to-clause-finds : goal.returns-then-expands_to-clause-finds
returns-then-expands_to-clause-finds c =
    let t = c.args.original in
    finds_one c.args.file.now t.major_brand t.minor_version t.compatible_brands.now (sym c.allowed.ensures ∙ c.if-not-allowed.false)
    c.found_record-image.ensures c.expands_to.ensures c.if-expands_to.true
