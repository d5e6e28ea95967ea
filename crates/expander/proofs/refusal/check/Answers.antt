use Rattle.std.proofs.Common.{rules}
use Rattle.expander.specs.Placed.{fit_of}
use Rattle.expander.proofs.refusal.check.Goals as goal

pub returns-clause-fit : goal.returns-clause-fit
returns-clause-fit c = fit_of c.args.image c.args.source.now (search rules) (search rules)
