-- `exports::bustardcase_rewrite` meets its contract. Assumes nothing.
use Rattle.std.proofs.Common.{arith}
use Rattle.rewriter.specs.Rewritten.{rewritten}
use Rattle.writer.specs.ToBox.{written}
use Rattle.exports.specs.AnswerLaws.{answers}
use Rattle.exports.proofs.bustardcase_rewrite.Goals as goal

pub returns : goal.returns
unfolding rewritten written
returns c = answers _ _ _ c.args.out.now c.rewrite.ensures.answer (omega (arith, c.of_written.ensures))
