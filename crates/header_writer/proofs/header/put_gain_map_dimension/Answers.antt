use Rattle.bit_writer.specs.WriterLaws.{puts_on, puts_none}
use Rattle.mini.specs.Syntax.{gain_map_dimension}
use Rattle.header_writer.proofs.header.put_gain_map_dimension.Goals as goal

pub returns-in-true-true : goal.returns-in-true-true
unfolding gain_map_dimension
returns-in-true-true c = puts_on _ _ _ c.in-true-true.is-0 (puts_on _ _ _ c.in-true-true.is-1 (puts_none _ _ _ _ _ c.test.ensures))
