-- `writer::write_box` meets its contract. Assumes nothing.
use Rattle.std.proofs.Common.{ap, arith, length, rules, sym, take_all, ◌∙◌}
use Rattle.octets.specs.OverwriteLaws.{length-overwrite, recast}
use Rattle.writer.specs.Needed.{too_short, boxed-all}
use Rattle.writer.proofs.write_box.Goals as goal

pub returns-then-out-needed : goal.returns-then-out-needed
returns-then-out-needed c = too_short _ c.args.source.now c.args.out.now c.box_len-needed.ensures (omega arith)

pub put_box_header-requires : goal.put_box_header-requires
put_box_header-requires c =
    let a = ap length c.copy_in-at.ensures.left ∙ length-overwrite _ _ _ in
    (omega (arith, c.box_len-needed.ensures.parts, a, c.put_chunks.ensures.kept), omega (arith, c.box_len-needed.ensures.small))

pub returns : goal.returns
returns c =
    boxed-all _ c.args.source.now c.args.out.now _ _ c.box_len-needed.ensures (omega arith) (search rules) c.requires.held (recast c.copy_in-at.ensures (sym (take_all _ _ (omega arith)))) c.put_chunks.ensures c.put_box_header.ensures
