use Rattle.std.proofs.Common.{arith, refl, sym, ◌∙◌}
use Rattle.std.proofs.lemmas.List.{at_drop_all, at_drop_more}
use Rattle.mini.specs.Chunks.{first_past}
use Rattle.mini.specs.Cut.{sum, past_here, past_later}
use Rattle.reader.proofs.image.first_past.Goals as goal

pub loop-size-init : goal.loop-size-init
loop-size-init c = (refl, refl)

pub overflow_add-at : goal.overflow_add-at
overflow_add-at c =
    let l = c.args.sizes.now in
    let i = c.loop-size.size-index in
    omega (arith, c.loop-size.invariant.1, at_drop_more sum l i 0 (omega arith))

pub returns-then-n-at : goal.returns-then-n-at
returns-then-n-at c =
    let l = c.args.sizes.now in
    let i = c.loop-size.size-index in
    sym (past_here c.args.n c.loop-size.at _ _ c.if-n-at.true)
    ∙ sym (at_drop_more (first_past c.args.n c.loop-size.at) l i 0 (omega arith))
    ∙ c.loop-size.invariant.0

pub loop-size-preserved : goal.loop-size-preserved
loop-size-preserved c =
    let l = c.args.sizes.now in
    let i = c.loop-size.size-index in (
      sym (past_later c.args.n c.loop-size.at _ _ (omega arith))
          ∙ sym (at_drop_more (first_past c.args.n c.loop-size.at) l i 0 (omega arith))
          ∙ c.loop-size.invariant.0,
      omega (arith, c.loop-size.invariant.1, at_drop_more sum l i 0 (omega arith)),
    )

pub returns : goal.returns
unfolding first_past
returns c = sym (at_drop_all (first_past c.args.n c.loop-size.at) c.args.sizes.now c.loop-size.size-index (omega arith)) ∙ c.loop-size.invariant.0
