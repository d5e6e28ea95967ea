use Rattle.std.proofs.Common.{ap, arith, map, sym, ◌∙◌}
use Rattle.std.proofs.lemmas.Simd.{map-map}
use Rattle.mini.specs.Cut.{joined}
use Rattle.octets.specs.BigEndian.{be}
use Rattle.octets.specs.OverwriteLaws.{nothing, recast}
use Rattle.bits.specs.Run.{state}
use Rattle.outline.specs.Ends.{place, places, states}
use Rattle.outline.specs.OutlineBytes.{place_bytes}
use Rattle.outline.proofs.Rows.{row-more, rows-all}
use Rattle.outline.proofs.ends.put_ends.Goals as goal

pub loop-b-init : goal.loop-b-init
loop-b-init c = nothing _ _

pub put_place-at-requires : goal.put_place-at-requires
put_place-at-requires c = omega (arith, c.loop-b.invariant.next)

pub loop-b-preserved : goal.loop-b-preserved
loop-b-preserved c =
    row-more (λ b. be 8 (place (state b))) c.args.ends.now _ (omega arith) c.loop-b.invariant c.put_place-at.ensures

pub returns : goal.returns
unfolding places states place_bytes
returns c =
    recast (rows-all 8 _ (λ b. be 8 (place (state b))) c.args.ends.now (omega arith) (omega arith) c.loop-b.invariant)
    (ap joined (sym (ap (map (be 8)) (map-map place state c.args.ends.now) ∙ map-map (be 8) (λ b. place (state b)) c.args.ends.now)))
