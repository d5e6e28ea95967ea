-- `writer::to_box` meets its contract. Assumes nothing.
use Rattle.std.proofs.Common.{ap, arith, length, not, refl, rules, subst, T, ◌∙◌, ◌≡◌}
use Rattle.writer.specs.ToBox.{at_10, at_11, past_11, header_part}
use Rattle.writer.proofs.to_box.Goals as goal

pub returns-then-not-well_placed : goal.returns-then-not-well_placed
returns-then-not-well_placed c = at_10 _ c.args.source.now c.args.out.now c.well_placed.ensures (ap not c.if-not-well_placed.true)

pub returns-in_default : goal.returns-in_default
returns-in_default c =
    let h = rw c.in_default.is at c.put_header_bytes.ensures in
    at_11 _ c.args.source.now c.args.out.now c.well_placed.ensures (ap not c.if-not-well_placed.false) h.ok refl

pub slice_bounds-header-end : goal.slice_bounds-header-end
slice_bounds-header-end c =
    let h = c.in-Some.ensures in
    let l : length c.put_header_bytes.new.out ≡ 256 = search rules in
    omega (arith, l, (h.held (subst T h.ok tt)).small)

pub write_box-requires : goal.write_box-requires
write_box-requires c =
    let h = c.in-Some.ensures in
    let w = subst T h.ok tt in
    record { writable = w; held = header_part (h.held w) (search rules) }

pub returns : goal.returns
returns c =
    c.write_box.ensures
    ∙ past_11 _ c.args.source.now c.args.out.now c.well_placed.ensures (ap not c.if-not-well_placed.false) c.in-Some.ensures.ok refl
