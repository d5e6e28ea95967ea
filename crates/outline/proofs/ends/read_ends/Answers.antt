use Rattle.std.proofs.Common.{ap, sym, ◌∙◌}
use Rattle.outline.specs.Ends.{noted, header_parts, states, part_read, states_of}
use Rattle.outline.proofs.ends.read_ends.Goals as goal

pub returns : goal.returns
unfolding header_parts states
returns c =
    let s = c.args.payload.now in
    sym (states_of s
    (ap (header_parts s) (sym c.new.ensures) ∙ part_read _ _ c.read_flags.ensures
    ∙ ap (noted _) (part_read _ _ c.read_dimensions.ensures
    ∙ ap (noted _) (part_read _ _ c.read_chroma.ensures
    ∙ ap (noted _) (part_read _ _ c.read_format.ensures
    ∙ ap (noted _) (part_read _ _ c.flag_if.ensures
    ∙ ap (noted _) (part_read _ _ c.read_cicp.ensures
    ∙ ap (noted _) (part_read _ _ c.read_types.ensures
    ∙ ap (noted _) (part_read _ _ c.read_gain_map_header_if.ensures
    ∙ ap (noted _) (part_read _ _ c.read_hdr_boxes_if.ensures
    ∙ ap (noted _) (part_read _ _ c.read_hdr_boxes_if-2.ensures
    ∙ ap (noted _) (part_read _ _ c.read_sizes.ensures.run)))))))))))
    c.read_trailing_bits-trailing.ensures)
