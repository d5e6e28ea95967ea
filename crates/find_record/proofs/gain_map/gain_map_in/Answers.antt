use Rattle.std.proofs.lemmas.Bool.{not-false}
use Rattle.carried.specs.ReadFile.{item_bytes_in}
use Rattle.find_record.proofs.FoundParts.{gain_map_parts}
use Rattle.find_record.proofs.gain_map.gain_map_in.Goals as goal

pub returns : goal.returns
returns c =
    let own = c.own_fields_in.ensures (item_bytes_in c.args.file.now) in
    rw
    (gain_map_parts c.args.file.now c.args.held c.requires c.part-ipco.result.now c.part-ipco.ensures.bytes (not-false _ c.if-not-held.false))
    (λ j.
    record (own j) {
      tmap_cicp = c.tone_in.ensures j;
      tmap_icc = c.profile_in.ensures j;
      tmap_hdr = c.hdr_in.ensures j;
      metadata = c.placed_after.ensures j;
      codec_config = c.config_in.ensures j;
      «data» = c.placed.ensures j;
    })
