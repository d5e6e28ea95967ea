-- The HDR bodies that a record holds have the lengths that its type gives them: an array's length is known of every value in the code, and
-- here of every record that can be written. Assumes nothing.
use Rattle.std.specs.Prelude.{◌≡◌, T, length}
use Rattle.mini.specs.NoPayloadGives.{lawful}
use Rattle.mini.specs.Ranges as ranges
use Rattle.mini.specs.Write.{writable}
use Rattle.mini.specs.declared.MiniHdrBoxes.{MiniHdrBoxes}
use Rattle.mini.specs.declared.MinimizedImage.{MinimizedImage}

pub record Bodies (h : MiniHdrBoxes) : Type 0 where
  pub clli_length : length h.clli ≡ 4
  pub mdcv_length : length h.mdcv ≡ 24
  pub cclv_length : length h.cclv ≡ 37
  pub amve_length : length h.amve ≡ 8
  pub reve_length : length h.reve ≡ 20
  pub ndwt_length : length h.ndwt ≡ 4

bodies_of : (h : MiniHdrBoxes) → ranges.Bodies h → Bodies h
bodies_of h b =
    record {
      clli_length = b.clli_body.1.0;
      mdcv_length = b.mdcv_body.1.0;
      cclv_length = b.cclv_body.1.0;
      amve_length = b.amve_body.1.0;
      reve_length = b.reve_body.1.0;
      ndwt_length = b.ndwt_body.1.0;
    }

pub bodies : (i : MinimizedImage) → T (writable i) → Bodies i.hdr_boxes × Bodies i.gain_map.tmap_hdr
bodies i w = let l = lawful i w in (bodies_of i.hdr_boxes l.boxes_bodies, bodies_of i.gain_map.tmap_hdr l.tmap_bodies)
