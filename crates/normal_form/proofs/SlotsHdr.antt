-- HDR bodies read back from their slots: a law for each kind of body, and one for all six.
use Rattle.std.specs.Prelude.{◌≡◌, Bool, true, false, List, [], ℕ, drop, refl}
use Rattle.std.specs.Bool.{then_some}
use Rattle.std.proofs.Common.{sym, ◌∙◌}
use Rattle.octets.specs.BigEndian.{be}
use Rattle.boxes.specs.Boxed.{box_header, boxed, full_box_header}
use Rattle.mini.specs.Ranges.{Body, CclvEnds, Bodies}
use Rattle.mini.specs.declared.MiniHdrBoxes.{MiniHdrBoxes}
use Rattle.properties.specs.HdrBoxes.{hdr_box, clli, mdcv, cclv, amve, reve, ndwt}
use Rattle.properties.specs.Property.{full_box}
use Rattle.properties.specs.declared.hdr_boxes.HdrBox.{HdrBox}
use Rattle.properties.specs.declared.hdr_boxes.HdrBox.TheVariants.{Clli, Mdcv, Cclv, Amve, Reve, Ndwt}
use Rattle.slots.specs.SlotLaws.{used_held}
use Rattle.slots.specs.Slots.{Slot, hdr_slot}
use Rattle.normal_form.specs.ReadProperties.{body_in, padded, hdr_in}
use Rattle.normal_form.proofs.PropertiesRead.{padded_all, padded_none, cclv_read}

abbrev slot : Bool → HdrBox → Slot
slot has held = hdr_slot (then_some has held)

-- a body that is held in its box, read from behind the header
held_read : (t : Bool) (n : ℕ) (box : HdrBox) (read : List ℕ → List ℕ) (body : List ℕ) → Body t n body → read [] ≡ [] → read (drop 8 (hdr_box box)) ≡ body
    → padded n (read (body_in (slot t box))) ≡ body
held_read true n box read body b z e = rw e (padded_all n body b.1.0)
held_read false n box read body b z e = rw z (padded_none n ∙ sym (b.0 refl))

cclv_held : (t : Bool) (held : List ℕ) → Body t 37 held → CclvEnds held → padded 37 (body_in (slot t (Cclv held))) ≡ held
unfolding cclv boxed box_header be
cclv_held true held b e = cclv_read held b.1.0 e
cclv_held false held b e = padded_none 37 ∙ sym (b.0 refl)

pub hdr_read : (h : MiniHdrBoxes) → Bodies h
    → hdr_in (slot h.has_clli (Clli h.clli)) (slot h.has_mdcv (Mdcv h.mdcv)) (slot h.has_cclv (Cclv h.cclv)) (slot h.has_amve (Amve h.amve))
    (slot h.has_reve (Reve h.reve)) (slot h.has_ndwt (Ndwt h.ndwt))
    ≡ h
unfolding clli mdcv amve reve ndwt full_box full_box_header boxed box_header be
hdr_read h b =
    let plain = λ (l : List ℕ). l in
    λ j. record {
      has_clli = used_held h.has_clli (Clli h.clli) j;
      has_mdcv = used_held h.has_mdcv (Mdcv h.mdcv) j;
      has_cclv = used_held h.has_cclv (Cclv h.cclv) j;
      has_amve = used_held h.has_amve (Amve h.amve) j;
      has_reve = used_held h.has_reve (Reve h.reve) j;
      has_ndwt = used_held h.has_ndwt (Ndwt h.ndwt) j;
      clli = held_read h.has_clli 4 (Clli h.clli) plain h.clli b.clli_body refl refl j;
      mdcv = held_read h.has_mdcv 24 (Mdcv h.mdcv) plain h.mdcv b.mdcv_body refl refl j;
      cclv = cclv_held h.has_cclv h.cclv b.cclv_body b.cclv_ends j;
      amve = held_read h.has_amve 8 (Amve h.amve) plain h.amve b.amve_body refl refl j;
      reve = held_read h.has_reve 20 (Reve h.reve) (drop 4) h.reve b.reve_body refl refl j;
      ndwt = held_read h.has_ndwt 4 (Ndwt h.ndwt) (drop 4) h.ndwt b.ndwt_body refl refl j;
    }
