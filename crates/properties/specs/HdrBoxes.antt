-- The boxes for high dynamic range (ISO/IEC 14496-12, 12.1; `hdr` in `equivalent_file` of mini.rs). Their bodies are held in the record;
-- 'reve' and 'ndwt' are full boxes. Beside each box stands its length.
use Rattle.std.specs.Prelude.{List, ℕ, ◌+◌, take}
use Rattle.boxes.specs.Boxed.{boxed}
use Rattle.mini.specs.Cclv.{cclv_length}
use Rattle.properties.specs.Property.{full_box}
use Rattle.properties.specs.declared.hdr_boxes.HdrBox.{HdrBox}
use Rattle.properties.specs.declared.hdr_boxes.HdrBox.TheVariants.{Clli, Mdcv, Cclv, Amve, Reve, Ndwt}

unfoldable pub clli : List ℕ → List ℕ
clli body = boxed 0x636C6C69 body

abbrev pub clli_len : ℕ
clli_len = 12

unfoldable pub mdcv : List ℕ → List ℕ
mdcv body = boxed 0x6D646376 body

abbrev pub mdcv_len : ℕ
mdcv_len = 32

-- as many of the bytes held as the first one says
unfoldable pub cclv : List ℕ → List ℕ
cclv held = boxed 0x63636C76 (take (cclv_length held) held)

abbrev pub cclv_len : List ℕ → ℕ
cclv_len held = 8 + cclv_length held

unfoldable pub amve : List ℕ → List ℕ
amve body = boxed 0x616D7665 body

abbrev pub amve_len : ℕ
amve_len = 16

unfoldable pub reve : List ℕ → List ℕ
reve body = full_box 0x72657665 body

abbrev pub reve_len : ℕ
reve_len = 32

unfoldable pub ndwt : List ℕ → List ℕ
ndwt body = full_box 0x6E647774 body

abbrev pub ndwt_len : ℕ
ndwt_len = 16

-- each by its kind
abbrev pub hdr_box : HdrBox → List ℕ
hdr_box (Clli body) = clli body
hdr_box (Mdcv body) = mdcv body
hdr_box (Cclv held) = cclv held
hdr_box (Amve body) = amve body
hdr_box (Reve body) = reve body
hdr_box (Ndwt body) = ndwt body

abbrev pub hdr_box_len : HdrBox → ℕ
hdr_box_len (Clli body) = clli_len
hdr_box_len (Mdcv body) = mdcv_len
hdr_box_len (Cclv held) = cclv_len held
hdr_box_len (Amve body) = amve_len
hdr_box_len (Reve body) = reve_len
hdr_box_len (Ndwt body) = ndwt_len
