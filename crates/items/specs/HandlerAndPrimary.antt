-- The handler of 'meta' and the primary item (ISO/IEC 14496-12, 8.4.3 and 8.11.4; ISO/IEC 23008-12, O.4; document 01, 'The equivalent file';
-- mini.rs, `equivalent_file`).
use Rattle.std.specs.Prelude.{◌≡◌, List, [], ◌∷◌, ◌++◌, ℕ, length}
use Rattle.std.proofs.Common.{length-append}
use Rattle.octets.specs.BigEndian.{be}
use Rattle.octets.specs.BigEndianLaws.{length-be}
use Rattle.boxes.specs.Boxed.{boxed, full_box_header, length-boxed, length-full_box_header}
use Rattle.mini.specs.ItemKind.{MAIN}

-- pre_defined 0, handler_type 'pict', three reserved words, an empty name
unfoldable pub hdlr_body : List ℕ
hdlr_body = full_box_header 0 0 ++ be 4 0 ++ be 4 0x70696374 ++ be 8 0 ++ be 4 0 ++ (0 ∷ [])

unfoldable pub hdlr : List ℕ
hdlr = boxed 0x68646C72 hdlr_body

abbrev pub hdlr_len : ℕ
hdlr_len = 33

unfoldable pub pitm_body : List ℕ
pitm_body = full_box_header 0 0 ++ be 2 MAIN

unfoldable pub pitm : List ℕ
pitm = boxed 0x7069746D pitm_body

abbrev pub pitm_len : ℕ
pitm_len = 14

-- ---- lengths
pub length-hdlr : length hdlr ≡ hdlr_len
unfolding hdlr hdlr_body
length-hdlr = simp (length-boxed, length-append, length-full_box_header, length-be)

pub length-pitm : length pitm ≡ pitm_len
unfolding pitm pitm_body
length-pitm = simp (length-boxed, length-append, length-full_box_header, length-be)
