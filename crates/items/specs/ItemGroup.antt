-- 'grpl' with 'altr': the tone map and the main picture are alternatives (ISO/IEC 14496-12, 8.18.3; ISO/IEC 23008-12, O.4.5; document 01,
-- 'The equivalent file').
use Rattle.std.specs.Prelude.{◌≡◌, List, ◌++◌, ℕ, ◌≤◌, length}
use Rattle.std.proofs.Common.{length-append}
use Rattle.octets.specs.BigEndian.{be}
use Rattle.octets.specs.BigEndianLaws.{length-be}
use Rattle.boxes.specs.Boxed.{boxed, full_box_header, length-boxed, length-full_box_header}
use Rattle.mini.specs.ItemKind.{MAIN, TMAP, ALTR_GROUP}
use Rattle.items.specs.declared.ItemSet.{ItemSet}
use Rattle.items.specs.Optional.{bytes_if, len_if, length_if, if_most}

-- group_id, num_entities_in_group, the entity_ids
unfoldable pub altr_body : List ℕ
altr_body = full_box_header 0 0 ++ be 4 ALTR_GROUP ++ be 4 2 ++ be 4 TMAP ++ be 4 MAIN

unfoldable pub altr : List ℕ
altr = boxed 0x616C7472 altr_body

unfoldable pub grpl_box : List ℕ
grpl_box = boxed 0x6772706C altr

abbrev pub grpl : ItemSet → List ℕ
grpl s = bytes_if s.tone_map grpl_box

-- ---- its length
abbrev pub grpl_len : ItemSet → ℕ
grpl_len s = len_if s.tone_map 36

pub length-grpl : (s : ItemSet) → length (grpl s) ≡ grpl_len s
unfolding grpl_box altr altr_body
length-grpl s = length_if s.tone_map _ _ (simp (length-boxed, length-append, length-full_box_header, length-be))

pub grpl_most : (s : ItemSet) → grpl_len s ≤ 36
grpl_most s = if_most s.tone_map 36
