-- Item properties as boxes: ISO/IEC 23008-12, 6.5 ('colr': ISO/IEC 14496-12, 12.1.5), as O.4.6 has them in the equivalent file of a
-- MinimizedImageBox. Beside each box stands its length.
use Rattle.std.specs.Prelude.{Bool, true, false, List, [], ◌∷◌, ◌++◌, ℕ, ◌+◌}
use Rattle.octets.specs.BigEndian.{be}
use Rattle.boxes.specs.Boxed.{boxed, full_box_header}

-- a full box of version 0 and flags 0
unfoldable pub full_box : ℕ → List ℕ → List ℕ
full_box type body = boxed type (full_box_header 0 0 ++ body)

abbrev pub full_box_len : ℕ → ℕ
full_box_len n = 8 + (4 + n)

-- ---- 'ispe', 6.5.3: width and height
unfoldable pub ispe_body : ℕ → ℕ → List ℕ
ispe_body width height = full_box_header 0 0 ++ be 4 width ++ be 4 height

unfoldable pub ispe : ℕ → ℕ → List ℕ
ispe width height = boxed 0x69737065 (ispe_body width height)

abbrev pub ispe_len : ℕ
ispe_len = 20

-- ---- 'colr' of type 'nclx': colour primaries, transfer characteristics, matrix coefficients; the full-range flag and seven bits reserved
abbrev pub full_range_byte : Bool → ℕ
full_range_byte true = 0x80
full_range_byte false = 0

unfoldable pub nclx_body : ℕ → ℕ → ℕ → Bool → List ℕ
nclx_body primaries transfer matrix full = be 4 0x6E636C78 ++ be 2 primaries ++ be 2 transfer ++ be 2 matrix ++ (full_range_byte full ∷ [])

unfoldable pub nclx : ℕ → ℕ → ℕ → Bool → List ℕ
nclx primaries transfer matrix full = boxed 0x636F6C72 (nclx_body primaries transfer matrix full)

abbrev pub nclx_len : ℕ
nclx_len = 19

-- ---- 'colr' of type 'prof': an ICC profile
unfoldable pub prof_body : List ℕ → List ℕ
prof_body icc = be 4 0x70726F66 ++ icc

unfoldable pub prof : List ℕ → List ℕ
prof icc = boxed 0x636F6C72 (prof_body icc)

abbrev pub prof_len : ℕ → ℕ
prof_len n = 8 + (4 + n)

-- ---- a codec configuration: its bytes in a box of the configuration's type
unfoldable pub codec_config : ℕ → List ℕ → List ℕ
codec_config type config = boxed type config

abbrev pub codec_config_len : ℕ → ℕ
codec_config_len n = 8 + n

-- ---- 'auxC', 6.5.8: the URN that says alpha, ended by a zero byte
-- urn:mpeg:mpegB:cicp:systems:auxiliary:alpha
unfoldable pub AUX_URN_ALPHA : List ℕ
AUX_URN_ALPHA =
    0x75 ∷ 0x72 ∷ 0x6E ∷ 0x3A ∷ 0x6D ∷ 0x70 ∷ 0x65 ∷ 0x67 ∷ 0x3A ∷ 0x6D ∷ 0x70 ∷ 0x65 ∷ 0x67 ∷ 0x42 ∷ 0x3A ∷ 0x63 ∷ 0x69 ∷ 0x63 ∷ 0x70 ∷ 0x3A ∷ 0x73 ∷ 0x79 ∷ 0x73 ∷ 0x74 ∷ 0x65 ∷ 0x6D ∷ 0x73 ∷ 0x3A ∷ 0x61 ∷ 0x75 ∷ 0x78 ∷ 0x69 ∷ 0x6C ∷ 0x69 ∷ 0x61 ∷ 0x72 ∷ 0x79 ∷ 0x3A ∷ 0x61 ∷ 0x6C ∷ 0x70 ∷ 0x68 ∷ 0x61 ∷ []

unfoldable pub aux_c : List ℕ
aux_c = full_box 0x61757843 (AUX_URN_ALPHA ++ (0 ∷ []))

abbrev pub aux_c_len : ℕ
aux_c_len = 56

-- ---- 'irot', 6.5.10: quarter turns anticlockwise; 'imir', 6.5.12: 0 top to bottom, 1 left to right
abbrev pub turn_box : ℕ → ℕ → List ℕ
turn_box type turn = boxed type (turn ∷ [])

unfoldable pub irot : ℕ → List ℕ
irot angle = turn_box 0x69726F74 angle

unfoldable pub imir : ℕ → List ℕ
imir axis = turn_box 0x696D6972 axis

abbrev pub turn_len : ℕ
turn_len = 9
