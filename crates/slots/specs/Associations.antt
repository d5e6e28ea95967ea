-- 'ipma' and 'iprp' (ISO/IEC 23008-12, 9.3; O.4.6): for each item the slots that hold its properties, in the order in which they apply.
--
--     unsigned int(32) entry_count;
--     for each entry: unsigned int(16) item_ID; unsigned int(8) association_count;
--                     for each association: bit(1) essential; unsigned int(7) property_index;
use Rattle.std.specs.Prelude.{Bool, false, cond, List, [], ◌∷◌, ◌++◌, map, ℕ, ◌+◌, ◌%◌, length, get_or}
use Rattle.octets.specs.BigEndian.{be}
use Rattle.boxes.specs.Boxed.{boxed, full_box_header}
use Rattle.mini.specs.ItemKind.{MAIN, ALPHA, TMAP, GAIN_MAP}
use Rattle.mini.specs.declared.MinimizedImage.{MinimizedImage}
use Rattle.slots.specs.Slots.{Slot, none, is_used, has_alpha_item, has_gain_map_item, slots, ipco}

-- an association as its byte
abbrev pub essential : ℕ → ℕ
essential slot = 0x80 + slot

abbrev pub optional : ℕ → ℕ
optional slot = slot

-- The Rust adds 11 to 16 only where `hdr` is set. A record without it has no HDR body, so that these slots are unused and dropped
-- (AssociationLaws.antt, row_without_hdr).
unfoldable pub main_row : List ℕ
main_row =
    essential 1
    ∷ optional 2
    ∷ optional 3
    ∷ essential 4
    ∷ essential 5
    ∷ optional 11
    ∷ optional 12
    ∷ optional 13
    ∷ optional 14
    ∷ optional 15
    ∷ optional 16
    ∷ essential 9
    ∷ essential 10
    ∷ []

unfoldable pub alpha_row : List ℕ
alpha_row = essential 6 ∷ optional 2 ∷ essential 7 ∷ optional 8 ∷ essential 9 ∷ essential 10 ∷ []

unfoldable pub tmap_row : List ℕ
tmap_row =
    optional 21
    ∷ essential 22
    ∷ essential 23
    ∷ optional 24
    ∷ optional 25
    ∷ optional 26
    ∷ optional 27
    ∷ optional 28
    ∷ optional 29
    ∷ []

unfoldable pub gain_map_row : List ℕ
gain_map_row = essential 17 ∷ optional 18 ∷ optional 19 ∷ essential 20 ∷ essential 9 ∷ essential 10 ∷ []

-- ---- free slots are dropped
-- which slots are used, by number; they are counted from 1, and 0 is none
abbrev pub used_by : List Slot → List Bool
used_by l = map is_used (none ∷ l)

abbrev pub is_kept : List Bool → ℕ → Bool
is_kept used x = get_or used (x % 128) false

unfoldable pub kept : List Bool → List ℕ → List ℕ
kept used [] = []
kept used (x ∷ xs) = cond (is_kept used x) (x ∷ []) [] ++ kept used xs

-- ---- the box
unfoldable pub row : List Bool → ℕ → List ℕ → List ℕ
row used item xs = be 2 item ++ (length (kept used xs) ∷ []) ++ kept used xs

abbrev pub row_if : Bool → List Bool → ℕ → List ℕ → List ℕ
row_if t used item xs = cond t (row used item xs) []

abbrev pub one : Bool → ℕ
one t = cond t 1 0

abbrev pub row_count : MinimizedImage → ℕ
row_count i = 1 + one (has_alpha_item i) + one i.has_gain_map + one (has_gain_map_item i)

unfoldable pub ipma_body : MinimizedImage → List Bool → List ℕ
ipma_body i used =
    full_box_header 0 0 ++ be 4 (row_count i) ++ row used MAIN main_row ++ row_if (has_alpha_item i) used ALPHA alpha_row
    ++ row_if i.has_gain_map used TMAP tmap_row
    ++ row_if (has_gain_map_item i) used GAIN_MAP gain_map_row

unfoldable pub ipma_with : MinimizedImage → List Bool → List ℕ
ipma_with i used = boxed 0x69706D61 (ipma_body i used)

unfoldable pub ipma : MinimizedImage → List ℕ → List ℕ
ipma i s = ipma_with i (used_by (slots i s))

-- ---- both
unfoldable pub iprp : MinimizedImage → List ℕ → List ℕ
iprp i s = boxed 0x69707270 (ipco i s ++ ipma i s)
