-- The file is that of what it carries: so two records that expand under one file type give one file exactly when they carry the same.
use Rattle.std.specs.Prelude.{◌≡◌, List, ◌++◌, ℕ, ◌+◌, length, ◌↔◌}
use Rattle.octets.specs.BigEndian.{be}
use Rattle.std.proofs.Common.{sym, ap, ◌∙◌}
use Rattle.boxes.specs.Boxed.{boxed, full_box_header, length-boxed}
use Rattle.ftyp.specs.FileType.{ftyp}
use Rattle.ftyp.specs.FileTypeLaws.{allowed_whole, length-ftyp}
use Rattle.items.specs.ItemBytes.{item_data, lengths_of}
use Rattle.items.specs.ItemGroup.{grpl}
use Rattle.items.specs.ItemLocations.{iloc, locations}
use Rattle.items.specs.declared.ItemSet.{ItemSet}
use Rattle.mini.specs.ItemKind.{MAIN, ALPHA, TMAP, GAIN_MAP}
use Rattle.mini.specs.declared.MinimizedImage.{MinimizedImage}
use Rattle.slots.specs.Associations.{row, row_if, one, used_by, main_row, alpha_row, tmap_row, gain_map_row, ipma_body, ipma_with, ipma, iprp}
use Rattle.slots.specs.Slots.{Slot, slots_bytes, ipco}
use Rattle.expander.specs.EquivalentFile.{item_set, item_boxes, meta_body, meta_body_len, meta, mdat, file}
use Rattle.expander.specs.Expands.{Expands}
use Rattle.expander.specs.FileLength.{length_meta_body}
use Rattle.expander.specs.LocationsInFile.{META, MDAT}
use Rattle.expander.specs.Placed.{data_placed, lengths_are}
use Rattle.carried.specs.Carried.{Carried, carried}
use Rattle.carried.specs.ReadFile.{IPRP, IPCO, carried_in}
use Rattle.carried.proofs.Found.{carried_found}

-- ---- the file made of what is carried: every length in it is counted
abbrev ipma_of : ItemSet → List Slot → List ℕ
ipma_of t l =
    let used = used_by l in
    boxed 0x69706D61
    (full_box_header 0 0 ++ be 4 (1 + one t.alpha + one t.tone_map + one t.gain_map) ++ row used MAIN main_row ++ row_if t.alpha used ALPHA alpha_row
    ++ row_if t.tone_map used TMAP tmap_row
    ++ row_if t.gain_map used GAIN_MAP gain_map_row)

abbrev iprp_of : ItemSet → List Slot → List ℕ
iprp_of t l = boxed IPRP (boxed IPCO (slots_bytes l) ++ ipma_of t l)

abbrev meta_of : Carried → ℕ → List ℕ
meta_of c base =
    let t = c.items in
    boxed META
    (full_box_header 0 0 ++ item_boxes t ++ iprp_of t c.slots ++ grpl t ++ iloc (locations base (lengths_of c.bytes)))

-- where mdat's content begins: after ftyp, 'meta' of that length whatever its offsets say, and mdat's header
abbrev file_of : Carried → (major minor : ℕ) → (brands : List ℕ) → List ℕ
file_of c major minor brands =
    let type = ftyp major minor c.items.tone_map brands in
    type ++ meta_of c (length type + length (meta_of c 0) + 8) ++ boxed MDAT (item_data c.bytes)

-- ---- it is the file
module _ (i : MinimizedImage) (s brands : List ℕ) (x : Expands i s brands) where
  meta_carried : (base : ℕ) → meta_of (carried i s) base ≡ meta i s base
  unfolding carried meta meta_body iprp ipco ipma ipma_with ipma_body item_set
  meta_carried base = rw (lengths_are i s (data_placed i s x.placed))

  pub file_carried : (major minor : ℕ) → file i s major minor brands ≡ file_of (carried i s) major minor brands
  unfolding file meta mdat carried item_set
  file_carried major minor =
      let f = length-ftyp major minor i.has_gain_map brands (allowed_whole brands x.brands_allowed) in
      let m : length (meta i s 0) ≡ 8 + meta_body_len i = length-boxed _ _ ∙ rw (length_meta_body i s brands x 0) in
      simp (meta_carried, f, m)

-- ---- so equal files carry the same, and the other way round
pub same_file : (i : MinimizedImage) (s : List ℕ) (j : MinimizedImage) (t brands : List ℕ) → Expands i s brands → Expands j t brands → (major minor : ℕ)
    → (file i s major minor brands ≡ file j t major minor brands) ↔ (carried i s ≡ carried j t)
same_file i s j t brands x y major minor = (
  λ e. sym (carried_found i s major minor brands x) ∙ ap carried_in e ∙ carried_found j t major minor brands y,
  λ e. file_carried i s brands x major minor ∙ ap (λ (c : Carried). file_of c major minor brands) e ∙ sym (file_carried j t brands y major minor),
)
