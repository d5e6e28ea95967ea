-- The equivalent file of every record that expands is as long as the record and the file type alone say, and never long (document 01, 'The equivalent
-- file': 'mdat content is at most 808,452,094 bytes, so the Rust's 64-bit offsets and size refusal never occur; show that and leave them out').
use Rattle.std.specs.Prelude.{◌≡◌, List, ℕ, ◌+◌, ◌≤◌, ◌<◌, length}
use Rattle.std.proofs.Common.{ap, ◌∙◌, arith, length-append}
use Rattle.boxes.specs.Boxed.{length-boxed, length-full_box_header}
use Rattle.ftyp.specs.FileTypeLaws.{allowed_whole, allowed_short, length-ftyp, ftyp_most}
use Rattle.items.specs.HandlerAndPrimary.{length-hdlr, length-pitm}
use Rattle.items.specs.ItemBytes.{ItemBytes, lengths_of, item_data}
use Rattle.items.specs.ItemGroup.{length-grpl}
use Rattle.items.specs.ItemInfo.{length-iinf}
use Rattle.items.specs.ItemLocations.{data_len, length-iloc}
use Rattle.items.specs.ItemReferences.{length-iref}
use Rattle.mini.specs.declared.MinimizedImage.{MinimizedImage}
use Rattle.slots.specs.Associations.{iprp}
use Rattle.slots.specs.Bodies.{Bodies, bodies}
use Rattle.slots.specs.LengthLaws.{length-iprp}
use Rattle.slots.specs.Lengths.{iprp_len}
use Rattle.slots.specs.Sound.{Sound, sound}
use Rattle.expander.specs.EquivalentFile.{item_bytes, data_lengths, item_boxes, meta_body, meta_body_len, meta, mdat, file_len, file}
use Rattle.expander.specs.Expands.{Expands}
use Rattle.expander.specs.Placed as placed
use Rattle.expander.specs.Placed.{DataPlaced, Fit, fit, data_placed, lengths_are}

length-item_data : (b : ItemBytes) → length (item_data b) ≡ data_len (lengths_of b)
unfolding item_data
length-item_data b = simp length-append

pub length-content : (i : MinimizedImage) (s : List ℕ) → DataPlaced i s → length (item_data (item_bytes i s)) ≡ data_len (data_lengths i)
length-content i s p = length-item_data (item_bytes i s) ∙ ap data_len (lengths_are i s p)

pub length-meta_body : (i : MinimizedImage) (s : List ℕ) (base : ℕ) → Sound i s → Bodies i.hdr_boxes → Bodies i.gain_map.tmap_hdr
    → length (meta_body i s base) ≡ meta_body_len i
unfolding meta_body item_boxes
length-meta_body i s base o b t =
    let p = length-iprp i s o b t in
    simp (length-append, length-full_box_header, length-hdlr, length-pitm, length-iinf, length-iref, p, length-grpl, length-iloc)

-- by which `grind` sees how long the bodies of 'meta' and 'mdat' are
pub ruleset body_lengths = (length-meta_body, length-content)

-- what the Rust decides by the length of mdat's content: above MAX_EXPANDED_BYTES it refuses, above half of u32::MAX less 4,096 its
-- offsets and lengths take eight bytes, and above u32::MAX less 8 mdat's header takes sixteen
abbrev pub Narrow : ℕ → Type 0
Narrow n = (n ≤ 1073741824) × (n + 4096 ≤ 2147483647) × (n + 8 ≤ 4294967295)

module _ (i : MinimizedImage) (s brands : List ℕ) (x : Expands i s brands) where
  -- ---- lengths
  pub iprp_long : length (iprp i s) ≡ iprp_len i
  iprp_long =
      let b = bodies i x.can_write in
      length-iprp i s (sound i s x.placed x.can_write) b.0 b.1

  pub length_meta_body : (base : ℕ) → length (meta_body i s base) ≡ meta_body_len i
  length_meta_body base =
      let b = bodies i x.can_write in
      length-meta_body i s base (sound i s x.placed x.can_write) b.0 b.1

  pub length_content : length (item_data (item_bytes i s)) ≡ data_len (data_lengths i)
  length_content = length-content i s (data_placed i s x.placed)

  pub length_file : (major minor : ℕ) → length (file i s major minor brands) ≡ file_len i major minor brands
  unfolding file meta mdat
  length_file major minor =
      let f = length-ftyp major minor i.has_gain_map brands (allowed_whole brands x.brands_allowed) in
      simp (length-append, f, length-boxed, length_meta_body, length_content)

  -- ---- bounds
  sized : Fit i s
  sized = fit i s x.placed x.can_write

  pub content_most : data_len (data_lengths i) ≤ 808452094
  content_most = placed.content_most i sized.bounded

  pub content_narrow : Narrow (data_len (data_lengths i))
  content_narrow = (omega (arith, content_most), omega (arith, content_most), omega (arith, content_most))

  pub meta_most : meta_body_len i ≤ 2110595
  meta_most = placed.meta_most i sized.properties.bounded

  pub file_most : (major minor : ℕ) → file_len i major minor brands ≤ 810566829
  file_most major minor =
      let f = ftyp_most major minor i.has_gain_map brands in
      omega (arith, f, allowed_short brands x.brands_allowed, meta_most, content_most)

  -- so no offset and no length in the file needs more than four bytes
  pub file_narrow : (major minor : ℕ) → length (file i s major minor brands) < 4294967296
  file_narrow major minor = omega (arith, length_file major minor, file_most major minor)
