-- Demand 3 for the equivalent file of every record that expands: what walking the file finds is where each item's own bytes lie, each byte of mdat's
-- content in one location and no other byte in any.
use Rattle.std.specs.Prelude.{◌≡◌, Bool, true, false, not, cond, ℕ, ◌+◌, eqb, length}
use Rattle.std.proofs.Math.Path.{refl}
use Rattle.std.proofs.Common.{ap, ◌∙◌, arith, length-append}
use mathlib.Core.List.{List, [], ◌∷◌, ◌++◌, append-nil, append_assoc}
use Rattle.boxes.specs.Boxed.{box_header, boxed, full_box_header, length-box_header, length-boxed, length-full_box_header}
use Rattle.boxes.specs.declared.BoxHeader.{BoxHeader}
use Rattle.ftyp.specs.FileType.{FTYP, ftyp_body, ftyp}
use Rattle.ftyp.specs.FileTypeLaws.{allowed_whole, length-ftyp}
use Rattle.items.specs.HandlerAndPrimary.{hdlr_body, hdlr, pitm_body, pitm}
use Rattle.items.specs.ItemBytes.{lengths_of, item_data, own, Leads, locations_lead}
use Rattle.items.specs.ItemGroup.{altr, grpl_box}
use Rattle.items.specs.ItemInfo.{iinf_body, iinf}
use Rattle.items.specs.ItemLocations.{Every, locations, data_len, iloc_body, iloc}
use Rattle.items.specs.ItemReferences.{references, iref_body, iref_box, iref}
use Rattle.items.specs.OneLocation.{locations_of}
use Rattle.items.specs.ReadLocations.{iloc_read}
use Rattle.items.specs.declared.ItemSet.{ItemSet}
use Rattle.mini.specs.declared.MinimizedImage.{MinimizedImage}
use Rattle.slots.specs.Associations.{ipma, iprp}
use Rattle.slots.specs.Slots.{ipco}
use Rattle.expander.specs.EquivalentFile.{item_set, item_bytes, data_lengths, item_boxes, meta_body, meta, mdat, content_start, file}
use Rattle.expander.specs.Expands.{Expands, expands}
use Rattle.expander.specs.FileLength.{length_meta_body, length_content, length_file, meta_most, file_most, file_narrow}
use Rattle.expander.specs.LocationCounts.{locations_once, locations_hold}
use Rattle.slots.specs.Associations.{one}
use Rattle.expander.specs.LocationsInFile.{META, ILOC, MDAT, meta_in, iloc_in, locations_in, content_in, lies, holders, EveryByte}
use Rattle.expander.specs.Outcome.{refusal_of}
use Rattle.expander.specs.Placed.{data_placed, lengths_are}
use Rattle.boxes.specs.Walk.{Box, All, none, next, Plain, box_if, joined, header_of, headers, walk, payload, walked, box_found, body_found, all_append, all_if, all_plain, joined-append, joined_if}

abbrev pub box : ℕ → List ℕ → Box
box type body = record { type = type; body = body }

unless : (t : Bool) (bs : List ℕ) → cond (not t) bs [] ≡ cond t [] bs
unless true bs = refl
unless false bs = refl

abbrev pub has_references : ItemSet → Bool
has_references t = not (eqb (length (references t)) 0)

-- ---- the boxes of 'meta': those before 'iloc', and 'iloc'
abbrev pub before_iloc : MinimizedImage → List ℕ → List Box
before_iloc i s =
    let t = item_set i in
    (box 0x68646C72 hdlr_body ∷ box 0x7069746D pitm_body ∷ box 0x69696E66 (iinf_body t) ∷ [])
    ++ box_if (has_references t) (box 0x69726566 (iref_body t))
    ++ (box 0x69707270 (ipco i s ++ ipma i s) ∷ [])
    ++ box_if t.tone_map (box 0x6772706C altr)

abbrev pub iloc_box : MinimizedImage → ℕ → Box
iloc_box i base = box ILOC (iloc_body (locations base (data_lengths i)))

abbrev pub meta_boxes : MinimizedImage → List ℕ → ℕ → List Box
meta_boxes i s base = before_iloc i s ++ (iloc_box i base ∷ [])

pub meta_is : (i : MinimizedImage) (s : List ℕ) (base : ℕ) → meta_body i s base ≡ full_box_header 0 0 ++ joined (meta_boxes i s base)
unfolding meta_body item_boxes hdlr pitm iinf iref iref_box iprp grpl_box iloc
meta_is i s base = simp (joined-append, joined_if, unless, append_assoc, append-nil)

-- a property of each box before 'iloc'
all_before : {P : Box → Type 0} (i : MinimizedImage) (s : List ℕ) → P (box 0x68646C72 hdlr_body) → P (box 0x7069746D pitm_body)
    → P (box 0x69696E66 (iinf_body (item_set i))) → P (box 0x69726566 (iref_body (item_set i))) → P (box 0x69707270 (ipco i s ++ ipma i s)) → P (box 0x6772706C altr)
    → All P (before_iloc i s)
unfolding item_set
all_before i s h p n r q g =
    all_append (all_append (all_append (next h (next p (next n none))) (all_if (has_references (item_set i)) _ r)) (next q none)) (all_if i.has_gain_map _ g)

module _ (i : MinimizedImage) (s : List ℕ) (major minor : ℕ) (brands : List ℕ) (x : Expands i s brands) where
  abbrev f : List ℕ
  f = file i s major minor brands

  abbrev base : ℕ
  base = content_start i major minor brands

  -- ---- the boxes of the file
  abbrev pub ftyp_box : Box
  ftyp_box = box FTYP (ftyp_body major minor i.has_gain_map brands)

  abbrev pub meta_box : Box
  meta_box = box META (meta_body i s base)

  abbrev pub mdat_box : Box
  mdat_box = box MDAT (item_data (item_bytes i s))

  abbrev pub file_boxes : List Box
  file_boxes = ftyp_box ∷ meta_box ∷ mdat_box ∷ []

  file_is : f ≡ joined file_boxes
  unfolding file ftyp meta mdat
  file_is = simp (append_assoc, append-nil)

  file_plain : All Plain file_boxes
  file_plain =
      let n = file_narrow i s brands x major minor in
      all_plain file_boxes (next refl (next refl (next refl none))) (omega (arith, n, ap length file_is))

  pub boxes_found : walk f 0 ≡ headers 0 file_boxes
  boxes_found = rw file_is (walked [] file_boxes file_plain)

  -- ---- 'meta', 'iloc' and the locations
  pub meta_found : meta_in f ≡ meta_body i s base
  unfolding meta_in
  meta_found = rw file_is (body_found [] 0 refl (ftyp_box ∷ []) meta_box (mdat_box ∷ []) file_plain (next refl none))

  pub meta_plain : All Plain (meta_boxes i s base)
  meta_plain =
      let n = length_meta_body i s brands x base in
      let l = length-append (full_box_header 0 0) (joined (meta_boxes i s base)) in
      all_plain (meta_boxes i s base) (all_append (all_before i s refl refl refl refl refl refl) (next refl none))
      (omega (arith, ap length (meta_is i s base), n, l, meta_most i s brands x))

  pub iloc_found : iloc_in f ≡ iloc_body (locations base (data_lengths i))
  unfolding iloc_in
  iloc_found =
      rw (meta_found, meta_is i s base)
      (body_found (full_box_header 0 0) 4 (length-full_box_header 0 0) (before_iloc i s) (iloc_box i base) [] meta_plain (all_before i s refl refl refl refl refl refl))

  pub locations_found : locations_in f ≡ locations base (data_lengths i)
  unfolding locations_in
  locations_found = rw iloc_found (iloc_read base (data_lengths i) (omega (arith, file_most i s brands x major minor)))

  -- ---- the content
  abbrev before_mdat : List Box
  before_mdat = ftyp_box ∷ meta_box ∷ []

  length_before : length (joined before_mdat) + 8 ≡ base
  unfolding ftyp
  length_before =
      let t = length-ftyp major minor i.has_gain_map brands (allowed_whole brands x.brands_allowed) in
      let m = length_meta_body i s brands x base in
      simp (length-append, t, length-boxed, m) (omega arith)

  content_found : content_in f ≡ header_of mdat_box (0 + length (joined before_mdat))
  unfolding content_in
  content_found = rw file_is (box_found [] 0 refl before_mdat mdat_box [] file_plain (next refl (next refl none)))

  pub content_place : (content_in f).payload_start ≡ base
  content_place = ap (λ (h : BoxHeader). h.payload_start) content_found ∙ omega (arith, length_before)

  pub content_length : (content_in f).payload_len ≡ data_len (data_lengths i)
  content_length = ap (λ (h : BoxHeader). h.payload_len) content_found ∙ length_content i s brands x

  content_is : payload f (content_in f) ≡ item_data (item_bytes i s)
  unfolding content_in
  content_is = rw file_is (body_found [] 0 refl before_mdat mdat_box [] file_plain (next refl (next refl none)))

  -- ---- what the locations lead to
  abbrev start : List ℕ
  start = joined before_mdat ++ box_header MDAT (length (item_data (item_bytes i s)))

  file_splits : f ≡ start ++ (item_data (item_bytes i s) ++ [])
  unfolding boxed
  file_splits = file_is ∙ simp append_assoc

  start_length : length start ≡ base
  start_length =
      let n = length (item_data (item_bytes i s)) in
      omega (arith, length-append (joined before_mdat) (box_header MDAT n), length-box_header MDAT n, length_before)

  locations_are : locations (length start) (lengths_of (item_bytes i s)) ≡ locations_in f
  locations_are = rw (start_length, lengths_are i s (data_placed i s x.placed), locations_found)

  all_lead : Every (Leads (item_bytes i s) f) (locations_in f)
  all_lead = rw (← locations_are, file_splits) (locations_lead (item_bytes i s) start [])

  once_each : (id : ℕ) → length (locations_of id (locations_in f)) ≡ cond (eqb (length (own (item_bytes i s) id)) 0) 0 1
  once_each id = rw (← locations_are) (locations_once (item_bytes i s) (length start) id)

  held_once : (p : ℕ) → holders p (locations_in f) ≡ one (lies p (content_in f).payload_start (content_in f).payload_len)
  held_once p = rw (locations_found, content_place, content_length) (locations_hold base (data_lengths i) p)

  content_ends : (content_in f).payload_start + (content_in f).payload_len ≡ length f
  content_ends = omega (arith, content_place, content_length, length_file i s brands x major minor)

-- ---- every record that expands, with any major brand and minor number
pub every_byte : (i : MinimizedImage) (s : List ℕ) (major minor : ℕ) (brands : List ℕ) → refusal_of i s brands ≡ 0
    → EveryByte (item_bytes i s) (file i s major minor brands)
every_byte i s major minor brands e =
    let x = expands i s brands e in
    record {
      entries = iloc_found i s major minor brands x ∙ rw (locations_found i s major minor brands x);
      leads = all_lead i s major minor brands x;
      once = once_each i s major minor brands x;
      held = held_once i s major minor brands x;
      content = content_is i s major minor brands x;
      ends = content_ends i s major minor brands x;
    }
