-- What a file carries depends on the record, positions aside, and on its chunks' bytes: records that are the same carry the same.
use Rattle.std.specs.Prelude.{◌≡◌, refl, Bool, not, cond, ◌||◌, List, [], ◌∷◌, ◌++◌, ℕ, ltb, replicate, get_or, Option, Some, None, is_some, unwrap_or}
use Rattle.std.proofs.Common.{sym, ap₂, ◌∙◌}
use Rattle.items.specs.Optional.{bytes_if}
use Rattle.mini.specs.Cicp.{table_cicp}
use Rattle.mini.specs.Same.{chunk_bytes, span_bytes, unplaced_chunk, unplaced_span, unplaced, chunks_of, Same}
use Rattle.mini.specs.declared.MinimizedImage.{MinimizedImage}
use Rattle.octets.specs.declared.Span.{Span}
use Rattle.properties.specs.Pixi.{channels_of, alpha_channels, pixi}
use Rattle.properties.specs.Property.{ispe, nclx, prof, codec_config, aux_c}
use Rattle.slots.specs.Slots.{Slot, none, some, only_if, if_there, has_alpha_item, has_gain_map_item, config_type, config_or, tmap_nclx, shown_ispe, main_slots, alpha_slots, orientation_slots, hdr_slots, gain_map_slots, tmap_slots, picture_slots, tone_map_slots, slots}
use Rattle.expander.specs.EquivalentFile.{item_set, item_bytes}
use Rattle.carried.specs.Carried.{Carried, carried}

-- whether a chunk is there
pub there : (c : Option Span) → is_some (unplaced_chunk c) ≡ is_some c
there None = refl
there (Some x) = refl

-- the configuration of alpha or gain map: how long it is, and its bytes
pub or_len : (c : Option Span) (m : Span) → (config_or (unplaced_chunk c) (unplaced_span m)).len ≡ (config_or c m).len
or_len None m = refl
or_len (Some x) m = refl

or_bytes : (c : Option Span) (m : Span) (s : List ℕ) → cond (is_some (unplaced_chunk c)) (chunk_bytes c s) (span_bytes m s) ≡ span_bytes (config_or c m) s
or_bytes None m s = refl
or_bytes (Some x) m s = refl

abbrev nth : ℕ → List (List ℕ) → List ℕ
nth n chunks = get_or chunks n []

-- ---- what is carried, from the record without positions and its chunks in stored order; what a chunk decides is told apart
record Decided : Type 0 where
  icc : Bool
  tmap_icc : Bool
  exif : Bool
  xmp : Bool
  alpha_len : ℕ
  alpha : List ℕ
  gain_map_len : ℕ
  gain_map : List ℕ

carried_with : MinimizedImage → List (List ℕ) → Decided → Carried
carried_with u chunks d =
    let g = u.gain_map in
    let config : ℕ → List ℕ → Slot = λ len bytes. only_if (ltb 0 len) (codec_config (config_type u.explicit_codec_types) bytes) in
    let c = unwrap_or u.explicit_cicp (table_cicp d.icc u.chroma.subsampling) in
    record {
      items = record (item_set u) { exif = d.exif; xmp = d.xmp };
      slots =
          ((config u.main_codec_config.len (nth 0 chunks)
          ∷ some (ispe u.width u.height)
          ∷ some (pixi u.format (channels_of u.chroma))
          ∷ some (nclx c.primaries c.transfer c.matrix u.full_range)
          ∷ only_if d.icc (prof (nth 3 chunks))
          ∷ [])
          ++ if_there (has_alpha_item u) (config d.alpha_len d.alpha ∷ some aux_c ∷ some (pixi u.format alpha_channels) ∷ [])
          ++ orientation_slots u
          ++ hdr_slots u.hdr_boxes)
          ++ (if_there (has_gain_map_item u)
          (config d.gain_map_len d.gain_map
          ∷ some (ispe g.width g.height)
          ∷ some (pixi g.format (channels_of g.chroma))
          ∷ some (nclx 2 2 g.matrix_coefficients g.full_range)
          ∷ [])
          ++ if_there u.has_gain_map
          (some (shown_ispe u) ∷ only_if (is_some g.tmap_cicp || not d.tmap_icc) (tmap_nclx g.tmap_cicp) ∷ only_if d.tmap_icc (prof (nth 4 chunks)) ∷ [])
          ++ if_there u.has_gain_map (hdr_slots g.tmap_hdr)
          ++ replicate 3 none);
      bytes =
          record {
            alpha = nth 6 chunks;
            tone_map = bytes_if u.has_gain_map ((0 ∷ []) ++ nth 5 chunks);
            gain_map = bytes_if u.has_gain_map (nth 7 chunks);
            main = nth 8 chunks;
            exif = nth 9 chunks;
            xmp = nth 10 chunks;
          };
    }

decided : MinimizedImage → List (List ℕ) → Decided
decided u chunks =
    let g = u.gain_map in
    let m = u.main_codec_config in
    record {
      icc = is_some u.icc;
      tmap_icc = is_some g.tmap_icc;
      exif = is_some u.exif;
      xmp = is_some u.xmp;
      alpha_len = (config_or u.alpha_codec_config m).len;
      alpha = cond (is_some u.alpha_codec_config) (nth 1 chunks) (nth 0 chunks);
      gain_map_len = (config_or g.codec_config m).len;
      gain_map = cond (is_some g.codec_config) (nth 2 chunks) (nth 0 chunks);
    }

carried_from : (i : MinimizedImage) (s : List ℕ) → carried_with (unplaced i) (chunks_of i s) (decided (unplaced i) (chunks_of i s)) ≡ carried i s
unfolding carried_with decided unplaced chunks_of carried item_set item_bytes slots picture_slots tone_map_slots main_slots alpha_slots orientation_slots gain_map_slots tmap_slots
carried_from i s =
    let g = i.gain_map in
    let m = i.main_codec_config in
    let d : (c : Option Span) → is_some (unplaced_chunk c) ≡ is_some c = there in
    let al = or_len i.alpha_codec_config m in
    let ab = or_bytes i.alpha_codec_config m s in
    let gl = or_len g.codec_config m in
    let gb = or_bytes g.codec_config m s in
    λ j. carried_with (unplaced i) (chunks_of i s)
    (record {
      icc = d i.icc j;
      tmap_icc = d g.tmap_icc j;
      exif = d i.exif j;
      xmp = d i.xmp j;
      alpha_len = al j;
      alpha = ab j;
      gain_map_len = gl j;
      gain_map = gb j;
    })

pub carried_same : (i : MinimizedImage) (s : List ℕ) (k : MinimizedImage) (t : List ℕ) → Same i s k t → carried i s ≡ carried k t
carried_same i s k t same =
    sym (carried_from i s)
    ∙ ap₂ (λ (u : MinimizedImage) (chunks : List (List ℕ)). carried_with u chunks (decided u chunks)) same.fields same.chunks
    ∙ carried_from k t
