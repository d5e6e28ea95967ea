-- Two records are the same exactly if they are so apart from what `Alike` names, and in each of that; and the normal form changes nothing else.
use Rattle.std.specs.Prelude.{◌≡◌, refl, Bool, true, false, cond, List, [], ◌∷◌, ℕ, get_or, Option, Some, None, is_some}
use Rattle.std.proofs.Common.{sym, ap, ◌∙◌}
use Rattle.mini.specs.Cicp.{table_cicp}
use Rattle.mini.specs.Same.{span_bytes, unplaced_chunk, unplaced, chunks_of, Same}
use Rattle.mini.specs.declared.CodecTypes.{CodecTypes}
use Rattle.mini.specs.declared.MinimizedImage.{MinimizedImage}
use Rattle.octets.specs.declared.Span.{Span}
use Rattle.normal_form.specs.Alike.{rest_of, SameChunk, own_fields}
use Rattle.normal_form.specs.NormalForm.{needs_hdr, with_own, plain_own, lacks_data, writes_config, without_config_type, normal}
use Rattle.normal_form.proofs.SameLaws.{there}

-- what `Alike` names, the same in both
pub record SameNamed (i : MinimizedImage) (s : List ℕ) (k : MinimizedImage) (t : List ℕ) : Type 0 where
  pub cicp : i.explicit_cicp ≡ k.explicit_cicp
  pub hdr : i.hdr ≡ k.hdr
  pub alpha_config : SameChunk i.alpha_codec_config s k.alpha_codec_config t
  pub gain_map_config : SameChunk i.gain_map.codec_config s k.gain_map.codec_config t
  pub tone : i.gain_map.tmap_cicp ≡ k.gain_map.tmap_cicp
  pub gain_map : own_fields i.gain_map ≡ own_fields k.gain_map
  pub types : i.explicit_codec_types ≡ k.explicit_codec_types

-- ---- taken apart and put together
module _ (i : MinimizedImage) (s : List ℕ) (k : MinimizedImage) (t : List ℕ) where
  pub named_of : Same i s k t → SameNamed i s k t
  unfolding unplaced chunks_of
  named_of h =
      let e = h.fields in
      record {
        cicp = λ j. (e j).explicit_cicp;
        hdr = λ j. (e j).hdr;
        alpha_config = record { field = λ j. (e j).alpha_codec_config; bytes = λ j. get_or (h.chunks j) 1 [] };
        gain_map_config = record { field = λ j. (e j).gain_map.codec_config; bytes = λ j. get_or (h.chunks j) 2 [] };
        tone = λ j. (e j).gain_map.tmap_cicp;
        gain_map = λ j. own_fields (e j).gain_map;
        types = λ j. (e j).explicit_codec_types;
      }

  pub rest_same : Same i s k t → Same (rest_of i) s (rest_of k) t
  unfolding unplaced chunks_of
  rest_same h =
      record {
        fields = ap rest_of h.fields;
        chunks =
            λ j.
            let b : ℕ → List ℕ = λ n. get_or (h.chunks j) n [] in
            b 0 ∷ [] ∷ [] ∷ b 3 ∷ b 4 ∷ b 5 ∷ b 6 ∷ b 7 ∷ b 8 ∷ b 9 ∷ b 10 ∷ [];
      }

  pub same_of : Same (rest_of i) s (rest_of k) t → SameNamed i s k t → Same i s k t
  unfolding unplaced chunks_of
  same_of h n =
      record {
        fields =
            λ j.
            record (h.fields j) {
              explicit_cicp = n.cicp j;
              hdr = n.hdr j;
              alpha_codec_config = n.alpha_config.field j;
              gain_map = record (with_own (h.fields j).gain_map (n.gain_map j)) { codec_config = n.gain_map_config.field j; tmap_cicp = n.tone j };
              explicit_codec_types = n.types j;
            };
        chunks =
            λ j.
            let b : ℕ → List ℕ = λ n. get_or (h.chunks j) n [] in
            b 0 ∷ n.alpha_config.bytes j ∷ n.gain_map_config.bytes j ∷ b 3 ∷ b 4 ∷ b 5 ∷ b 6 ∷ b 7 ∷ b 8 ∷ b 9 ∷ b 10 ∷ [];
      }

-- ---- the normal form leaves the rest
without_again : (w : Bool) (c : Option CodecTypes) → without_config_type (cond w c (without_config_type c)) ≡ without_config_type c
without_again true c = refl
without_again false None = refl
without_again false (Some c) = refl

pub rest_kept : (i : MinimizedImage) (s : List ℕ) → rest_of (normal i s) ≡ rest_of i
unfolding normal
rest_kept i s =
    let e = without_again (writes_config i) i.explicit_codec_types in
    λ j. record (rest_of i) { explicit_codec_types = e j }

-- ---- what records have in common that are the same apart from what is named
module _ (i : MinimizedImage) (s : List ℕ) (k : MinimizedImage) (t : List ℕ) (h : Same (rest_of i) s (rest_of k) t) where
  same_there : (c d : Option Span) → unplaced_chunk c ≡ unplaced_chunk d → is_some c ≡ is_some d
  same_there c d e = sym (there c) ∙ ap is_some e ∙ there d

  pub same_table : table_cicp (is_some i.icc) i.chroma.subsampling ≡ table_cicp (is_some k.icc) k.chroma.subsampling
  unfolding unplaced
  same_table =
      let icc = same_there i.icc k.icc (λ j. (h.fields j).icc) in
      λ j. table_cicp (icc j) (h.fields j).chroma.subsampling

  pub same_need : needs_hdr i ≡ needs_hdr k
  unfolding unplaced
  same_need = λ j. needs_hdr (h.fields j)

  pub same_profile : is_some i.gain_map.tmap_icc ≡ is_some k.gain_map.tmap_icc
  unfolding unplaced
  same_profile = same_there i.gain_map.tmap_icc k.gain_map.tmap_icc (λ j. (h.fields j).gain_map.tmap_icc)

  pub same_lack : lacks_data i ≡ lacks_data k
  unfolding unplaced
  same_lack = λ j. lacks_data (h.fields j)

  pub same_plain : plain_own i.width i.height ≡ plain_own k.width k.height
  unfolding unplaced
  same_plain = λ j. plain_own (h.fields j).width (h.fields j).height

  pub same_types : without_config_type i.explicit_codec_types ≡ without_config_type k.explicit_codec_types
  unfolding unplaced
  same_types = λ j. (h.fields j).explicit_codec_types

  pub same_main_len : i.main_codec_config.len ≡ k.main_codec_config.len
  unfolding unplaced
  same_main_len = λ j. (h.fields j).main_codec_config.len

  pub same_main : span_bytes i.main_codec_config s ≡ span_bytes k.main_codec_config t
  unfolding chunks_of
  same_main = λ j. get_or (h.chunks j) 0 []
