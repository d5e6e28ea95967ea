-- The item of `Alike` on the configuration of alpha or of the gain map: the short forms of two are the same exactly if the item holds.
use Rattle.std.specs.Prelude.{◌≡◌, refl, Bool, true, false, cond, ◌⊎◌, List, ℕ, T, Option, Some, None, is_some}
use Rattle.std.proofs.Common.{sym, ap, ap₂, ◌∙◌, true≢false, inl, inr, arith, ltb→lt}
use Rattle.std.proofs.lemmas.Bool.{false≢true}
use Rattle.bits.specs.Format.{is_list, list_is}
use Rattle.mini.specs.Same.{chunk_bytes, span_bytes, unplaced_chunk}
use Rattle.mini.specs.Write.{not_empty}
use Rattle.mini.specs.RecordHeader.{T_true}
use Rattle.octets.specs.declared.Span.{Span}
use Rattle.slots.specs.Sound.{SpanPlaced, ChunkPlaced}
use Rattle.normal_form.specs.Alike.{SameChunk, LikeMain}
use Rattle.normal_form.specs.NormalForm.{short_config}
use Rattle.normal_form.proofs.ShortForms.{lists_equal, same_long}

some≢none : {A : Type 0} (x : A) → Some x ≡ None → ⊥
some≢none x e = true≢false (ap is_some e)

-- ---- a configuration of alpha or gain map
equal_lists : (l m : List ℕ) → l ≡ m → is_list l m ≡ true
equal_lists l m e = T_true (is_list l m) ((list_is m l).1 e)

like_short : (c : Option Span) (main : Span) (s : List ℕ) → LikeMain c main s → short_config c main s ≡ None
like_short None main s h = refl
like_short (Some x) main s (n, inl e) = absurd (some≢none x e)
like_short (Some x) main s (n, inr e) = ap (λ (b : Bool). cond b None (Some x)) (equal_lists (span_bytes x s) (span_bytes main s) e)

-- one that is made short, or one that stays
short_which : (c : Option Span) (main : Span) (s : List ℕ) → T (not_empty c) → ChunkPlaced c s → SpanPlaced main s
    → ((short_config c main s ≡ None) × LikeMain c main s) ⊎ (short_config c main s ≡ c)
short_which None main s h p q = inr refl
short_which (Some x) main s h p q = go (is_list (span_bytes x s) (span_bytes main s)) refl
  where
    go : (b : Bool) → is_list (span_bytes x s) (span_bytes main s) ≡ b
        → ((cond b None (Some x) ≡ None) × LikeMain (Some x) main s) ⊎ (cond b None (Some x) ≡ Some x)
    go true e =
        inl (refl, (omega (arith, ltb→lt 0 x.len h, same_long x main s p q e), inr (lists_equal (span_bytes x s) (span_bytes main s) e)))
    go false e = inr refl

-- the same chunk is made short at once
same_short : (c : Option Span) (m : Span) (s : List ℕ) (d : Option Span) (n : Span) (t : List ℕ) → span_bytes m s ≡ span_bytes n t → SameChunk c s d t
    → SameChunk (short_config c m s) s (short_config d n t) t
same_short None m s None n t main h = h
same_short None m s (Some y) n t main h = absurd (some≢none _ (sym h.field))
same_short (Some x) m s None n t main h = absurd (some≢none _ h.field)
same_short (Some x) m s (Some y) n t main h = go (is_list (span_bytes x s) (span_bytes m s)) (is_list (span_bytes y t) (span_bytes n t)) (ap₂ is_list h.bytes main)
  where
    go : (b e : Bool) → b ≡ e → SameChunk (cond b None (Some x)) s (cond e None (Some y)) t
    go true true q = record { field = refl; bytes = refl }
    go true false q = absurd (true≢false q)
    go false true q = absurd (false≢true q)
    go false false q = h

module _ (c : Option Span) (m : Span) (s : List ℕ) (d : Option Span) (n : Span) (t : List ℕ) (main : span_bytes m s ≡ span_bytes n t) where
  pub config_forth : SameChunk c s d t ⊎ (LikeMain c m s × LikeMain d n t) → SameChunk (short_config c m s) s (short_config d n t) t
  config_forth (inl h) = same_short c m s d n t main h
  config_forth (inr h) =
      let a = like_short c m s h.0 in
      let b = like_short d n t h.1 in
      record { field = ap unplaced_chunk (a ∙ sym b); bytes = ap (λ (x : Option Span). chunk_bytes x s) a ∙ sym (ap (λ (x : Option Span). chunk_bytes x t) b) }

  module _ (hc : T (not_empty c)) (pc : ChunkPlaced c s) (pm : SpanPlaced m s) (hd : T (not_empty d)) (pd : ChunkPlaced d t) (pn : SpanPlaced n t)
      (len : m.len ≡ n.len) where
    pub config_back : SameChunk (short_config c m s) s (short_config d n t) t → SameChunk c s d t ⊎ (LikeMain c m s × LikeMain d n t)
    config_back h = go (short_which c m s hc pc pm) (short_which d n t hd pd pn)
      where
        absent : (x : Option Span) → unplaced_chunk x ≡ None → x ≡ None
        absent None e = refl
        absent (Some x) e = absurd (some≢none _ e)

        go : ((short_config c m s ≡ None) × LikeMain c m s) ⊎ (short_config c m s ≡ c) → ((short_config d n t ≡ None) × LikeMain d n t) ⊎ (short_config d n t ≡ d)
            → SameChunk c s d t ⊎ (LikeMain c m s × LikeMain d n t)
        go (inl a) (inl b) = inr (a.1, b.1)
        go (inl a) (inr b) =
            inr (a.1, (omega (arith, a.1.0, len), inl (absent d (ap unplaced_chunk (sym b) ∙ sym h.field ∙ ap unplaced_chunk a.0))))
        go (inr a) (inl b) =
            inr ((omega (arith, b.1.0, len), inl (absent c (ap unplaced_chunk (sym a) ∙ h.field ∙ ap unplaced_chunk b.0))), b.1)
        go (inr a) (inr b) =
            inl
            (record {
              field = ap unplaced_chunk (sym a) ∙ h.field ∙ ap unplaced_chunk b;
              bytes = ap (λ (x : Option Span). chunk_bytes x s) (sym a) ∙ h.bytes ∙ ap (λ (x : Option Span). chunk_bytes x t) b;
            })
