-- The narrowest choices of width: a record that some choices print is printed by the narrowest too, and any other choices cost nine
-- bits more at least. Assumes nothing.
use Rattle.std.specs.Prelude.{◌≡◌, Bool, false, ◌&&◌, ◌||◌, ℕ, ◌+◌, ◌-◌, ◌*◌, ◌^◌, ◌≤◌, ◌<◌, eqb, length, is_some}
use Rattle.std.proofs.Math.Path.{refl}
use Rattle.std.proofs.Common.{sym, ◌∙◌, subst, true≢false, lt_of_lt_of_le, mul-add, arith, lit≤, pow_mono, pow_pos, length-append, ltb-false, le-ltb, eq-eqb, eqb-true}
use Rattle.std.proofs.Math.Bool.{true}
use Rattle.std.proofs.lemmas.Bool.{false≢true}
use Rattle.std.proofs.Math.Dec.{ltb}
use Rattle.bits.specs.Format.{◌>>=◌, field_if, minus1_if, flag_if, sized, view}
use Rattle.bits.specs.Bit.{to_n, length-bits_n}
use Rattle.mini.specs.Syntax.{header, dimensions, chroma, tmap_cicp, gain_map_header, gain_map_dimension, gain_map_format, chunk_sizes}
use Rattle.mini.specs.RecordHeader.{parts, whole}
use Rattle.mini.specs.Same.{chunk_len}
use Rattle.mini.specs.Views.{is_float}
use Rattle.mini.specs.Write.{Choices, least, header_with}
use Rattle.mini.specs.declared.MinimizedImage.{MinimizedImage}
use Rattle.mini.specs.OptionalFields.{or_none, flag_good, flag_if_good, gain_more, flag_if-off}

none_or : (a b : Bool) → a ≡ false → b ≡ false → (a || b) ≡ false
none_or true b e f = e
none_or false b e f = f

-- ---- a number that fits one width fits another
fit : (a b : ℕ) (w n : Bool) (v : ℕ) → b ≤ a → v < 2 ^ sized w a b → (n ≡ false → v < 2 ^ b) → v < 2 ^ sized n a b
fit a b w false v h k e = e refl
fit a b true true v h k e = k
fit a b false true v h k e = lt_of_lt_of_le k (pow_mono h)

field_fit : (t : Bool) (a b : ℕ) (w n : Bool) (v : ℕ) → b ≤ a → (field_if t (sized w a b)).Good v → (n ≡ false → v < 2 ^ b)
    → (field_if t (sized n a b)).Good v
field_fit true a b w n v h k e = fit a b w n v h k e
field_fit false a b w n v h k e = k

more_fit : (t : Bool) (a b : ℕ) (w n : Bool) (v : ℕ) → b ≤ a → (minus1_if t (sized w a b)).Good v → (n ≡ false → v - 1 < 2 ^ b)
    → (minus1_if t (sized n a b)).Good v
unfolding view
more_fit true a b w n v h k e = (fit a b w n (v - 1) h k.0 e, k.1)
more_fit false a b w n v h k e = k

-- ---- where the wide form is not taken, the number is small
small_field : (t : Bool) (a b : ℕ) (w : Bool) (v : ℕ) → (field_if t (sized w a b)).Good v → w ≡ false → ltb (2 ^ b - 1) v ≡ false
small_field t a b true v k e = absurd (true≢false e)
small_field true a b false v k e = le-ltb (2 ^ b - 1) v (omega arith)
small_field false a b false v k e = le-ltb (2 ^ b - 1) v (omega arith)

small_more : (t : Bool) (a b : ℕ) (w : Bool) (v : ℕ) → (minus1_if t (sized w a b)).Good v → w ≡ false → ltb (2 ^ b) v ≡ false
unfolding view
small_more t a b true v k e = absurd (true≢false e)
small_more true a b false v k e = le-ltb (2 ^ b) v (omega (arith, k.0, k.1))
small_more false a b false v k e = le-ltb (2 ^ b) v (omega arith)

at_most_field : (b v : ℕ) → ltb (2 ^ b - 1) v ≡ false → v < 2 ^ b
at_most_field b v e = omega (arith, ltb-false (2 ^ b - 1) v e, pow_pos b)

at_most_more : (b v : ℕ) → ltb (2 ^ b) v ≡ false → v - 1 < 2 ^ b
at_most_more b v e = omega (arith, ltb-false (2 ^ b) v e, pow_pos b)

gain_fit : (has n large : Bool) (main v : ℕ) → (n ≡ true → v ≡ main) → (minus1_if has (sized large 15 7)).Good v → (gain_map_dimension has n large main).Good v
unfolding gain_map_dimension ◌>>=◌ view
gain_fit true true large main v e g = e refl
gain_fit true false large main v e g = g
gain_fit false n large main v e g = g

same_dim : (has large : Bool) (main v : ℕ) → has ≡ true → (gain_map_dimension has true large main).Good v → v ≡ main
unfolding gain_map_dimension ◌>>=◌ view
same_dim true large main v e g = g
same_dim false large main v e g = absurd (false≢true e)

-- ---- what a narrow choice of `least` says of the numbers
large_small : (i : MinimizedImage) → (least i).large ≡ false
    → (i.width - 1 < 2 ^ 7) × (i.height - 1 < 2 ^ 7) × (i.gain_map.width - 1 < 2 ^ 7) × (i.gain_map.height - 1 < 2 ^ 7)
unfolding least
large_small i e =
    let a = or_none _ _ e in
    let b = or_none _ _ a.1 in
    let d = or_none _ _ b.1 in
    (at_most_more 7 _ a.0, at_most_more 7 _ b.0, at_most_more 7 _ d.0, at_most_more 7 _ d.1)

metadata_small : (i : MinimizedImage) → (least i).metadata ≡ false
    → (chunk_len i.icc - 1 < 2 ^ 10) × (chunk_len i.gain_map.tmap_icc - 1 < 2 ^ 10) × (i.gain_map.metadata.len < 2 ^ 10)
    × (chunk_len i.exif - 1 < 2 ^ 10) × (chunk_len i.xmp - 1 < 2 ^ 10)
unfolding least
metadata_small i e =
    let a = or_none _ _ e in
    let b = or_none _ _ a.1 in
    let d = or_none _ _ b.1 in
    let f = or_none _ _ d.1 in
    (at_most_more 10 _ a.0, at_most_more 10 _ b.0, at_most_field 10 _ d.0, at_most_more 10 _ f.0, at_most_more 10 _ f.1)

config_small : (i : MinimizedImage) → (least i).config ≡ false
    → (i.main_codec_config.len < 2 ^ 3) × (chunk_len i.alpha_codec_config < 2 ^ 3) × (chunk_len i.gain_map.codec_config < 2 ^ 3)
unfolding least
config_small i e =
    let a = or_none _ _ e in
    let b = or_none _ _ a.1 in
    (at_most_field 3 _ a.0, at_most_field 3 _ b.0, at_most_field 3 _ b.1)

item_small : (i : MinimizedImage) → (least i).item ≡ false
    → (i.main_data.len - 1 < 2 ^ 15) × (i.alpha_data.len < 2 ^ 15) × (i.gain_map.«data».len < 2 ^ 15)
unfolding least
item_small i e =
    let a = or_none _ _ e in
    let b = or_none _ _ a.1 in
    (at_most_more 15 _ a.0, at_most_field 15 _ b.0, at_most_field 15 _ b.1)

both_true : (a b : Bool) → a ≡ true → b ≡ true → (a && b) ≡ true
both_true true b e f = f
both_true false b e f = e

true_both : (a b : Bool) → (a && b) ≡ true → (a ≡ true) × (b ≡ true)
true_both true b e = (refl, e)
true_both false b e = absurd (false≢true e)

false-and : (a b : Bool) → a ≡ false → (a && b) ≡ false
false-and true b e = absurd (true≢false e)
false-and false b e = refl

same_off : (i : MinimizedImage) → i.has_gain_map ≡ false → (least i).same ≡ false
unfolding least
same_off i e = false-and _ _ e

same_dims : (i : MinimizedImage) → (least i).same ≡ true → (i.gain_map.width ≡ i.width) × (i.gain_map.height ≡ i.height)
unfolding least
same_dims i e =
    let a = true_both i.has_gain_map _ e in
    let b = true_both (eqb i.gain_map.width i.width) _ a.1 in
    (eqb-true _ _ b.0, eqb-true _ _ b.1)

-- ---- the facts
module _ (i : MinimizedImage) (c : Choices) (good : header.Good (header_with i c)) where
  wide_large : c.large ≡ false → (least i).large ≡ false
  unfolding header_with least dimensions gain_map_header ◌>>=◌ view
  wide_large e =
      let g = parts (header_with i c) good in
      let w = g.dimensions_ok.0.1.0 in
      let h = g.dimensions_ok.0.1.1 in
      none_or _ _ (small_more true 15 7 c.large i.width w e)
      (none_or _ _ (small_more true 15 7 c.large i.height h e)
      (none_or _ _ (small_more i.has_gain_map 15 7 c.large i.gain_map.width (gain_more i.has_gain_map c.same c.large i.width i.gain_map.width g.gain_map_ok.0.1.1.0 w) e)
      (small_more i.has_gain_map 15 7 c.large i.gain_map.height (gain_more i.has_gain_map c.same c.large i.height i.gain_map.height g.gain_map_ok.0.1.1.1.0 h) e)))

  wide_metadata : c.metadata ≡ false → (least i).metadata ≡ false
  unfolding header_with least chunk_sizes ◌>>=◌ view
  wide_metadata e =
      let g = parts (header_with i c) good in
      none_or _ _ (small_more (is_some i.icc) 20 10 c.metadata _ g.sizes_ok.0.1.1.1.0 e)
      (none_or _ _ (small_more (i.has_gain_map && is_some i.gain_map.tmap_icc) 20 10 c.metadata _ g.sizes_ok.0.1.1.1.1.0 e)
      (none_or _ _ (small_field i.has_gain_map 20 10 c.metadata _ g.sizes_ok.0.1.1.1.1.1.0 e)
      (none_or _ _ (small_more (is_some i.exif) 20 10 c.metadata _ g.sizes_ok.0.1.1.1.1.1.1.1.1.1.1.1.1.1.0 e)
      (small_more (is_some i.xmp) 20 10 c.metadata _ g.sizes_ok.0.1.1.1.1.1.1.1.1.1.1.1.1.1.1 e))))

  wide_config : c.config ≡ false → (least i).config ≡ false
  unfolding header_with least chunk_sizes ◌>>=◌ view
  wide_config e =
      let g = parts (header_with i c) good in
      none_or _ _ (small_field true 12 3 c.config _ g.sizes_ok.0.1.1.1.1.1.1.1.1.0 e)
      (none_or _ _ (small_field (i.alpha && ltb 0 i.alpha_data.len) 12 3 c.config _ g.sizes_ok.0.1.1.1.1.1.1.1.1.1.1.1.0 e)
      (small_field (i.has_gain_map && ltb 0 i.gain_map.«data».len) 12 3 c.config _ g.sizes_ok.0.1.1.1.1.1.1.1.0 e))

  wide_item : c.item ≡ false → (least i).item ≡ false
  unfolding header_with least chunk_sizes ◌>>=◌ view
  wide_item e =
      let g = parts (header_with i c) good in
      none_or _ _ (small_more true 28 15 c.item _ g.sizes_ok.0.1.1.1.1.1.1.1.1.1.0 e)
      (none_or _ _ (small_field i.alpha 28 15 c.item _ g.sizes_ok.0.1.1.1.1.1.1.1.1.1.1.0 e)
      (small_field i.has_gain_map 28 15 c.item _ g.sizes_ok.0.1.1.1.1.1.1.0 e))

  wide_same : i.has_gain_map ≡ true → c.same ≡ true → (least i).same ≡ true
  unfolding header_with least gain_map_header ◌>>=◌ view
  wide_same e f =
      let g = parts (header_with i c) good in
      let w = same_dim i.has_gain_map c.large i.width i.gain_map.width e
      (subst (λ (t : Bool). (gain_map_dimension i.has_gain_map t c.large i.width).Good i.gain_map.width) f g.gain_map_ok.0.1.1.0) in
      let h = same_dim i.has_gain_map c.large i.height i.gain_map.height e
      (subst (λ (t : Bool). (gain_map_dimension i.has_gain_map t c.large i.height).Good i.gain_map.height) f g.gain_map_ok.0.1.1.1.0) in
      both_true _ _ e (both_true _ _ (eq-eqb _ _ w) (eq-eqb _ _ h))

  off_same : i.has_gain_map ≡ false → c.same ≡ false
  unfolding header_with gain_map_header ◌>>=◌ view
  off_same e =
      let g = parts (header_with i c) good in
      flag_if-off i.has_gain_map c.same g.gain_map_ok.0.1.0 e

  off_metadata : (is_some i.icc || is_some i.exif || is_some i.xmp || i.has_gain_map) ≡ false → c.metadata ≡ false
  unfolding header_with chunk_sizes ◌>>=◌ view
  off_metadata e =
      let g = parts (header_with i c) good in
      flag_if-off _ c.metadata g.sizes_ok.0.0 e

  -- ---- the narrowest choices print the record too
  pub least_good : header.Good (header_with i (least i))
  unfolding header_with dimensions gain_map_header chunk_sizes ◌>>=◌ view
  least_good =
      let g = parts (header_with i c) good in
      let d = least i in
      let w = g.dimensions_ok.0.1.0 in
      let h = g.dimensions_ok.0.1.1 in
      let has = i.has_gain_map in
      let gw = gain_more has c.same c.large i.width i.gain_map.width g.gain_map_ok.0.1.1.0 w in
      let gh = gain_more has c.same c.large i.height i.gain_map.height g.gain_map_ok.0.1.1.1.0 h in
      let nl = large_small i in
      let nm = metadata_small i in
      let nc = config_small i in
      let ni = item_small i in
      whole (header_with i d)
      (record {
        flags_ok = g.flags_ok;
        dimensions_ok = (
          (
            flag_good d.large,
            (
              more_fit true 15 7 c.large d.large i.width (lit≤ tt) w (λ e. (nl e).0),
              more_fit true 15 7 c.large d.large i.height (lit≤ tt) h (λ e. (nl e).1),
            ),
          ),
          refl,
        );
        main_ok = g.main_ok;
        gain_map_ok = (
          (
            g.gain_map_ok.0.0,
            (
              flag_if_good has d.same (same_off i),
              (
                gain_fit has d.same d.large i.width i.gain_map.width (λ e. (same_dims i e).0) (more_fit has 15 7 c.large d.large i.gain_map.width (lit≤ tt) gw (λ e. (nl e).2)),
                (
                  gain_fit has d.same d.large i.height i.gain_map.height (λ e. (same_dims i e).1) (more_fit has 15 7 c.large d.large i.gain_map.height (lit≤ tt) gh (λ e. (nl e).3)),
                  (
                    g.gain_map_ok.0.1.1.1.1.0,
                    (g.gain_map_ok.0.1.1.1.1.1.0, (g.gain_map_ok.0.1.1.1.1.1.1.0, (g.gain_map_ok.0.1.1.1.1.1.1.1.0, (g.gain_map_ok.0.1.1.1.1.1.1.1.1.0, (g.gain_map_ok.0.1.1.1.1.1.1.1.1.1.0, (g.gain_map_ok.0.1.1.1.1.1.1.1.1.1.1.0, (g.gain_map_ok.0.1.1.1.1.1.1.1.1.1.1.1.0, g.gain_map_ok.0.1.1.1.1.1.1.1.1.1.1.1.1))))))),
                  ),
                ),
              ),
            ),
          ),
          refl,
        );
        hdr_ok = g.hdr_ok;
        tmap_hdr_ok = g.tmap_hdr_ok;
        sizes_ok = (
          (
            flag_if_good _ d.metadata (λ e. wide_metadata (off_metadata e)),
            (
              flag_good d.config,
              (
                flag_good d.item,
                (
                  more_fit (is_some i.icc) 20 10 c.metadata d.metadata _ (lit≤ tt) g.sizes_ok.0.1.1.1.0 (λ e. (nm e).0),
                  (
                    more_fit (has && is_some i.gain_map.tmap_icc) 20 10 c.metadata d.metadata _ (lit≤ tt) g.sizes_ok.0.1.1.1.1.0 (λ e. (nm e).1),
                    (
                      field_fit has 20 10 c.metadata d.metadata _ (lit≤ tt) g.sizes_ok.0.1.1.1.1.1.0 (λ e. (nm e).2),
                      (
                        field_fit has 28 15 c.item d.item _ (lit≤ tt) g.sizes_ok.0.1.1.1.1.1.1.0 (λ e. (ni e).2),
                        (
                          field_fit (has && ltb 0 i.gain_map.«data».len) 12 3 c.config d.config _ (lit≤ tt) g.sizes_ok.0.1.1.1.1.1.1.1.0 (λ e. (nc e).2),
                          (
                            field_fit true 12 3 c.config d.config _ (lit≤ tt) g.sizes_ok.0.1.1.1.1.1.1.1.1.0 (λ e. (nc e).0),
                            (
                              more_fit true 28 15 c.item d.item _ (lit≤ tt) g.sizes_ok.0.1.1.1.1.1.1.1.1.1.0 (λ e. (ni e).0),
                              (
                                field_fit i.alpha 28 15 c.item d.item _ (lit≤ tt) g.sizes_ok.0.1.1.1.1.1.1.1.1.1.1.0 (λ e. (ni e).1),
                                (
                                  field_fit (i.alpha && ltb 0 i.alpha_data.len) 12 3 c.config d.config _ (lit≤ tt) g.sizes_ok.0.1.1.1.1.1.1.1.1.1.1.1.0 (λ e. (nc e).1),
                                  (
                                    g.sizes_ok.0.1.1.1.1.1.1.1.1.1.1.1.1.0,
                                    (
                                      more_fit (is_some i.exif) 20 10 c.metadata d.metadata _ (lit≤ tt) g.sizes_ok.0.1.1.1.1.1.1.1.1.1.1.1.1.1.0 (λ e. (nm e).3),
                                      more_fit (is_some i.xmp) 20 10 c.metadata d.metadata _ (lit≤ tt) g.sizes_ok.0.1.1.1.1.1.1.1.1.1.1.1.1.1.1 (λ e. (nm e).4),
                                    ),
                                  ),
                                ),
                              ),
                            ),
                          ),
                        ),
                      ),
                    ),
                  ),
                ),
              ),
            ),
          ),
          refl,
        );
      })

-- ---- what choices cost
-- x and y are equal and P holds, or y is nine more at least
pub data Step (P : Type 0) (x y : ℕ) : Type 0 where
  even : P → x ≡ y → Step P x y
  over : x + 9 ≤ y → Step P x y

step_add : {P Q : Type 0} {x y u v : ℕ} → Step P x y → Step Q u v → Step (P × Q) (x + u) (y + v)
step_add (even p e) (even q f) = even (p, q) (omega arith)
step_add (even p e) (over f) = over (omega arith)
step_add (over e) (even q f) = over (omega arith)
step_add (over e) (over f) = over (omega arith)

-- the same difference, elsewhere
step_move : {P : Type 0} {x y : ℕ} (a b : ℕ) → Step P x y → b + x ≡ a + y → Step P a b
step_move a b (even p e) f = even p (omega arith)
step_move a b (over e) f = over (omega arith)

step_width : (a b k : ℕ) (w n : Bool) → (w ≡ false → n ≡ false) → (w ≡ true → b * k + 9 ≤ a * k)
    → Step (n ≡ w) (sized n a b * k) (sized w a b * k)
step_width a b k true true h m = even refl refl
step_width a b k true false h m = over (m refl)
step_width a b k false true h m = absurd (true≢false (h refl))
step_width a b k false false h m = even refl refl

abbrev pub gain_len : Bool → Bool → Bool → ℕ
gain_len has same large = sized has (sized same 0 (sized large 15 7)) 0

abbrev dim_len : Bool → Bool → Bool → ℕ
dim_len has same large = sized large 15 7 + sized large 15 7 + (gain_len has same large + gain_len has same large)

-- the dimensions: w for the choice, n for the narrowest
step_dims : (has w n s m : Bool) → (w ≡ false → n ≡ false) → (has ≡ true → s ≡ true → m ≡ true) → (has ≡ false → s ≡ false)
    → (has ≡ false → m ≡ false) → Step ((n ≡ w) × (m ≡ s)) (dim_len has m n) (dim_len has s w)
step_dims true true true true true a b c d = even (refl, refl) refl
step_dims true true true true false a b c d = absurd (false≢true (b refl refl))
step_dims true true true false true a b c d = over (lit≤ tt)
step_dims true true true false false a b c d = even (refl, refl) refl
step_dims true true false true true a b c d = over (lit≤ tt)
step_dims true true false true false a b c d = absurd (false≢true (b refl refl))
step_dims true true false false true a b c d = over (lit≤ tt)
step_dims true true false false false a b c d = over (lit≤ tt)
step_dims true false true true true a b c d = absurd (true≢false (a refl))
step_dims true false true true false a b c d = absurd (true≢false (a refl))
step_dims true false true false true a b c d = absurd (true≢false (a refl))
step_dims true false true false false a b c d = absurd (true≢false (a refl))
step_dims true false false true true a b c d = even (refl, refl) refl
step_dims true false false true false a b c d = absurd (false≢true (b refl refl))
step_dims true false false false true a b c d = over (lit≤ tt)
step_dims true false false false false a b c d = even (refl, refl) refl
step_dims false true true true true a b c d = absurd (true≢false (c refl))
step_dims false true true true false a b c d = absurd (true≢false (c refl))
step_dims false true true false true a b c d = absurd (true≢false (d refl))
step_dims false true true false false a b c d = even (refl, refl) refl
step_dims false true false true true a b c d = absurd (true≢false (c refl))
step_dims false true false true false a b c d = absurd (true≢false (c refl))
step_dims false true false false true a b c d = absurd (true≢false (d refl))
step_dims false true false false false a b c d = over (lit≤ tt)
step_dims false false true true true a b c d = absurd (true≢false (a refl))
step_dims false false true true false a b c d = absurd (true≢false (a refl))
step_dims false false true false true a b c d = absurd (true≢false (a refl))
step_dims false false true false false a b c d = absurd (true≢false (a refl))
step_dims false false false true true a b c d = absurd (true≢false (c refl))
step_dims false false false true false a b c d = absurd (true≢false (c refl))
step_dims false false false false true a b c d = absurd (true≢false (d refl))
step_dims false false false false false a b c d = even (refl, refl) refl

len_field : (t : Bool) (n v : ℕ) → length ((field_if t n).print v) ≡ n * to_n t
len_field true n v = length-bits_n n v ∙ omega arith
len_field false n v = omega arith

len_more : (t : Bool) (n v : ℕ) → length ((minus1_if t n).print v) ≡ n * to_n t
unfolding view
len_more true n v = length-bits_n n (v - 1) ∙ omega arith
len_more false n v = omega arith

pub len_flag : (t b : Bool) → length ((flag_if t).print b) ≡ to_n t
unfolding view
len_flag true b = refl
len_flag false b = refl

len_gain_map_dimension : (has same large : Bool) (main v : ℕ) → length ((gain_map_dimension has same large main).print v) ≡ gain_len has same large
unfolding gain_map_dimension ◌>>=◌ view
len_gain_map_dimension true true large main v = refl
len_gain_map_dimension true false large main v = length-bits_n (sized large 15 7) (v - 1)
len_gain_map_dimension false same large main v = refl

-- how often each width is taken
abbrev md_count : MinimizedImage → ℕ
md_count i =
    to_n (is_some i.icc)
    + (to_n (i.has_gain_map && is_some i.gain_map.tmap_icc) + (to_n i.has_gain_map + (to_n (is_some i.exif) + to_n (is_some i.xmp))))

abbrev pub cc_count : MinimizedImage → ℕ
cc_count i = 1 + (to_n (i.alpha && ltb 0 i.alpha_data.len) + to_n (i.has_gain_map && ltb 0 i.gain_map.«data».len))

abbrev id_count : MinimizedImage → ℕ
id_count i = 1 + (to_n i.alpha + to_n i.has_gain_map)

abbrev varying : MinimizedImage → Choices → ℕ
varying i c =
    dim_len i.has_gain_map c.same c.large
    + (sized c.metadata 20 10 * md_count i + (sized c.config 12 3 * cc_count i + sized c.item 28 15 * id_count i))

pub len_dims : (i : MinimizedImage) (c : Choices) → length (dimensions.print (header_with i c).dimensions) ≡ 1 + (sized c.large 15 7 + sized c.large 15 7)
unfolding dimensions header_with ◌>>=◌ view
len_dims i c = simp (length-append, length-bits_n) (omega arith)

-- the gain map's head: its own fields, beside those whose width the choices give
pub len_gain : (i : MinimizedImage) (c : Choices)
    → length ((gain_map_header i.hdr (header_with i c).dimensions).print (header_with i c).gain_map)
    ≡ to_n i.hdr + 15 * to_n i.has_gain_map + 2 * gain_len i.has_gain_map c.same c.large
    + length ((chroma i.gain_map.chroma.subsampling).print i.gain_map.chroma)
    + length ((gain_map_format i.has_gain_map (is_float i.gain_map.format)).print i.gain_map.format)
    + length ((tmap_cicp (is_some i.gain_map.tmap_cicp)).print i.gain_map.tmap_cicp)
unfolding gain_map_header header_with ◌>>=◌ view
len_gain i c = simp (length-append, len_flag, len_field, len_gain_map_dimension) (omega arith)

pub len_sizes : (i : MinimizedImage) (c : Choices)
    → length ((chunk_sizes (header_with i c).flags (header_with i c).gain_map).print (header_with i c).sizes)
    ≡ to_n (is_some i.icc || is_some i.exif || is_some i.xmp || i.has_gain_map)
    + (2 + (to_n (is_some i.exif || is_some i.xmp)
    + (sized c.metadata 20 10 * md_count i + (sized c.config 12 3 * cc_count i + sized c.item 28 15 * id_count i))))
unfolding chunk_sizes header_with ◌>>=◌ view
len_sizes i c = simp (length-append, len_flag, len_field, len_more, length-bits_n, mul-add) (omega arith)

len_header : (i : MinimizedImage) (c d : Choices)
    → length (header.print (header_with i c)) + varying i d ≡ length (header.print (header_with i d)) + varying i c
unfolding header header_with ◌>>=◌ view
len_header i c d =
    simp length-append
    (omega (arith, len_dims i c, len_dims i d, len_gain i c, len_gain i d, len_sizes i c, len_sizes i d))

or_count : (a b : Bool) → to_n (a || b) ≤ to_n a + to_n b
or_count true b = omega arith
or_count false b = omega arith

on_unless : (a m : Bool) → (a ≡ false → m ≡ false) → m ≡ true → 1 ≤ to_n a
on_unless true m h e = omega arith
on_unless false m h e = absurd (true≢false (sym e ∙ h refl))

abbrev pub SameChoices : Choices → Choices → Type 0
SameChoices d c = ((d.large ≡ c.large) × (d.same ≡ c.same)) × ((d.metadata ≡ c.metadata) × ((d.config ≡ c.config) × (d.item ≡ c.item)))

pub same_choices : (d c : Choices) → SameChoices d c → d ≡ c
same_choices d c e =
    λ j. record { large = e.0.0 j; same = e.0.1 j; metadata = e.1.0 j; config = e.1.1.0 j; item = e.1.1.1 j }

md_count_lem : (i : MinimizedImage) → to_n (is_some i.icc || is_some i.exif || is_some i.xmp || i.has_gain_map) ≤ md_count i
md_count_lem i =
    omega (
      arith,
      or_count (is_some i.icc) (is_some i.exif),
      or_count (is_some i.icc || is_some i.exif) (is_some i.xmp),
      or_count (is_some i.icc || is_some i.exif || is_some i.xmp) i.has_gain_map,
    )

-- any other choices cost nine bits more at least
pub least_step : (i : MinimizedImage) (c : Choices) → header.Good (header_with i c)
    → Step (SameChoices (least i) c) (length (header.print (header_with i (least i)))) (length (header.print (header_with i c)))
least_step i c good =
    let d = least i in
    let m : c.metadata ≡ true → 10 * md_count i + 9 ≤ 20 * md_count i =
    λ e. omega (arith, md_count_lem i, on_unless (is_some i.icc || is_some i.exif || is_some i.xmp || i.has_gain_map) c.metadata (off_metadata i c good) e) in
    step_move _ _
    (step_add
    (step_dims i.has_gain_map c.large d.large c.same d.same (wide_large i c good) (wide_same i c good) (off_same i c good) (same_off i))
    (step_add
    (step_width 20 10 (md_count i) c.metadata d.metadata (wide_metadata i c good) m)
    (step_add
    (step_width 12 3 (cc_count i) c.config d.config (wide_config i c good) (λ e. omega arith))
    (step_width 28 15 (id_count i) c.item d.item (wide_item i c good) (λ e. omega arith)))))
    (len_header i c d)
