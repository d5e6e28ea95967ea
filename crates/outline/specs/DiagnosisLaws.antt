-- What a diagnosis tells of every payload: the part that it names is the first after which there is a refusal, and each later part ends at the
-- refusal's bit; it names one exactly under 5 to 8. It has a chunk exactly under 9: the one that begins at the bit, with the bytes that pass the
-- payload's end. All the chunks it has under 0 and 9: those of the outline, and those in which that one lies there. Assumes nothing.
use Rattle.std.specs.Prelude.{◌≡◌, ◌≢◌, refl, Bool, true, false, not, cond, ◌⊎◌, List, [], ◌∷◌, ◌++◌, map, Option, Some, None, ℕ, zero, suc, ◌+◌, ◌-◌, ◌*◌, ◌/◌, ◌≤◌, ◌<◌, T, eqb, leb, nat_lt, length, slice_index, slice_index_or, replicate}
use Rattle.std.specs.List.{position, position_or_len}
use Rattle.std.proofs.Common.{sym, ap, ◌∙◌, subst, inl, inr, arith, length-append, eq-eqb, ne_eqb, eqb-true, leb→le, le-leb, ltb-true, ltb-false}
use borrow.Author.Tests.{lt-leb}
use Rattle.std.proofs.lemmas.Bool.{eqb-false, not-true}
use Rattle.std.proofs.lemmas.List.{get_or-map}
use Rattle.std.proofs.lemmas.List.Quantifiers.{position-Some}
use Rattle.std.proofs.lemmas.List.Sums.{prefix_len_passes}
use Rattle.std.proofs.lemmas.Option.{none-some}
use Rattle.octets.specs.BigEndianLaws.{length-be}
use Rattle.layout.specs.PartBytes.{length_chunk}
use Rattle.bits.specs.State.{State, clean}
use Rattle.bits.specs.Format.{Format, and_split}
use Rattle.mini.specs.Chunks.{end_within}
use Rattle.mini.specs.Cut.{sum, of_within}
use Rattle.mini.specs.Payload.{chunks_start, header-bytes, accepted, found, header-found, reads_image}
use Rattle.mini.specs.Read.{Reading, bits_to_boundary, past_trailing_bits, read_mini}
use Rattle.mini.specs.RefusedBit.{at_chunks, found_sizes, ChunkPast}
use Rattle.mini.specs.Syntax.{trailing_bits}
use Rattle.mini.specs.declared.ChunkSizes.{ChunkSizes}
use Rattle.mini.specs.declared.Header.{Header}
use Rattle.mini.specs.declared.MinimizedImage.{MinimizedImage}
use Rattle.mini.proofs.RefusedBit.{by_cases, header_not_nine, header_within, nine}
use Rattle.outline.specs.Chunks.{stored_order, size_of, chunk_of, stored_order_lem}
use Rattle.outline.specs.Diagnosis.{is_refused, part_number, refused_part, first_chunk_past, accepted_header, past_chunk_of, past_chunk, past_chunk_bytes, chunk_entries_of, chunk_entries, diagnosis_bytes}
use Rattle.outline.specs.Ends.{Parts, ◌next◌, done, header_parts, part_states, place, places, part_ends, whole_header}
use Rattle.outline.specs.OutlineBytes.{place_bytes, entry, entries}
use Rattle.outline.specs.OutlineLaws.{accepted_chunks, chunk_begins}
use Rattle.outline.specs.declared.diagnosis.PastChunk.{PastChunk}

-- ---- it is as long as docs/ABI.md says
length_past_chunk : (c : Option PastChunk) → length (past_chunk_bytes c) ≡ 17
length_past_chunk None = refl
length_past_chunk (Some c) = simp (length-append, length-be)

length_entries : (h : Option (Header × ℕ)) → length (chunk_entries_of h) ≡ 198
unfolding entries stored_order entry
length_entries None = refl
length_entries (Some h) = simp (length-append, length_chunk)

pub length_diagnosis : (s : List ℕ) → length (diagnosis_bytes s) ≡ 321
unfolding diagnosis_bytes place_bytes part_ends places part_states header_parts ◌next◌ chunk_entries
length_diagnosis s = simp (length-append, length-be, length_past_chunk, length_entries)

-- ---- whether reading refused the header
pub header_is : (s : List ℕ) → (at_chunks s).refusal ≡ 0 → accepted_header s ≡ Some (found s, (at_chunks s).at / 8)
unfolding accepted_header
header_is s z = ap (λ (t : Bool). cond t (Some (found s, (at_chunks s).at / 8)) None) (eq-eqb (at_chunks s).refusal 0 z)

pub no_header : (s : List ℕ) → (at_chunks s).refusal ≢ 0 → accepted_header s ≡ None
unfolding accepted_header
no_header s n = ap (λ (t : Bool). cond t (Some (found s, (at_chunks s).at / 8)) None) (ne_eqb (at_chunks s).refusal 0 n)

header_accepted : (s : List ℕ) → ((read_mini s).refusal ≡ 0) ⊎ ((read_mini s).refusal ≡ 9) → (at_chunks s).refusal ≡ 0
header_accepted s (inl z) = (accepted_chunks s z).0
header_accepted s (inr z) =
    by_cases s (λ (r p : ℕ). r ≡ 9 → (at_chunks s).refusal ≡ 0) (λ e. absurd (omega (arith, e))) (λ n e. absurd (header_not_nine s e))
    (λ e f g. e) z

header_refused : (s : List ℕ) → (read_mini s).refusal ≢ 0 → (read_mini s).refusal ≢ 9
    → at_chunks s ≡ record { at = (read_mini s).bit; refusal = (read_mini s).refusal }
header_refused s =
    by_cases s (λ (r p : ℕ). r ≢ 0 → r ≢ 9 → at_chunks s ≡ record { at = p; refusal = r }) (λ e f. absurd (e refl)) (λ n e f. refl)
    (λ z f g h. absurd (h refl))

-- ---- each state after one that has a refusal is the same
unfoldable Stuck : State → List State → Type 0
Stuck b [] = Unit {0}
Stuck b (c ∷ l) = (b.refusal ≢ 0 → c ≡ b) × Stuck c l

abbrev Sticks : Parts → Type 0
Sticks k = (s : List ℕ) (b last : State) → ((k s b).1.refusal ≢ 0 → last ≡ (k s b).1) → Stuck b ((k s b).0 ++ (last ∷ []))

sticks_done : Sticks done
unfolding Stuck
sticks_done s b last h = (h, tt)

sticks_next : {A : Type 0} (p : Format A) (k : A → Parts) → ((a : A) → Sticks (k a)) → Sticks (p next k)
unfolding Stuck ◌next◌
sticks_next p k e s b last h = let r = p.parse s b in (p.sticks s b, e r.0 s r.1 last h)

header_sticks : Sticks header_parts
unfolding header_parts
header_sticks =
    sticks_next _ _ λ f. sticks_next _ _ λ d. sticks_next _ _ λ c. sticks_next _ _ λ o. sticks_next _ _ λ p. sticks_next _ _ λ i. sticks_next _ _ λ t. sticks_next _ _ λ g. sticks_next _ _ λ h. sticks_next _ _ λ m. sticks_next _ _ λ z. sticks_done

parts_stick : (s : List ℕ) → Stuck (clean 0) (part_states s)
unfolding part_states past_trailing_bits
parts_stick s =
    let b = (header_parts s (clean 0)).1 in
    header_sticks s (clean 0) (past_trailing_bits s b) ((trailing_bits (bits_to_boundary b.at)).sticks s b)

stuck_after : (b : State) (l : List State) (k : ℕ) (d : State) → Stuck b l → b.refusal ≢ 0 → k < length l → slice_index_or l k d ≡ b
unfolding Stuck
stuck_after b [] k d s e h = absurd (omega (arith, h))
stuck_after b (c ∷ l) zero d s e h = s.0 e
stuck_after b (c ∷ l) (suc k) d s e h =
    let same = s.0 e in
    stuck_after c l k d s.1 (subst (λ (x : State). x.refusal ≢ 0) (sym same) e) (omega arith) ∙ same

stuck_from : (b : State) (l : List State) (j k : ℕ) (d : State) → Stuck b l → (slice_index_or l j d).refusal ≢ 0 → j ≤ k → k < length l
    → slice_index_or l k d ≡ slice_index_or l j d
unfolding Stuck
stuck_from b [] j k d s e i h = absurd (omega (arith, h))
stuck_from b (c ∷ l) zero zero d s e i h = refl
stuck_from b (c ∷ l) zero (suc k) d s e i h = stuck_after c l k d s.1 e (omega arith)
stuck_from b (c ∷ l) (suc j) zero d s e i h = absurd (omega arith)
stuck_from b (c ∷ l) (suc j) (suc k) d s e i h = stuck_from c l j k d s.1 e (omega arith) (omega arith)

-- ---- the part that a diagnosis names
-- the state after the part of a number
abbrev pub state_after : List ℕ → ℕ → State
state_after s n = slice_index_or (part_states s) (n - 1) (clean 0)

twelve_parts : (s : List ℕ) → length (part_states s) ≡ 12
unfolding part_states header_parts ◌next◌
twelve_parts s = refl

last_part : (s : List ℕ) → state_after s 12 ≡ at_chunks s
unfolding part_states header_parts ◌next◌
last_part s = ap (past_trailing_bits s) (whole_header s (clean 0))

-- reading was refused in the part of number n: each part before it was read, and from it on the state is that of the refusal
pub record RefusedIn (s : List ℕ) (n : ℕ) : Type 0 where
  pub from_1 : 1 ≤ n
  pub to_12 : n ≤ 12
  pub before : (k : ℕ) → 1 ≤ k → k < n → (state_after s k).refusal ≡ 0
  pub after : (k : ℕ) → n ≤ k → k ≤ 12 → state_after s k ≡ record { at = (read_mini s).bit; refusal = (read_mini s).refusal }

refused : (b : State) → is_refused b ≡ true → b.refusal ≢ 0
refused b e z = omega (arith, z, ltb-true 0 b.refusal e)

not_refused : (b : State) → is_refused b ≡ false → b.refusal ≡ 0
not_refused b e = omega (arith, ltb-false 0 b.refusal e)

-- where no state has a refusal, the last has none
none_refused : (l : List State) (k : ℕ) → position is_refused l ≡ None → k < length l → (slice_index_or l k (clean 0)).refusal ≡ 0
none_refused l k e h = go (nat_lt (position_or_len is_refused l) (length l)) refl e
  where
    n : ℕ
    n = position_or_len is_refused l

    go : (t : Bool) → nat_lt n (length l) ≡ t → cond t (Some n) None ≡ None → (slice_index_or l k (clean 0)).refusal ≡ 0
    go true f g = absurd (none-some n (sym g))
    go false f g =
        not_refused (slice_index_or l k (clean 0)) (not-true _ (prefix_len_passes (λ b. not (is_refused b)) l k (clean 0) (omega (arith, h, ltb-false n (length l) f))))

-- under 5 to 8 it is the part in which reading was refused
pub part_told : (s : List ℕ) → (read_mini s).refusal ≢ 0 → (read_mini s).refusal ≢ 9 → RefusedIn s (refused_part s)
unfolding refused_part
part_told s z e = go (position is_refused (part_states s)) refl
  where
    l : List State
    l = part_states s

    told : at_chunks s ≡ record { at = (read_mini s).bit; refusal = (read_mini s).refusal }
    told = header_refused s z e

    go : (o : Option ℕ) → position is_refused l ≡ o → RefusedIn s (part_number o)
    go None f =
        absurd (z (sym (ap (λ (b : State). b.refusal) (last_part s ∙ told)) ∙ none_refused l 11 f (omega (arith, twelve_parts s))))
    go (Some j) f =
        let w = position-Some is_refused l j (clean 0) f in
        let r = refused (slice_index_or l j (clean 0)) w.1 in
        let last : slice_index_or l 11 (clean 0) ≡ slice_index_or l j (clean 0) =
        stuck_from (clean 0) l j 11 (clean 0) (parts_stick s) r (omega (arith, w.0, twelve_parts s)) (omega (arith, twelve_parts s)) in
        record {
          from_1 = omega arith;
          to_12 = omega (arith, w.0, twelve_parts s);
          before = λ k a b. not_refused (slice_index_or l (k - 1) (clean 0)) (w.2 (k - 1) (omega arith));
          after =
              λ k a b.
              stuck_from (clean 0) l j (k - 1) (clean 0) (parts_stick s) r (omega arith) (omega (arith, twelve_parts s))
              ∙ sym last
              ∙ last_part s
              ∙ told;
        }

-- else there is none
pub no_part : (s : List ℕ) → ((read_mini s).refusal ≡ 0) ⊎ ((read_mini s).refusal ≡ 9) → refused_part s ≡ 0
unfolding refused_part
no_part s z = go (position is_refused (part_states s)) refl
  where
    l : List State
    l = part_states s

    go : (o : Option ℕ) → position is_refused l ≡ o → part_number o ≡ 0
    go None f = refl
    go (Some j) f =
        let w = position-Some is_refused l j (clean 0) f in
        let r = refused (slice_index_or l j (clean 0)) w.1 in
        let last : slice_index_or l 11 (clean 0) ≡ slice_index_or l j (clean 0) =
        stuck_from (clean 0) l j 11 (clean 0) (parts_stick s) r (omega (arith, w.0, twelve_parts s)) (omega (arith, twelve_parts s)) in
        absurd (r (ap (λ (b : State). b.refusal) (sym last ∙ last_part s) ∙ header_accepted s z))

-- and from the part named on, each part ends at the bit
pub end_told : (s : List ℕ) (k : ℕ) → (read_mini s).refusal ≢ 0 → (read_mini s).refusal ≢ 9 → refused_part s ≤ k → k ≤ 12
    → slice_index (part_ends s) (k - 1) ≡ (read_mini s).bit
unfolding part_ends places
end_told s k z e h i =
    let w = part_told s z e in
    get_or-map place (part_states s) (k - 1) (clean 0) 0 (omega (arith, twelve_parts s, w.from_1)) ∙ ap place (w.after k h i)

-- ---- the chunk
-- laid from `at` on, they all end within n bytes
none_past : (z : ChunkSizes) (l : List ℕ) (n at : ℕ) → at ≤ n → T (end_within n at (map (size_of z) l)) → first_chunk_past z (n - at) l ≡ None
unfolding first_chunk_past end_within
none_past z [] n at h w = refl
none_past z (k ∷ l) n at h w =
    let x = size_of z k in
    let q = and_split (leb (at + x) n) (end_within n (at + x) (map (size_of z) l)) w in
    let i : at + x ≤ n = leb→le (at + x) n q.0 in
    let room : n - at - x ≡ n - (at + x) = omega arith in
    rw (le-leb x (n - at) (omega arith), room) (none_past z l n (at + x) i q.1)

-- or the first that does not is the one behind those that do
this_past : (z : ChunkSizes) (l : List ℕ) (n at : ℕ) (before : List ℕ) (size : ℕ) (after : List ℕ) → at ≤ n
    → map (size_of z) l ≡ before ++ (size ∷ after) → T (end_within n at before) → n < at + sum before + size
    → first_chunk_past z (n - at) l
    ≡ Some (record { number = slice_index l (length before); len = size; missing = at + sum before + size - n })
unfolding first_chunk_past end_within
this_past z [] n at [] size after h e w o = absurd (cc)
this_past z [] n at (y ∷ before) size after h e w o = absurd (cc)
this_past z (k ∷ l) n at [] size after h e w o =
    let same : size_of z k ≡ size = cc in
    let missing : size - (n - at) ≡ at + sum [] + size - n = omega arith in
    rw (same, lt-leb size (n - at) (omega arith), missing)
this_past z (k ∷ l) n at (y ∷ before) size after h e w o =
    let same : size_of z k ≡ y = cc in
    let rest : map (size_of z) l ≡ before ++ (size ∷ after) = cc in
    let q = and_split (leb (at + y) n) (end_within n (at + y) before) w in
    let i : at + y ≤ n = leb→le (at + y) n q.0 in
    let room : n - at - y ≡ n - (at + y) = omega arith in
    let sums : at + sum (y ∷ before) ≡ at + y + sum before = omega arith in
    rw (same, le-leb y (n - at) (omega arith), room, sums) (this_past z l n (at + y) before size after i rest q.1 (omega (arith, o)))

-- where the chunks begin, and that it is within the payload
start : (s : List ℕ) → (at_chunks s).refusal ≡ 0 → ((at_chunks s).at / 8 ≡ chunks_start (found s)) × (chunks_start (found s) ≤ length s)
start s z =
    let g = header-found s z in
    let e = header-bytes (found s) in
    (omega (arith, g.2, e), omega (arith, g.2, e, header_within s))

starts : (s : List ℕ) → (at_chunks s).refusal ≡ 0 → accepted_header s ≡ Some (found s, chunks_start (found s))
starts s z = header_is s z ∙ ap (λ (k : ℕ). Some (found s, k)) (start s z).0

none_accepted : (s : List ℕ) → (read_mini s).refusal ≢ 0 → (read_mini s).refusal ≢ 9 → accepted_header s ≡ None
none_accepted s z n = no_header s (λ x. z (sym (ap (λ (b : State). b.refusal) (header_refused s z n)) ∙ x))

-- behind a header that is accepted, the chunks are tried
tried : (s : List ℕ) → (at_chunks s).refusal ≡ 0
    → past_chunk s ≡ first_chunk_past (found s).sizes (length s - chunks_start (found s)) stored_order
unfolding past_chunk
tried s z = ap (past_chunk_of (length s)) (starts s z)

-- under 9 it is the one at the bit, and lacks the bytes that pass the payload's end
pub chunk_told : (s : List ℕ) → (read_mini s).refusal ≡ 9 → (p : ChunkPast s (read_mini s).bit)
    → past_chunk s
    ≡ Some (record {
      number = slice_index stored_order (length p.past.before);
      len = p.past.size;
      missing = (read_mini s).bit / 8 + p.past.size - length s;
    })
chunk_told s z p =
    let h = header_accepted s (inr z) in
    let b = start s h in
    let at = chunks_start (found s) in
    tried s h
    ∙ this_past (found s).sizes stored_order (length s) at p.past.before p.past.size p.past.after b.1 (stored_order_lem (found s).sizes ∙ p.past.split) p.past.fit p.past.over
    ∙ ap (λ (k : ℕ). Some (record { number = slice_index stored_order (length p.past.before); len = p.past.size; missing = k + p.past.size - length s }))
    (omega (arith, p.begins))

-- in bytes: from bit / 8 on, its length is what is there and what is missing
pub chunk_missing : (s : List ℕ) → (read_mini s).refusal ≡ 9
    → (c : PastChunk) × (past_chunk s ≡ Some c) × ((read_mini s).bit ≡ 8 * ((read_mini s).bit / 8))
    × ((read_mini s).bit / 8 + c.len ≡ length s + c.missing) × (0 < c.missing)
chunk_missing s z =
    let p = nine s z in
    let o = p.past.over in
    let b = p.begins in
    (_, chunk_told s z p, omega (arith, b), omega (arith, b, o), omega (arith, b, o))

-- else there is none
pub no_chunk : (s : List ℕ) → (read_mini s).refusal ≢ 9 → past_chunk s ≡ None
unfolding past_chunk found
no_chunk s n = go (eqb (read_mini s).refusal 0) refl
  where
    sizes : ChunkSizes
    sizes = (found s).sizes

    go : (t : Bool) → eqb (read_mini s).refusal 0 ≡ t → past_chunk s ≡ None
    go true e =
        let w = accepted_chunks s (eqb-true _ _ e) in
        let b = start s w.0 in
        let fit : T (end_within (length s) (chunks_start (found s)) (map (size_of sizes) stored_order)) =
        subst (λ (l : List ℕ). T (end_within (length s) (chunks_start (found s)) l)) (sym (stored_order_lem sizes))
        (subst (λ (k : ℕ). T (end_within (length s) k (found_sizes s))) b.0 w.1) in
        tried s w.0 ∙ none_past sizes stored_order (length s) (chunks_start (found s)) b.1 fit
    go false e = ap (past_chunk_of (length s)) (none_accepted s (eqb-false _ _ e) n)

-- ---- all the chunks
-- of a payload that is accepted they are those of its outline
pub entries_outlined : (s : List ℕ) → (read_mini s).refusal ≡ 0 → chunk_entries s ≡ entries (read_mini s).image stored_order
unfolding chunk_entries accepted
entries_outlined s z =
    ap chunk_entries_of (starts s (header_accepted s (inl z)))
    ∙ ap (λ (r : Reading). entries r.image stored_order) (sym (reads_image s z))

-- under 9 they are those of a record in which the chunk told has its length, and begins at the bit
pub entry_told : (s : List ℕ) → (read_mini s).refusal ≡ 9
    → (i : MinimizedImage) × (c : PastChunk) × (chunk_entries s ≡ entries i stored_order) × (past_chunk s ≡ Some c)
    × (chunk_of i c.number ≡ Some (record { at = (read_mini s).bit / 8; len = c.len }))
unfolding chunk_entries
entry_told s z =
    let p = nine s z in
    let h = header_accepted s (inr z) in
    let at = chunks_start (found s) in
    let before : at + sum p.past.before ≤ length s = of_within p.past.before (length s) at (start s h).1 p.past.fit in
    let b : at + sum p.past.before ≡ (read_mini s).bit / 8 = omega (arith, p.begins) in (
      _,
      _,
      ap chunk_entries_of (starts s h),
      chunk_told s z p,
      chunk_begins (found s) at p.good p.past.before p.past.size p.past.after p.past.split (omega (arith, before, p.past.over))
          ∙ ap (λ (k : ℕ). Some (record { at = k; len = p.past.size })) b,
    )

-- else there are none
pub no_entries : (s : List ℕ) → (read_mini s).refusal ≢ 0 → (read_mini s).refusal ≢ 9 → chunk_entries s ≡ replicate 198 0
unfolding chunk_entries
no_entries s z n = ap chunk_entries_of (none_accepted s z n)
