use Rattle.std.proofs.Common.{arith, Bool, List, ap, cond, map, not, refl, rules, sym, tests, ℕ, ◌∷◌, [], ◌∙◌, ◌≡◌, ◌+◌}
use Rattle.std.specs.List.{position, prefix_len}
use Rattle.std.proofs.lemmas.List.{length-map}
use Rattle.std.proofs.lemmas.Iterator.{YieldsList-from_slice}
use Rattle.std.proofs.lemmas.Iterator.Search.{position_from_yields_List}
use Rattle.bits.specs.Run.{state}
use Rattle.bits.specs.State.{State}
use Rattle.bits.specs.declared.Bits.{Bits}
use Rattle.outline.specs.Diagnosis.{is_refused, part_number}
use Rattle.outline.specs.Ends.{states}
use Rattle.outline.proofs.diagnosis.refused_part.Goals as goal

-- the first among the states is the first among what the code holds
prefix-map : (p : State → Bool) (l : List Bits) → prefix_len p (map state l) ≡ prefix_len (λ b. p (state b)) l
prefix-map p [] = refl
prefix-map p (b ∷ l) = ap (λ (n : ℕ). cond (p (state b)) (1 + n) 0) (prefix-map p l)

position-map : (p : State → Bool) (l : List Bits) → position p (map state l) ≡ position (λ b. p (state b)) l
position-map p l = rw (prefix-map (λ b. not (p b)) l, length-map)

pub returns-in-Some : goal.returns-in-Some
unfolding state states
returns-in-Some c =
    let found : c.position.result ≡ position (λ b. is_refused (state b)) c.args.ends.now =
    position_from_yields_List _ _ _ c.position.result c.position.ensures.ran (YieldsList-from_slice c.args.ends.now cc) (λ x b q k. search (rules, tests)) in
    omega (arith, ap part_number (sym c.in-Some.is ∙ found ∙ sym (position-map is_refused c.args.ends.now)))

pub returns-in-None : goal.returns-in-None
unfolding state states
returns-in-None c =
    let found : c.position.result ≡ position (λ b. is_refused (state b)) c.args.ends.now =
    position_from_yields_List _ _ _ c.position.result c.position.ensures.ran (YieldsList-from_slice c.args.ends.now cc) (λ x b q k. search (rules, tests)) in
    ap part_number (sym c.in-None.is ∙ found ∙ sym (position-map is_refused c.args.ends.now))
