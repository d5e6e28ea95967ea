-- Which items a file has is found again in 'iinf' and 'iref'.
use Rattle.std.specs.Prelude.{◌≡◌, refl, Bool, true, false, cond, ◌&&◌, ◌||◌, [], ◌∷◌, ◌++◌, ◌<◌, eqb}
use Rattle.std.specs.List.{list_any}
use Rattle.std.proofs.Common.{sym}
use Rattle.std.proofs.Math.Bool.{and-true, and-false, or-false}
use Rattle.std.proofs.lemmas.List.Folds.{list_any-append}
use Rattle.items.specs.ItemInfo.{exif_type, content_type, content_encoding, iinf_body}
use Rattle.items.specs.declared.ItemSet.{ItemSet}
use Rattle.mini.specs.ItemKind.{XMP}
use Rattle.carried.specs.ReadItems.{compressed, items_in}
use Rattle.carried.proofs.Entries.{infe_entry, entries_read}
use Rattle.carried.proofs.References.{iref_if, refs_read}

-- of something that is there or not
any_if : {X : Type 0} (p : X → Bool) (on : Bool) (x : X) → list_any p (cond on (x ∷ []) []) ≡ (on && p x)
any_if p true x = or-false (p x)
any_if p false x = refl

-- premultiplied only with alpha
with_alpha : (a p : Bool) → (a ≡ false → p ≡ false) → (a && p) ≡ p
with_alpha true p h = refl
with_alpha false p h = sym (h refl)

-- compressed only with Exif or XMP, and told by each
told : (e x c : Bool) → ((e || x) ≡ false → c ≡ false)
    → ((e && eqb (exif_type c) (exif_type true)) || (x && compressed (infe_entry XMP 0x6D696D65 (content_type ++ content_encoding c)))) ≡ c
told true true true h = refl
told true true false h = refl
told true false true h = refl
told true false false h = refl
told false true true h = refl
told false true false h = refl
told false false c h = sym (h refl)

pub items_again : (t : ItemSet) → t.item_type < 4294967296 → (t.alpha ≡ false → t.premultiplied ≡ false) → ((t.exif || t.xmp) ≡ false → t.compressed ≡ false)
    → items_in (iinf_body t) (iref_if t) ≡ t
unfolding items_in
items_again t h p c =
    rw (entries_read t h, refs_read t)
    (simp (list_any-append, any_if, and-true, and-false, or-false)
    (λ j. record t { premultiplied = with_alpha t.alpha t.premultiplied p j; compressed = told t.exif t.xmp t.compressed c j }))
