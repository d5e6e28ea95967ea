use Rattle.std.proofs.Common.{ap, rules, sym, Err, refl, ◌≡◌}
use Rattle.expander.specs.ExpandedLaws.{promised}
use Rattle.expander.specs.OutcomeLaws.{out_refused, expand-short, expand-done}
use Rattle.expander.specs.declared.file.FilePlan.{FilePlan}
use Rattle.expander.proofs.entry.equivalent_file.Goals as goal

pub returns-in_err-plan : goal.returns-in_err-plan
returns-in_err-plan c =
    let a = c.args in
    let s = a.source.now in
    let b = a.original.compatible_brands.now in
    let o = a.out.now in
    let e = c.in_err-plan.field-0.0 in
    let is : c.from_residual.result ≡ Err e = search rules in
    let all = promised a.image s a.original.major_brand a.original.minor_version b o (out_refused a.image s a.original.major_brand a.original.minor_version b o e c.in_err-plan.ensures.refusal) in
    rw is (record { answer = all.0; every_byte = tt; bounds = all.1.1 })

pub returns-then-out-plan : goal.returns-then-out-plan
returns-then-out-plan c =
    let a = c.args in
    let s = a.source.now in
    let b = a.original.compatible_brands.now in
    let p = c.in_ok-plan.ensures in
    let all = promised a.image s a.original.major_brand a.original.minor_version b a.out.now
    (expand-short a.image s a.original.major_brand a.original.minor_version b a.out.now (sym p.refusal) (ap (λ (q : FilePlan). q.len) p.plan) c.if-out-plan.true) in
    record { answer = all.0; every_byte = tt; bounds = all.1.1 }

pub returns : goal.returns
returns c =
    let a = c.args in
    let s = a.source.now in
    let b = a.original.compatible_brands.now in
    let p = c.in_ok-plan.ensures in
    let all = promised a.image s a.original.major_brand a.original.minor_version b a.out.now
    (expand-done a.image s a.original.major_brand a.original.minor_version b a.out.now (sym p.refusal) (ap (λ (q : FilePlan). q.len) p.plan) c.if-out-plan.false (ap (λ (q : FilePlan). q.file_type) p.plan) (ap (λ (q : FilePlan). q.content_start) p.plan) c.put_file.ensures) in
    record { answer = all.0; every_byte = all.1.0 refl; bounds = all.1.1 }
