use Rattle.std.proofs.Common.{ℕ, List, Option, Some, None, Result, Ok, Err, ◌∙◌, ap, subst}
use Rattle.std.specs.Prelude.{IfNone, IfOk}
use Rattle.update_check.specs.Causes.{IsCause}
use Rattle.update_check.specs.Signed.{IsChecked}
use Rattle.update_stream.specs.Steps.{Takes, rule_for, set_after}
use Rattle.update_stream.proofs.take_record.take_record.Goals as goal

if_ok : {T E : Type 0} {P Q : T → Type 0} (result : Result T E) → ((x : T) → P x → Q x) → IfOk result P → IfOk result Q
if_ok (Ok x) more is = more x is
if_ok (Err e) more is = tt

all_ok : {T E : Type 0} {P : Type 0} (result : Result (Option T) E) → P → IfOk result (λ fault. IfNone fault P)
all_ok (Ok None) is = is
all_ok (Ok (Some x)) is = tt
all_ok (Err e) is = tt

pub returns-in-Err-check_next-clause-ok : goal.returns-in-Err-check_next-clause-ok
returns-in-Err-check_next-clause-ok c =
    let P : List ℕ → Type 0 = λ w. IsCause (rule_for c.args.given.now c.args.set.now w) w c.in-Err-check_next.fault in
    subst P c.in-Ok.ensures.same c.in-Err-check_next.ensures.fault

pub returns-clause-ok : goal.returns-clause-ok
returns-clause-ok c =
    let rule = rule_for c.args.given.now c.args.set.now c.args.bytes.items in
    let R : List ℕ → Type 0 = λ w. IsChecked (rule_for c.args.given.now c.args.set.now w) c.in-Ok-check_next.checked in
    let checked : IsChecked rule c.in-Ok-check_next.checked = subst R c.in-Ok.ensures.same c.in-Ok-check_next.ensures.found in
    if_ok c.add_next.result (λ fault told. subst (λ (w : List ℕ). Takes rule c.args.graph.now w c.add_next.new.graph fault) (c.in-Ok-check_next.ensures.same ∙ c.in-Ok.ensures.same) (told rule checked)) c.add_next.ensures.ok

pub returns-clause-set : goal.returns-clause-set
returns-clause-set c = all_ok c.add_next.result (c.in-Ok-check_next.ensures.set ∙ ap (set_after c.args.given.now c.args.set.now) c.in-Ok.ensures.same)
