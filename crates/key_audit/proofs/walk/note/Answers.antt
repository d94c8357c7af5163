use Rattle.std.proofs.Common.{◌≡◌, ◌∙◌, List, ℕ, Bool, true, sym, ap, subst}
use Rattle.std.specs.Prelude.{Some, option_map}
use Rattle.std.specs.BTreeMap.{get}
use Rattle.std.specs.Ordering.{is_eq}
use Rattle.key_audit.specs.Walk.{is_by, one_time_cmp, one_time_of, pair_data}
use Rattle.key_audit.specs.Pairs.{noted}
use Rattle.key_audit.specs.declared.one_time.OneTime.{OneTime}
use Rattle.key_audit.proofs.Noting.{equal_keys, note_is}
use Rattle.key_audit.proofs.walk.note.Goals as goal

pub returns-in-Ok : goal.returns-in-Ok
returns-in-Ok c q =
    let bytes : List ℕ = c.args.update.now in
    let key : c.one_time_of-key.result ≡ one_time_of bytes = c.one_time_of-key.ensures in
    let made : pair_data c.pair_with-pair.result ≡ noted (option_map pair_data (get one_time_cmp c.args.found.now c.one_time_of-key.result)) bytes = c.pair_with-pair.ensures in
    ap (option_map pair_data) (c.in-Ok.ensures.updates.0 q ∙ ap (λ (k : OneTime). Rattle.std.proofs.Common.cond (is_eq (one_time_cmp k q)) (Some c.pair_with-pair.result) (get one_time_cmp c.args.found.now q)) key)
    ∙ note_is (get one_time_cmp c.args.found.now q) (is_by q bytes) c.pair_with-pair.result bytes
    (λ yes. made ∙ ap (λ (k : OneTime). noted (option_map pair_data (get one_time_cmp c.args.found.now k)) bytes) (key ∙ equal_keys (one_time_of bytes) q yes))
