use Rattle.std.proofs.Common.{◌≡◌, ap, ◌++◌, inl, inr, refl, sym, subst, ◌∙◌}
use Rattle.std.specs.List.Sorted.{IsStrictlySortedBy}
use Rattle.std.proofs.lemmas.List.Elements.{Contains-append_cases}
use Rattle.session_rules.proofs.Bounds.{sorted_none}
use Rattle.schema.specs.Data.{SchemaData}
use Rattle.update_model.specs.Entry.{id_cmp}
use Rattle.update_model.specs.Rule.{RuleData}
use Rattle.demonstration.proofs.Sites.{grown}
use Rattle.demonstration.proofs.meeting.sync.Goals as goal

pub sync_pair-requires-clause-rising_a : goal.sync_pair-requires-clause-rising_a
sync_pair-requires-clause-rising_a c = subst (IsStrictlySortedBy id_cmp) (sym (c.from_vec.ensures ∙ c.new.ensures.items)) sorted_none

pub sync_pair-requires-clause-rising_b : goal.sync_pair-requires-clause-rising_b
sync_pair-requires-clause-rising_b c = subst (IsStrictlySortedBy id_cmp) (sym (c.from_vec-2.ensures ∙ c.new-2.ensures.items)) sorted_none

pub returns-clause-one : goal.returns-clause-one
returns-clause-one c = λ keys schema made a b.
    let one = c.args.one.now in
    let other = c.args.other.now in
    grown keys schema made (one.store.history.members ++ other.store.history.members) one other (record { store = c.sync_pair.new.a; key = one.key; last = one.last }) refl a b
    c.len.ensures.history c.len-2.ensures.history c.len-3.ensures.history c.sync_pair.ensures.keeps_a.store.schema
    (λ m x. Contains-append_cases one.store.history.members other.store.history.members m x) c.sync_pair.ensures.moves_a.grows

pub returns-clause-other : goal.returns-clause-other
returns-clause-other c = λ keys schema made a b.
    let one = c.args.one.now in
    let other = c.args.other.now in
    grown keys schema made (one.store.history.members ++ other.store.history.members) other one (record { store = c.sync_pair.new.b; key = other.key; last = other.last }) refl b a
    c.len-2.ensures.history c.len.ensures.history c.len-4.ensures.history c.sync_pair.ensures.keeps_b.store.schema
    (λ m x. elim (Contains-append_cases one.store.history.members other.store.history.members m x) [ inl here ↦ inr here | inr there ↦ inl there ]) c.sync_pair.ensures.moves_b.grows

pub returns-clause-meets : goal.returns-clause-meets
returns-clause-meets c = record {
  key = refl;
  key_other = refl;
  last = refl;
  last_other = refl;
  was = c.len.ensures.history;
  was_other = c.len-2.ensures.history;
  closed = c.len-3.ensures.history;
  closed_other = c.len-4.ensures.history;
  unites = λ same apart room room_other.
      let rule : c.args.one.now.store.history.schema.rule ≡ c.args.other.now.store.history.schema.rule = ap (λ (s : SchemaData). s.rule) same in
      let database = ap (λ (r : RuleData). r.database) (c.behind-schema.view_is ∙ c.rule.ensures ∙ ap (λ (s : SchemaData). s.rule) c.schema.ensures) in
      let database_other = ap (λ (r : RuleData). r.database) (c.behind-schema-2.view_is ∙ c.rule-2.ensures ∙ ap (λ (s : SchemaData). s.rule) c.schema-2.ensures) in
      let both = c.in_ok-ended.ensures.unites rule (database ∙ ap (λ (r : RuleData). r.database) rule ∙ sym database_other) apart (c.in_ok-ended.ensures.room apart room room_other) c.in_default.not-Store in
      (both.list_a, both.list_b);
}
