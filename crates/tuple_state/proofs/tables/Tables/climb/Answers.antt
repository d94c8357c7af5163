use Rattle.std.proofs.Common.{◌≡◌, false, ◌&&◌, ◌||◌, ap, sym, ◌∙◌}
use Rattle.std.specs.List.{list_all}
use Rattle.table_model.specs.Visible.{cascade_refs, is_visible}
use Rattle.tuple_state.specs.Kept.{place_of}
use Rattle.tuple_state.specs.Parents.{passes_place}
use Rattle.tuple_state.specs.State.{done_in, row_of, rules_of_state}
use Rattle.tuple_state.specs.declared.links.Link.{Link}
use Rattle.tuple_state.proofs.Spans.{links_tested}
use Rattle.tuple_state.proofs.Walking.{and_turned, only_link}
use Rattle.tuple_state.proofs.tables.Tables.climb.Goals as goal

pub returns-then-comes_last-clause-each : goal.returns-then-comes_last-clause-each
returns-then-comes_last-clause-each c it at test =
    let s = c.args.self.now in
    let refs = cascade_refs (rules_of_state s) (row_of it) in
    let old = list_all test c.args.pending.now.keys in
    let hidden : is_visible (rules_of_state s) (done_in s) it.name ≡ false = sym (c.is_marked.ensures it at) ∙ c.if-is_marked.false in
    ap (λ b. b && old) (only_link (λ (l : Link). test l.place) c.parents-parents.result.now (record { place = 0; number = 0 }) c.in-len1.len_at_least c.in-len1.len_below
    ∙ links_tested (place_of s.inserted) c.args.place c.parents-parents.result.now refs (c.parents-parents.ensures it at) test
    ∙ sym (ap (λ b. b || list_all (λ r. passes_place test (place_of s.inserted r.name)) refs) hidden))
    ∙ and_turned (is_visible (rules_of_state s) (done_in s) it.name || list_all (λ r. passes_place test (place_of s.inserted r.name)) refs) old

pub returns-clause-each : goal.returns-clause-each
returns-clause-each c it at test =
    let s = c.args.self.now in
    let refs = cascade_refs (rules_of_state s) (row_of it) in
    let old = list_all test c.args.pending.now.keys in
    let hidden : is_visible (rules_of_state s) (done_in s) it.name ≡ false = sym (c.is_marked.ensures it at) ∙ c.if-is_marked.false in
    c.take_last-2.ensures.each test ∙ c.in_ok-add_parents.ensures test
    ∙ ap (λ b. old && b) (links_tested (place_of s.inserted) c.args.place c.parents-parents.result.now refs (c.parents-parents.ensures it at) test
    ∙ sym (ap (λ b. b || list_all (λ r. passes_place test (place_of s.inserted r.name)) refs) hidden))
