use Rattle.std.proofs.Common.{◌≤◌, ℕ, List, length, take, drop, sym, ap, subst, arith}
use Rattle.std.proofs.lemmas.List.{length-take-le, take-append-drop}
use Rattle.update_check.specs.Members.{AreMembers}
use Rattle.history.proofs.Arriving.{front_closed}
use Rattle.history.specs.Histories.{HistoryData}
use Rattle.history.specs.Kept.{AreViewsOf}
use Rattle.history.proofs.Fronts.{views_cut_back}
use Rattle.history.proofs.Steps.{history_of, members_cut}
use Rattle.history.proofs.history.History.cut.Goals as goal

pub cut-requires : goal.cut-requires
cut-requires g c =
    let at = c.self.inside in
    let low : c.args.len ≤ length at.graph = subst (λ (h : HistoryData). c.args.len ≤ length h.members) (sym c.self.view_is) c.requires in
    record {
      held = record {
        ask = g.L.Relation.answer;
        schema = at.schema;
        members = at.graph;
        count = length at.graph;
        closed = c.len.ensures.closed;
        low = low;
        within = omega arith;
        are = c.self.invariant.are;
      };
    }

pub cut-requires-2 : goal.cut-requires-2
cut-requires-2 g c = subst (λ (h : HistoryData). c.args.len ≤ length h.members) (sym c.self.view_is) c.requires

pub invariant_of-self : goal.invariant_of-self
invariant_of-self g c =
    let ask = g.L.Relation.answer in
    let at = c.self.inside in
    let len : ℕ = c.args.len in
    let views = c.cut.new.self in
    let low : len ≤ length at.graph = subst (λ (h : HistoryData). len ≤ length h.members) (sym c.self.view_is) c.requires in
    let are : AreViewsOf ask at.schema at.graph len views = c.cut.ensures (record {
      ask = ask;
      schema = at.schema;
      members = at.graph;
      count = length at.graph;
      closed = c.len.ensures.closed;
      low = low;
      within = omega arith;
      are = c.self.invariant.are;
    }) in
    let front = take len at.graph in
    let back : AreViewsOf ask at.schema front (length front) views =
    views_cut_back ask at.schema front (drop len at.graph) at.graph views (front_closed at.graph len c.len.ensures.closed) (sym (take-append-drop len at.graph))
    (subst (λ (n : ℕ). AreViewsOf ask at.schema at.graph n views) (sym (length-take-le len at.graph low)) are) in
    record {
      is = record {
        unlimited = c.self.invariant.is.unlimited;
        members = subst (AreMembers at.schema.rule) (sym c.cut-2.ensures) (members_cut at.schema.rule at.graph len c.self.invariant.is.members);
      };
      are = subst (λ (l : List (List ℕ)). AreViewsOf ask at.schema l (length l) views) (sym c.cut-2.ensures) back;
    }

pub returns : goal.returns
returns g c = rw (← c.self.view_is) (ap (history_of c.self.inside.schema) c.cut-2.ensures)
