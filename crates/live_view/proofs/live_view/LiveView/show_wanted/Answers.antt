use Rattle.std.proofs.Common.{◌≡◌, ◌∙◌, List, sym, ap, subst}
use Rattle.std.proofs.lemmas.Bool.{true≢false}
use Rattle.live_view.specs.Named.{RiseByName}
use Rattle.live_view.specs.Changes.{IsChange, Line}
use Rattle.live_view.specs.Shown.{IsView, ViewData, showing}
use Rattle.live_view.specs.declared.change.Change.{Change}
use Rattle.live_view.proofs.Refreshing.{refreshes_same, refreshes_unwanted, refreshes_wanted}
use Rattle.live_view.proofs.live_view.LiveView.show_wanted.Goals as goal

pub returns-then-is_empty-clause-refreshes : goal.returns-then-is_empty-clause-refreshes
returns-then-is_empty-clause-refreshes g c =
    let lines : List Line = c.args.lines.items in
    let change : Change = c.in_ok-change.change in
    let shown : c.self.inside.shown.items ≡ c.args.self.now.shown = ap (λ (v : ViewData _). v.shown) c.self.view_is in
    let is : IsChange c.args.self.now.shown lines change = subst (λ (b : List Line). IsChange b lines change) (c.deref.ensures.value ∙ shown)
    (subst (λ (a : List Line). IsChange c.deref.result.now a change) c.deref-2.ensures.value c.in_ok-change.ensures) in
    refreshes_same g.W.Wish.wants c.args.self.now lines change (subst RiseByName shown c.self.invariant.rising) c.requires is (c.is_empty.ensures.0 c.if-is_empty.true)

pub returns-then-not-is_wanted-clause-refreshes : goal.returns-then-not-is_wanted-clause-refreshes
returns-then-not-is_wanted-clause-refreshes g c =
    let lines : List Line = c.args.lines.items in
    let change : Change = c.in_ok-change.change in
    let shown : c.self.inside.shown.items ≡ c.args.self.now.shown = ap (λ (v : ViewData _). v.shown) c.self.view_is in
    let is : IsChange c.args.self.now.shown lines change = subst (λ (b : List Line). IsChange b lines change) (c.deref.ensures.value ∙ shown)
    (subst (λ (a : List Line). IsChange c.deref.result.now a change) c.deref-2.ensures.value c.in_ok-change.ensures) in
    refreshes_unwanted g.W.Wish.wants c.args.self.now lines change is (sym c.is_wanted.ensures ∙ c.if-not-is_wanted.true)

pub returns-clause-refreshes : goal.returns-clause-refreshes
returns-clause-refreshes g c =
    let lines : List Line = c.args.lines.items in
    let change : Change = c.in_ok-change.change in
    let shown : c.self.inside.shown.items ≡ c.args.self.now.shown = ap (λ (v : ViewData _). v.shown) c.self.view_is in
    let is : IsChange c.args.self.now.shown lines change = subst (λ (b : List Line). IsChange b lines change) (c.deref.ensures.value ∙ shown)
    (subst (λ (a : List Line). IsChange c.deref.result.now a change) c.deref-2.ensures.value c.in_ok-change.ensures) in
    refreshes_wanted g.W.Wish.wants c.args.self.now _ lines change (ap (λ (v : ViewData _). showing v lines) c.self.view_is) is
    (λ none. true≢false (sym (c.is_empty.ensures.1 none) ∙ c.if-is_empty.false)) (sym c.is_wanted.ensures ∙ c.if-not-is_wanted.false)
