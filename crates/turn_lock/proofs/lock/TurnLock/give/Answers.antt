use Rattle.std.proofs.Common.{rules, ◌+◌, ◌++◌, length, Some, sym, ap, ◌∙◌}
use Rattle.turn_lock.specs.Turns.{in_hand}
use Rattle.turn_lock.proofs.Keeps.{stores, passes_back}
use Rattle.turn_lock.proofs.lock.TurnLock.give.Goals as goal

pub store-requires : goal.store-requires
store-requires g c =
    let list = g.T.Kept.list in let e = c.exchange.ensures.3 in let inv = c.held.invariant in let view = c.held.view_is in let more = c.requires.added in (
      search rules,
      search rules,
      stores list g.T.Kept.maker _ _ _ more.0 c.args.held.seat c.args.held.act _ (ap (λ m. m.0.stage) e ∙ inv.stage_is)
          (ap (λ m. m.0.number) e ∙ inv.number_is ∙ ap (λ k. Some k.seat) view)
          (sym (ap (λ m. m.0.acts + 1) e ∙ inv.act_is ∙ ap (λ k. k.act) view))
          (ap (λ m. in_hand list m.1) e ∙ more.1 ∙ ap (λ k. k.taken ++ more.0) (sym view) ∙ ap (λ m. m.0.seen ++ more.0) (sym e))
          more.2
          (c.count-count.ensures ∙ sym (ap (λ m. length (in_hand list m.1)) e)),
    )

pub store-requires-2 : goal.store-requires-2
store-requires-2 g c = let e = c.exchange.ensures.3 in (
  search rules,
  search rules,
  passes_back g.T.Kept.list g.T.Kept.maker _ _ c.exchange.new.seat.me _ c.args.value _ _ c.store.ensures.2 (ap (λ m. m.1) e)
      (ap (λ (z : _). z + 1) (sym (ap (λ m. m.0.ticket) e ∙ c.held.invariant.ticket_is))),
)
