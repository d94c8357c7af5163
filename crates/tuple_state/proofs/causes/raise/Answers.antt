use Rattle.std.proofs.Common.{ℕ, ◌+◌, List, ap, get_or, set, subst, sym, ◌∙◌}
use Rattle.tuple_state.specs.Causes.{Raised, one_at}
use Rattle.tuple_state.proofs.Raising.{raised_again, raised_first}
use Rattle.tuple_state.proofs.causes.raise.Goals as goal
use Rattle.tuple_state.proofs.causes.raise.Goals.{then-causes-place-eq0, else-causes-place-eq0}

pub returns-clause-raised : goal.returns-clause-raised
returns-clause-raised c links =
    let causes = c.args.causes.now in
    let pending = c.args.pending.now.items in
    let place = c.args.place in
    elim c.if-causes-place-eq0.branch [
      | then-causes-place-eq0 w ↦
          let items = rw (w.unwrap.ensures) at w.push.ensures.items in
          subst (λ (v : List ℕ). Raised links (one_at place) causes pending (set causes place (get_or causes place 0 + 1)) v) (sym (ap (λ v. v.items) w.pending-is ∙ items))
          (raised_first causes place c.requires.inside pending w.if-causes-place-eq0.true links)
      | else-causes-place-eq0 w ↦
          subst (λ (v : List ℕ). Raised links (one_at place) causes pending (set causes place (get_or causes place 0 + 1)) v) (sym (ap (λ v. v.items) w.pending-is))
          (raised_again causes place c.requires.inside pending w.if-causes-place-eq0.false links)
    ]
