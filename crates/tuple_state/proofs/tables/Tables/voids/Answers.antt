use Rattle.std.proofs.Common.{List, ap, map, sym, subst, ◌∙◌}
use Rattle.tuple_state.specs.declared.voided.Voided.{Voided}
use Rattle.table_model.specs.declared.void_line.VoidLine.{VoidLine}
use Rattle.table_model.specs.Tables.{AreVoidsIn}
use Rattle.tuple_state.specs.State.{State}
use Rattle.tuple_state.proofs.Voiding.{voids_now}
use Rattle.tuple_state.proofs.tables.Tables.voids.Goals as goal

pub returns : goal.returns
returns c rules nodes held =
    let kept = c.in_ok-lines.ensures ∙ ap (map (λ (it : Voided). it.line)) (c.as_slice.ensures.value ∙ ap (λ (s : State). s.voids) c.self.view_is) in
    subst (λ (l : List VoidLine). AreVoidsIn rules nodes l) (sym c.from_vec.ensures)
    (voids_now rules nodes c.args.self.now held c.in_ok-lines.lines.items c.sort_lines.result.items kept c.sort_lines.ensures.rising c.sort_lines.ensures.exact)
