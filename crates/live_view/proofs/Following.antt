-- Views over lists of calls.
use Rattle.std.proofs.Common.{◌≡◌, ◌∙◌, List, [], ◌∷◌, sym, ap, subst}
use Rattle.std.specs.Prelude.{ℕ, Bool, None, Some}
use Rattle.update_model.specs.Node.{NodeData}
use Rattle.table_model.specs.Visible.{Rules}
use Rattle.live_view.specs.Named.{IsNamed}
use Rattle.query.specs.Queries.{QueryData}
use Rattle.query_answer.specs.Answers.{AnswerData, IsAnswerOver}
use Rattle.live_view.specs.Named.{RiseByName}
use Rattle.live_view.specs.Calls.{Call, refreshed, flushed, Comes, HandedOut, IsRun, handed_out}
use Rattle.live_view.specs.Changes.{IsChange, Line}
use Rattle.live_view.specs.Shown.{AreLinesOf, IsView, ViewData, showing}
use Rattle.live_view.specs.declared.change.Change.{Change}
use Rattle.live_view.proofs.Differing.{makes}

-- what is known of answers of named queries
abbrev pub Rise : Type 0
Rise = (rules : Rules) (nodes : List NodeData) (query : QueryData) (answer : AnswerData) → IsNamed query → IsAnswerOver rules nodes query answer → RiseByName answer.rows

pub lines_rise : Rise → (rules : Rules) (nodes : List NodeData) (query : QueryData) (lines : List Line) → IsNamed query → AreLinesOf rules nodes query lines → RiseByName lines
lines_rise rise rules nodes query lines named are = subst RiseByName are.2 (rise rules nodes query are.0 named are.1)

-- a change is handed out
handed : {G : Type 0} → Rise → (rules : Rules) (first next last : ViewData G) (nodes : List NodeData) (lines : List Line) (change : Change) (rest : List HandedOut)
    → IsView first → AreLinesOf rules nodes first.query lines → IsChange first.shown lines change → next ≡ showing first lines
    → (IsView next → Comes rules next.query next.shown rest last.shown) → Comes rules first.query first.shown ((change, nodes) ∷ rest) last.shown
handed {G} rise rules first next last nodes lines change rest view are is shows later =
    let rising = lines_rise rise rules nodes first.query lines view.named are in
    let now : IsView (showing first lines) = record { named = view.named; rising = rising } in (
      lines,
      are,
      makes first.shown lines change rising is,
      subst (λ (v : ViewData G). Comes rules v.query v.shown rest last.shown) shows (later (subst (λ (v : ViewData G). IsView v) (sym shows) now)),
    )

pub comes : {G : Type 0} → Rise → (wants : ℕ → ℕ → ℕ → Bool) (rules : Rules) (first last : ViewData G) (calls : List Call)
    → IsView first → IsRun wants rules first calls last → Comes rules first.query first.shown (handed_out calls) last.shown
comes {G} rise wants rules first last [] view run = ap (λ (v : ViewData G). v.shown) run
comes {G} rise wants rules first last (refreshed nodes None ∷ calls) view (next, called, run) =
    let same : next ≡ first = called.2.0 in
    subst (λ (v : ViewData G). Comes rules v.query v.shown (handed_out calls) last.shown) same
    (comes rise wants rules next last calls (subst (λ (v : ViewData G). IsView v) (sym same) view) run)
comes {G} rise wants rules first last (refreshed nodes (Some change) ∷ calls) view (next, called, run) =
    handed rise rules first next last nodes called.0 change (handed_out calls) view called.1 called.2.2 called.2.0 (λ now. comes rise wants rules next last calls now run)
comes {G} rise wants rules first last (flushed nodes change ∷ calls) view (next, called, run) =
    handed rise rules first next last nodes called.0 change (handed_out calls) view called.1 called.2.is called.2.shows (λ now. comes rise wants rules next last calls now run)
