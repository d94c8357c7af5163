use Rattle.std.proofs.Common.{◌≡◌, drop}
use Rattle.std.specs.List.{list_all}
use Rattle.row_check.specs.Meaning.{value_at}
use Rattle.validity.specs.Asked.{match_asked}
use Rattle.validity.proofs.referring.matches_hold.Given as goal

-- the rules that are left decide
abbrev pub invariant-loop-rule : goal.invariant-loop-rule
invariant-loop-rule g l =
    list_all (λ rule. match_asked l.own (g.Q.RowsAt.row l.rows) l.values rule (value_at l.values rule.reference)) (drop l.rule-index l.rules)
    ≡ list_all (λ rule. match_asked l.own (g.Q.RowsAt.row l.rows) l.values rule (value_at l.values rule.reference)) l.rules
