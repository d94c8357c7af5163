use Rattle.std.proofs.Common.{◌≡◌, rules}
use Rattle.std.specs.Ordering.{is_lt}
use Rattle.std.proofs.lemmas.List.Sorted.{IsPermutation-sym, answers_always, ranks_by}
use Rattle.update_model.specs.Entry.{id_cmp}
use Rattle.update_model.proofs.Ids.{id_cmp_total}
use Rattle.table_model.specs.declared.void_line.VoidLine.{VoidLine}
use Rattle.table_model.proofs.Rising.{rising_from_sort}
use Rattle.table_model.proofs.sorting.sort_lines.Goals as goal

pub returns-clause-exact : goal.returns-clause-exact
returns-clause-exact c = IsPermutation-sym c.args.lines.items c.sort_unstable_by.new.self.items c.sort_unstable_by.ensures.permutation

pub returns-clause-rising : goal.returns-clause-rising
returns-clause-rising c apart =
    rising_from_sort (λ (x : VoidLine). x.id) id_cmp id_cmp_total c.args.lines.items c.sort_unstable_by.new.self.items c.sort_unstable_by.ensures.permutation apart
    (c.sort_unstable_by.ensures.sorted (λ x y. is_lt (id_cmp x.id y.id)) (ranks_by id_cmp_total (λ (x : VoidLine). x.id))
    (answers_always _ (λ a r. is_lt r ≡ is_lt (id_cmp a.0.now.id a.1.0.now.id)) _ (λ f a r q k. search rules)))
