use Rattle.std.proofs.Common.{◌≡◌, ℕ, List, [], ◌++◌, option_map, rules}
use Rattle.std.specs.Prelude.{Option}
use Rattle.explanations.specs.declared.marks.Marks.{Marks}
use Rattle.explanations.specs.Explained.{explained_by, front_of, key_of, setting_of}
use Rattle.explanations.specs.Table.{entry_for}
use Rattle.explanations.proofs.Told.{explained_from, looked_up}
use Rattle.explanations.proofs.explaining.explain.Goals as goal

pub returns : goal.returns
returns c =
    let setting = setting_of c.args.asked.now in
    let front : List ℕ = c.as_slice-2.result.now in
    let key : List ℕ = c.as_slice-3.result.now in
    let found : Option (Marks × List ℕ) = option_map (λ entry. (entry.0, entry.1.now)) c.in_ok-found.found in
    let is_front : front ≡ front_of c.args.said.now = search rules in
    let is_key : key ≡ key_of c.args.said.now setting.status = search rules in
    let is_first : c.as_slice.result.now ≡ key = search rules in
    let entry : found ≡ entry_for c.table.result.now c.as_bytes-command.result.now c.as_slice.result.now = c.in_ok-found.ensures in
    let is_found = looked_up c.table.result.now c.as_bytes-command.result.now c.as_slice.result.now key found setting entry c.table.ensures c.as_bytes-command.ensures.value is_first in
    let is_out : c.push_entry.new.out.items ≡ [] ++ explained_by front key setting found = search rules in
    explained_from c.args.said.now setting front key c.push_entry.new.out.items found is_front is_key is_found is_out
