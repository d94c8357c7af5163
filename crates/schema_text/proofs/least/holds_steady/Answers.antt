use Rattle.std.proofs.Common.{◌≡◌, Bool, List, [], ◌∷◌, ◌++◌, ap, ◌∙◌}
use Rattle.std.specs.List.{list_all}
use Rattle.schema.specs.Least.{is_held_steady, is_steady_behind}
use Rattle.schema_text.proofs.least.holds_steady.Goals as goal

pub returns : goal.returns
returns c =
    let known = c.args.known.items in
    let targets = c.args.targets.now in
    let own = c.is_steady_behind-own.ensures ∙ ap (λ (s : List Bool). is_steady_behind s c.args.kept targets) c.as_slice.ensures.value in
    let items = c.in_ok-push.ensures.items in
    c.are_held_steady.ensures
    ∙ ap (λ (s : List Bool). list_all (is_held_steady s) targets) (c.as_slice-2.ensures.value ∙ items ∙ ap (λ (b : Bool). known ++ b ∷ []) own)
