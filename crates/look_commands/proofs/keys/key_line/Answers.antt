use Rattle.std.proofs.Common.{◌∙◌, ◌++◌, ◌∷◌, [], ℕ, List, ap}
use Rattle.graph_drawing.specs.Words.{key_digits}
use Rattle.look_commands.proofs.KeyShown.{digits_are}
use Rattle.look_commands.proofs.keys.key_line.Goals as goal

pub returns : goal.returns
returns c =
    let digits = c.in_ok-push_key.ensures in
    let empty = c.new-line.ensures.items in
    c.in_ok-push.ensures.items ∙ ap (λ (w : List ℕ). w ++ 10 ∷ []) (digits ∙ ap (λ (w : List ℕ). w ++ key_digits c.args.key.now) empty) ∙ digits_are c.args.key.now
