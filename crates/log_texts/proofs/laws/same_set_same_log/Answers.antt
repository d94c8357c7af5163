use Rattle.std.proofs.Common.{◌∙◌, sym, ap, map, reverse}
use Rattle.graph_drawing.proofs.SamePictures.{same_order}
use Rattle.log_texts.specs.Entries.{entry_of}
use Rattle.log_texts.specs.Logs.{log_text}
use Rattle.log_texts.proofs.laws.same_set_same_log.Goals as goal

pub returns : goal.returns
returns c style rows tables xs ys told text other closed also same a b =
    let order = same_order xs ys closed also same a.1.0 b.1.0 a.1.1 b.1.1 in
    a.2 ∙ ap (log_text style rows tables) (a.1.2 ∙ ap (λ placed. reverse (map (entry_of told) placed)) order ∙ sym b.1.2) ∙ sym b.2
