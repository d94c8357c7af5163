-- What has been read of an expression, without where it lies in memory.
use Rattle.std.specs.Prelude.{List, reverse, map}
use Rattle.expression_text.specs.declared.pending.Pending.{Pending}
use Rattle.expression_text.specs.declared.pending.Pending.TheVariants as pending
use Rattle.expression_text.specs.declared.progress.Progress.{Progress}
use Rattle.expression_text.specs.declared.progress.Progress.TheVariants as progress
use Rattle.expression_text.specs.Machine.{Reading, Begun, After_len, After_column, After_term, After_sign, After_sign_len, After_is, After_native, After_number, After_comma, After_argument, Finished, Refused, Frame, Bracket, Before_not, Before_and, Before_or}
use Rattle.row_check.specs.Trees.{tree_of}

abbrev pub reading_of : Progress → Reading
reading_of progress.Begun = Begun
reading_of progress.AfterLen = After_len
reading_of (progress.AfterColumn column) = After_column column
reading_of (progress.AfterTerm left) = After_term left
reading_of (progress.AfterSign left cmp) = After_sign left cmp
reading_of (progress.AfterSignLen left cmp) = After_sign_len left cmp
reading_of (progress.AfterIs column) = After_is column
reading_of progress.AfterNative = After_native
reading_of (progress.AfterNumber number) = After_number number
reading_of (progress.AfterComma number columns) = After_comma number columns.items
reading_of (progress.AfterArgument number columns) = After_argument number columns.items
reading_of (progress.Finished expr) = Finished (tree_of expr)
reading_of progress.Refused = Refused

abbrev pub frame_of : Pending → Frame
frame_of pending.Bracket = Bracket
frame_of pending.Not = Before_not
frame_of (pending.And left) = Before_and (tree_of left)
frame_of (pending.Or left) = Before_or (tree_of left)

-- what stands open, the nearest first, where the nearest is the last
abbrev pub frames_of : List Pending → List Frame
frames_of pending = reverse (map frame_of pending)
