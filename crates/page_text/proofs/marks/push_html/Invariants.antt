use Rattle.std.proofs.Common.{◌≡◌, ◌++◌, take}
use Rattle.page_text.specs.Marks.{html_text}
use Rattle.page_text.proofs.marks.push_html.Given as goal

-- the bytes so far
abbrev pub invariant-loop-byte : goal.invariant-loop-byte
invariant-loop-byte l = l.out.items ≡ l.fn.out.items ++ html_text (take l.byte-index l.text)
